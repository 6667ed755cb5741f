-- The common part of two rectangles.
use Rattle.std.proofs.Common.{◌≡◌, ℤ, Bool, true, false, cond, ◌&&◌, ◌↔◌, Some, None, ap, ◌∙◌, arith, subst, sym}
use Rattle.std.specs.Prelude.{int_le, ◌≤ℤ◌}
use Rattle.std.specs.Int.{int_min, int_max}
use Rattle.std.proofs.lemmas.Int.{ints}
use Rattle.px_units.specs.declared.Rect.{Rect}
use Rattle.px_units.specs.Rects.{has_points, overlap, meeting, Holds, HeldBy}
use Rattle.px_units.proofs.Edges.{same_rect}

max_order : (a b : ℤ) → int_max a b ≡ int_max b a
max_order a b = grind (arith, ints)

min_order : (a b : ℤ) → int_min a b ≡ int_min b a
min_order a b = grind (arith, ints)

pub same_overlap : (a b : Rect) → overlap a b ≡ overlap b a
same_overlap a b = same_rect (max_order a.left b.left) (max_order a.top b.top) (min_order a.right b.right) (min_order a.bottom b.bottom)

pub no_order : (a b : Rect) → meeting a b ≡ meeting b a
no_order a b = ap (λ (r : Rect). cond (has_points r) (Some r) None) (same_overlap a b)

from_max : (a b x : ℤ) → int_max a b ≤ℤ x → (a ≤ℤ x) × (b ≤ℤ x)
from_max a b x h = (grind (arith, ints), grind (arith, ints))

to_max : (a b x : ℤ) → a ≤ℤ x → b ≤ℤ x → int_max a b ≤ℤ x
to_max a b x g h = grind (arith, ints)

from_min : (a b x : ℤ) → x ≤ℤ int_min a b → (x ≤ℤ a) × (x ≤ℤ b)
from_min a b x h = (grind (arith, ints), grind (arith, ints))

to_min : (a b x : ℤ) → x ≤ℤ a → x ≤ℤ b → x ≤ℤ int_min a b
to_min a b x g h = grind (arith, ints)

le_between : (a x b : ℤ) → a ≤ℤ x → x ≤ℤ b → int_le a b ≡ true
le_between a x b g h = let f : a ≤ℤ b = omega (arith, ints) in grind (arith, ints)

pub in_both : (a b : Rect) (x y : ℤ) → Holds (overlap a b) x y → Holds a x y × Holds b x y
in_both a b x y h =
    let l = from_max a.left b.left x h.right_of_left in
    let t = from_max a.top b.top y h.below_top in
    let r = from_min a.right b.right x h.left_of_right in
    let u = from_min a.bottom b.bottom y h.above_bottom in (
      record { right_of_left = l.0; left_of_right = r.0; below_top = t.0; above_bottom = u.0 },
      record { right_of_left = l.1; left_of_right = r.1; below_top = t.1; above_bottom = u.1 },
    )

pub in_overlap : (a b : Rect) (x y : ℤ) → Holds a x y → Holds b x y → Holds (overlap a b) x y
in_overlap a b x y g h = record {
  right_of_left = to_max a.left b.left x g.right_of_left h.right_of_left;
  left_of_right = to_min a.right b.right x g.left_of_right h.left_of_right;
  below_top = to_max a.top b.top y g.below_top h.below_top;
  above_bottom = to_min a.bottom b.bottom y g.above_bottom h.above_bottom;
}

-- a rectangle that holds a point has points
pub point_within : (r : Rect) (x y : ℤ) → Holds r x y → has_points r ≡ true
point_within r x y h =
    ap (λ b. b && int_le r.top r.bottom) (le_between r.left x r.right h.right_of_left h.left_of_right)
    ∙ le_between r.top y r.bottom h.below_top h.above_bottom

pub held_by_some : (r : Rect) (b : Bool) (x y : ℤ) → HeldBy (cond b (Some r) None) x y → Holds r x y
held_by_some r true x y h = h
held_by_some r false x y h = absurd h

pub held : (r : Rect) (b : Bool) (x y : ℤ) → b ≡ true → Holds r x y → HeldBy (cond b (Some r) None) x y
held r b x y e h = subst (λ (v : Bool). HeldBy (cond v (Some r) None) x y) (sym e) h

pub common_points : (a b : Rect) (x y : ℤ) → HeldBy (meeting a b) x y ↔ (Holds a x y × Holds b x y)
common_points a b x y = (
  (λ h. in_both a b x y (held_by_some (overlap a b) (has_points (overlap a b)) x y h)),
  (λ h. let within : Holds (overlap a b) x y = in_overlap a b x y h.0 h.1 in
      held (overlap a b) (has_points (overlap a b)) x y (point_within (overlap a b) x y within) within),
)
