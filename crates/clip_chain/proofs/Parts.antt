-- The common part of a rectangle and others: its points, where it lies, and that it comes rectangle by rectangle.
use Rattle.std.proofs.Common.{◌≡◌, ◌↔◌, ◌∙◌, ℤ, Bool, true, false, cond, ◌&&◌, List, [], ◌∷◌, Some, None, ap, refl, sym, arith}
use Rattle.std.specs.Prelude.{int_le, ◌≤ℤ◌, ◌-ℤ◌, pos, fold, IfSome}
use Rattle.std.specs.Int.{int_min, int_max}
use Rattle.std.proofs.lemmas.Int.{ints}
use Rattle.std.proofs.lemmas.Bool.{and_parts}
use Rattle.px_units.specs.declared.Rect.{Rect}
use Rattle.px_units.specs.Rects.{has_points, overlap, meeting, Holds, HeldBy}
use Rattle.px_units.proofs.Meeting.{in_both, held_by_some, held, point_within, in_overlap}
use Rattle.page_model.specs.Chains.{common_part}
use Rattle.clip_chain.specs.Ranges.{IsEdge, IsSide, IsBounds}
use Rattle.thresholds.proofs.Areas.{le_of, lower, upper}
use Rattle.thresholds.proofs.Crossing.{not_both}

-- what is there only where a test is met

met : (r part : Rect) (b : Bool) → has_points r ≡ b → cond b (Some r) None ≡ Some part → (r ≡ part) × (has_points part ≡ true)
met r part true e h = let same : r ≡ part = cc in (same, ap has_points (sym same) ∙ e)
met r part false e h = let wrong : None ≡ Some part = h in absurd (let no : ⊥ = cc in no)

pub lost : (r : Rect) (b : Bool) → cond b (Some r) None ≡ None → b ≡ false
lost r true h = cc
lost r false h = refl

-- rectangles that meet

pub meets : (a b part : Rect) → meeting a b ≡ Some part → (overlap a b ≡ part) × (has_points part ≡ true)
meets a b part h = met (overlap a b) part (has_points (overlap a b)) refl h

pub misses : (a b : Rect) → meeting a b ≡ None → has_points (overlap a b) ≡ false
misses a b h = lost (overlap a b) (has_points (overlap a b)) h

-- once no point is common, none is

crossed : (a b c d : ℤ) → int_le a c ≡ false → int_le (int_max a b) (int_min c d) ≡ false
crossed a b c d e = grind (arith, ints)

still_none : (a b : Rect) → has_points a ≡ false → has_points (overlap a b) ≡ false
still_none a b e =
    not_both (int_le a.left a.right) (int_le a.top a.bottom) (int_le (overlap a b).left (overlap a b).right) (int_le (overlap a b).top (overlap a b).bottom) e
    (crossed a.left b.left a.right b.right)
    (crossed a.top b.top a.bottom b.bottom)

none_in_fold : (first : Rect) (others : List Rect) → has_points first ≡ false → has_points (fold overlap first others) ≡ false
none_in_fold first [] e = e
none_in_fold first (x ∷ xs) e = none_in_fold (overlap first x) xs (still_none first x e)

pub none_left : (first : Rect) (others : List Rect) → has_points first ≡ false → None ≡ common_part first others
unfolding common_part
none_left first others e = sym (ap (λ b. cond b (Some (fold overlap first others)) None) (none_in_fold first others e))

pub all_left : (first : Rect) → has_points first ≡ true → Some first ≡ common_part first []
unfolding common_part
all_left first e = sym (ap (λ b. cond b (Some first) None) e)

pub one_more : (first other : Rect) (others : List Rect) → common_part first (other ∷ others) ≡ common_part (overlap first other) others
unfolding common_part
one_more first other others = refl

-- the points of a common part

abbrev pub HoldsAll : ℤ → ℤ → List Rect → Type 0
HoldsAll x y [] = Unit {0}
HoldsAll x y (r ∷ rs) = Holds r x y × HoldsAll x y rs

in_each : (first : Rect) (others : List Rect) (x y : ℤ) → Holds (fold overlap first others) x y → Holds first x y × HoldsAll x y others
in_each first [] x y h = (h, tt)
in_each first (r ∷ rs) x y h =
    let rest = in_each (overlap first r) rs x y h in
    let both = in_both first r x y rest.0 in
    (both.0, (both.1, rest.1))

in_fold : (first : Rect) (others : List Rect) (x y : ℤ) → Holds first x y → HoldsAll x y others → Holds (fold overlap first others) x y
in_fold first [] x y h hs = h
in_fold first (r ∷ rs) x y h hs = in_fold (overlap first r) rs x y (in_overlap first r x y h hs.0) hs.1

pub held_by_part : (first : Rect) (others : List Rect) (x y : ℤ) → HeldBy (common_part first others) x y ↔ (Holds first x y × HoldsAll x y others)
unfolding common_part
held_by_part first others x y =
    let whole = fold overlap first others in (
      (λ h. in_each first others x y (held_by_some whole (has_points whole) x y h)),
      (λ h. let within : Holds whole x y = in_fold first others x y h.0 h.1 in held whole (has_points whole) x y (point_within whole x y within) within),
    )

-- where a common part lies

record Within (r first : Rect) : Type 0 where
  left : first.left ≤ℤ r.left
  top : first.top ≤ℤ r.top
  right : r.right ≤ℤ first.right
  bottom : r.bottom ≤ℤ first.bottom

shrinks : (first r other : Rect) → Within r first → Within (overlap r other) first
shrinks first r other w = record {
  left = lower first.left r.left other.left w.left;
  top = lower first.top r.top other.top w.top;
  right = upper first.right r.right other.right w.right;
  bottom = upper first.bottom r.bottom other.bottom w.bottom;
}

fold_within : (first r : Rect) (others : List Rect) → Within r first → Within (fold overlap r others) first
fold_within first r [] w = w
fold_within first r (x ∷ xs) w = fold_within first (overlap r x) xs (shrinks first r x w)

side : (low high left right : ℤ) → low ≤ℤ left → right ≤ℤ high → left ≤ℤ right → IsSide (high -ℤ low) → IsSide (right -ℤ left)
side low high left right g h k s = record {
  low = omega (arith, ints);
  high = let most : (high -ℤ low) ≤ℤ pos 1099511627776 = s.high in omega (arith, ints);
}

edge_up : (edge first other : ℤ) → first ≤ℤ edge → edge ≤ℤ other → IsEdge first → IsEdge other → IsEdge edge
edge_up edge first other g h a b = let low = a.low in let high = b.high in record { low = omega (arith, ints); high = omega (arith, ints) }

bounds_within : (first r : Rect) → IsBounds first → Within r first → has_points r ≡ true → IsBounds r
bounds_within first r bounds w points =
    let order = and_parts (int_le r.left r.right) (int_le r.top r.bottom) points in
    let across = le_of r.left r.right order.0 in
    let down = le_of r.top r.bottom order.1 in
    let edges = bounds.edges in
    record {
      edges = record {
        left = edge_up r.left first.left first.right w.left (omega (arith, ints, across, w.right)) edges.left edges.right;
        top = edge_up r.top first.top first.bottom w.top (omega (arith, ints, down, w.bottom)) edges.top edges.bottom;
        right = edge_up r.right first.left first.right (omega (arith, ints, across, w.left)) w.right edges.left edges.right;
        bottom = edge_up r.bottom first.top first.bottom (omega (arith, ints, down, w.top)) w.bottom edges.top edges.bottom;
      };
      width = side first.left first.right r.left r.right w.left w.right across bounds.width;
      height = side first.top first.bottom r.top r.bottom w.top w.bottom down bounds.height;
    }

if_met : (r : Rect) (b : Bool) → (b ≡ true → IsBounds r) → IfSome (cond b (Some r) None) IsBounds
if_met r true f = f refl
if_met r false f = tt

le_self : (a : ℤ) → a ≤ℤ a
le_self a = omega (arith, ints)

pub part_within : (first : Rect) (others : List Rect) → IsBounds first → IfSome (common_part first others) IsBounds
unfolding common_part
part_within first others bounds =
    let all : Within first first = record { left = le_self first.left; top = le_self first.top; right = le_self first.right; bottom = le_self first.bottom } in
    let whole = fold overlap first others in
    if_met whole (has_points whole) (λ points. bounds_within first whole bounds (fold_within first first others all) points)
