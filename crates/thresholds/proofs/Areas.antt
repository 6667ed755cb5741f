-- What is seen of a box lies in it, and has no larger area.
use Rattle.std.proofs.Common.{◌≡◌, ◌≤◌, ◌*◌, Bool, true, false, cond, List, [], ◌∷◌, Option, Some, None, ap, refl, sym, subst, ◌∙◌, arith}
use Rattle.std.specs.Prelude.{ℤ, pos, ◌≤ℤ◌, ◌-ℤ◌, unsigned_abs, int_le, ◌&&◌, ◌==◌, fold, IfSome, option_map, unwrap_or, is_some}
use Rattle.std.specs.Int.{int_min, int_max}
use Rattle.std.proofs.lemmas.Int.{ints}
use Rattle.std.proofs.lemmas.Nat.{mul-le}
use Rattle.std.proofs.lemmas.Bool.{and_parts}
use Rattle.px_units.specs.declared.Rect.{Rect}
use Rattle.px_units.specs.Rects.{area, has_points, meeting, overlap}
use Rattle.page_model.specs.Chains.{common_part}
use Rattle.page_model.specs.Findings.{Ratio, all_or_nothing, ratio_of}
use Rattle.thresholds.specs.Areas.{LiesIn}

-- areas of rectangles whose edges are in order, and of others

le_true : (a b : ℤ) → a ≤ℤ b → int_le a b ≡ true
le_true a b h = grind (arith, ints)

pub le_of : (a b : ℤ) → int_le a b ≡ true → a ≤ℤ b
le_of a b e = grind (arith, ints)

sides_of : (r : Rect) → has_points r ≡ true → (r.left ≤ℤ r.right) × (r.top ≤ℤ r.bottom)
sides_of r points =
    let order = and_parts (int_le r.left r.right) (int_le r.top r.bottom) points in
    (le_of r.left r.right order.0, le_of r.top r.bottom order.1)

area_is : (r : Rect) → r.left ≤ℤ r.right → r.top ≤ℤ r.bottom → area r ≡ unsigned_abs (r.right -ℤ r.left) * unsigned_abs (r.bottom -ℤ r.top)
area_is r across down =
    ap (λ b. cond (b && int_le r.top r.bottom) (unsigned_abs (r.right -ℤ r.left) * unsigned_abs (r.bottom -ℤ r.top)) 0) (le_true r.left r.right across)
    ∙ ap (λ b. cond b (unsigned_abs (r.right -ℤ r.left) * unsigned_abs (r.bottom -ℤ r.top)) 0) (le_true r.top r.bottom down)

area_none : (r : Rect) → has_points r ≡ false → area r ≡ 0
area_none r none = ap (λ b. cond b (unsigned_abs (r.right -ℤ r.left) * unsigned_abs (r.bottom -ℤ r.top)) 0) none

abs_side : (a b : ℤ) → a ≤ℤ b → (b -ℤ a) ≤ℤ pos 1099511627776 → unsigned_abs (b -ℤ a) ≤ 1099511627776
abs_side a b order most = omega (arith, ints)

pub area_most : (r : Rect) → (r.right -ℤ r.left) ≤ℤ pos 1099511627776 → (r.bottom -ℤ r.top) ≤ℤ pos 1099511627776 → area r ≤ 1208925819614629174706176
area_most r width height = by_points (has_points r) refl
  where
    by_points : (b : Bool) → has_points r ≡ b → area r ≤ 1208925819614629174706176
    by_points true points =
        let sides = sides_of r points in
        subst (λ n. n ≤ 1208925819614629174706176) (sym (area_is r sides.0 sides.1))
        (mul-le (unsigned_abs (r.right -ℤ r.left)) (unsigned_abs (r.bottom -ℤ r.top)) 1099511627776 1099511627776
        (abs_side r.left r.right sides.0 width) (abs_side r.top r.bottom sides.1 height))
    by_points false none = subst (λ n. n ≤ 1208925819614629174706176) (sym (area_none r none)) (omega arith)

abs_within : (low high a b : ℤ) → low ≤ℤ a → b ≤ℤ high → a ≤ℤ b → unsigned_abs (b -ℤ a) ≤ unsigned_abs (high -ℤ low)
abs_within low high a b one two three = omega (arith, ints)

no_more : (a b c : ℤ) → a ≤ℤ b → b ≤ℤ c → a ≤ℤ c
no_more a b c one two = omega (arith, ints)

area_less : (outer inner : Rect) → LiesIn outer inner → area inner ≤ area outer
area_less outer inner lies = by_points (has_points inner) refl
  where
    by_points : (b : Bool) → has_points inner ≡ b → area inner ≤ area outer
    by_points true points =
        let sides = sides_of inner points in
        let across = no_more outer.left inner.right outer.right (no_more outer.left inner.left inner.right lies.left sides.0) lies.right in
        let down = no_more outer.top inner.bottom outer.bottom (no_more outer.top inner.top inner.bottom lies.top sides.1) lies.bottom in
        subst (λ n. n ≤ area outer) (sym (area_is inner sides.0 sides.1))
        (subst (λ n. unsigned_abs (inner.right -ℤ inner.left) * unsigned_abs (inner.bottom -ℤ inner.top) ≤ n) (sym (area_is outer across down))
        (mul-le (unsigned_abs (inner.right -ℤ inner.left)) (unsigned_abs (inner.bottom -ℤ inner.top)) (unsigned_abs (outer.right -ℤ outer.left)) (unsigned_abs (outer.bottom -ℤ outer.top))
        (abs_within outer.left outer.right inner.left inner.right lies.left lies.right sides.0)
        (abs_within outer.top outer.bottom inner.top inner.bottom lies.top lies.bottom sides.1)))
    by_points false none = subst (λ n. n ≤ area outer) (sym (area_none inner none)) (omega arith)

pub seen_less : (outer : Rect) (cut : Option Rect) → IfSome cut (LiesIn outer) → unwrap_or (option_map area cut) 0 ≤ area outer
seen_less outer None lies = omega arith
seen_less outer (Some inner) lies = area_less outer inner lies

-- the ratio of a box without area, and of another one

pub ratio_none : (bounds : Rect) (cut : Option Rect) → (area bounds == 0) ≡ true → all_or_nothing (is_some cut) ≡ ratio_of bounds cut
unfolding ratio_of
ratio_none bounds cut none =
    sym (ap (λ b. cond b (all_or_nothing (is_some cut)) (record { part = unwrap_or (option_map area cut) 0; whole = area bounds })) none)

pub ratio_some : (bounds : Rect) (cut : Option Rect) → (area bounds == 0) ≡ false
    → ◌≡◌ {A = Ratio} (record { part = unwrap_or (option_map area cut) 0; whole = area bounds }) (ratio_of bounds cut)
unfolding ratio_of
ratio_some bounds cut some =
    sym (ap {B = Ratio} (λ b. cond b (all_or_nothing (is_some cut)) (record { part = unwrap_or (option_map area cut) 0; whole = area bounds })) some)

-- a common part lies in the first rectangle

pub lower : (a b c : ℤ) → a ≤ℤ b → a ≤ℤ int_max b c
lower a b c h = grind (arith, ints)

pub upper : (a b c : ℤ) → b ≤ℤ a → int_min b c ≤ℤ a
upper a b c h = grind (arith, ints)

overlap_inside : (outer inner other : Rect) → LiesIn outer inner → LiesIn outer (overlap inner other)
overlap_inside outer inner other lies = record {
  left = lower outer.left inner.left other.left lies.left;
  top = lower outer.top inner.top other.top lies.top;
  right = upper outer.right inner.right other.right lies.right;
  bottom = upper outer.bottom inner.bottom other.bottom lies.bottom;
}

fold_inside : (outer inner : Rect) (others : List Rect) → LiesIn outer inner → LiesIn outer (fold overlap inner others)
fold_inside outer inner [] lies = lies
fold_inside outer inner (x ∷ xs) lies = fold_inside outer (overlap inner x) xs (overlap_inside outer inner x lies)

if_met : (r : Rect) (b : Bool) (P : Rect → Type 0) → P r → IfSome (cond b (Some r) None) P
if_met r true P p = p
if_met r false P p = tt

same_le : (a : ℤ) → a ≤ℤ a
same_le a = omega (arith, ints)

itself : (r : Rect) → LiesIn r r
itself r = record { left = same_le r.left; top = same_le r.top; right = same_le r.right; bottom = same_le r.bottom }

pub part_inside : (outer : Rect) (others : List Rect) → IfSome (common_part outer others) (LiesIn outer)
unfolding common_part
part_inside outer others =
    let whole = fold overlap outer others in
    if_met whole (has_points whole) (LiesIn outer) (fold_inside outer outer others (itself outer))

pub meeting_inside : (outer inner other : Rect) → LiesIn outer inner → IfSome (meeting inner other) (LiesIn outer)
meeting_inside outer inner other lies =
    if_met (overlap inner other) (has_points (overlap inner other)) (LiesIn outer) (overlap_inside outer inner other lies)
