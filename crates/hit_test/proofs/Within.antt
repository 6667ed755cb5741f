-- A point lies in each of some rectangles exactly where it lies in their common part.
use Rattle.std.proofs.Common.{◌≡◌, ◌∙◌, ℤ, Bool, true, false, cond, ◌&&◌, List, [], ◌∷◌, Some, None, ap, refl, sym, arith, int_le, int_lt, fold}
use Rattle.std.specs.Int.{int_min, int_max}
use Rattle.std.specs.List.{list_all}
use Rattle.std.proofs.lemmas.Int.{ints}
use Rattle.px_units.specs.declared.Rect.{Rect}
use Rattle.px_units.specs.declared.Point.{Point}
use Rattle.px_units.specs.Rects.{has_points, overlap}
use Rattle.page_model.specs.Chains.{common_part}
use Rattle.hit_test.specs.Hits.{has_point, is_between}
use Rattle.clip_chain.proofs.Parts.{lost}

le_max : (a b x : ℤ) → int_le (int_max a b) x ≡ (int_le a x && int_le b x)
le_max a b x = cases (int_le a x) (int_le b x) refl refl
  where
    cases : (p q : Bool) → int_le a x ≡ p → int_le b x ≡ q → int_le (int_max a b) x ≡ (p && q)
    cases true true e f = grind (arith, ints)
    cases true false e f = grind (arith, ints)
    cases false q e f = grind (arith, ints)

lt_min : (a b x : ℤ) → int_lt x (int_min a b) ≡ (int_lt x a && int_lt x b)
lt_min a b x = cases (int_lt x a) (int_lt x b) refl refl
  where
    cases : (p q : Bool) → int_lt x a ≡ p → int_lt x b ≡ q → int_lt x (int_min a b) ≡ (p && q)
    cases true true e f = grind (arith, ints)
    cases true false e f = grind (arith, ints)
    cases false q e f = grind (arith, ints)

mixed : (p q r s : Bool) → ((p && q) && (r && s)) ≡ ((p && r) && (q && s))
mixed true true r s = refl
mixed true false true s = refl
mixed true false false s = refl
mixed false q r s = refl

between_both : (a b c d x : ℤ) → is_between (int_max a b) (int_min c d) x ≡ (is_between a c x && is_between b d x)
between_both a b c d x =
    ap (λ v. v && int_lt x (int_min c d)) (le_max a b x)
    ∙ ap (λ v. (int_le a x && int_le b x) && v) (lt_min c d x)
    ∙ mixed (int_le a x) (int_le b x) (int_lt x c) (int_lt x d)

in_both : (at : Point) (a b : Rect) → has_point at (overlap a b) ≡ (has_point at a && has_point at b)
in_both at a b =
    ap (λ v. v && is_between (int_max a.top b.top) (int_min a.bottom b.bottom) at.top) (between_both a.left b.left a.right b.right at.left)
    ∙ ap (λ v. (is_between a.left a.right at.left && is_between b.left b.right at.left) && v) (between_both a.top b.top a.bottom b.bottom at.top)
    ∙ mixed (is_between a.left a.right at.left) (is_between b.left b.right at.left) (is_between a.top a.bottom at.top) (is_between b.top b.bottom at.top)

and_true : (p : Bool) → p ≡ (p && true)
and_true true = refl
and_true false = refl

and_and : (p q r : Bool) → ((p && q) && r) ≡ (p && (q && r))
and_and true q r = refl
and_and false q r = refl

in_all : (at : Point) (first : Rect) (others : List Rect) → has_point at (fold overlap first others) ≡ (has_point at first && list_all (has_point at) others)
in_all at first [] = and_true (has_point at first)
in_all at first (r ∷ rs) =
    in_all at (overlap first r) rs
    ∙ ap (λ v. v && list_all (has_point at) rs) (in_both at first r)
    ∙ and_and (has_point at first) (has_point at r) (list_all (has_point at) rs)

-- a rectangle without points has none

crossed : (a b x : ℤ) → int_le a b ≡ false → is_between a b x ≡ false
crossed a b x e = cases (int_le a x) (int_lt x b) refl refl
  where
    cases : (p q : Bool) → int_le a x ≡ p → int_lt x b ≡ q → (p && q) ≡ false
    cases true true f g = grind (arith, ints)
    cases true false f g = refl
    cases false q f g = refl

and_false : (p q r s : Bool) → (p && q) ≡ false → (p ≡ false → r ≡ false) → (q ≡ false → s ≡ false) → (r && s) ≡ false
and_false true q true s e f g = g e
and_false true q false s e f g = refl
and_false false q r s e f g = ap (λ v. v && s) (f refl)

none_in : (at : Point) (r : Rect) → has_points r ≡ false → has_point at r ≡ false
none_in at r e =
    and_false (int_le r.left r.right) (int_le r.top r.bottom) (is_between r.left r.right at.left) (is_between r.top r.bottom at.top) e
    (crossed r.left r.right at.left) (crossed r.top r.bottom at.top)

-- by the common part

met : (r part : Rect) (b : Bool) → cond b (Some r) None ≡ Some part → r ≡ part
met r part true h = cc
met r part false h = absurd (let no : ⊥ = cc in no)

pub in_part : (at : Point) (first : Rect) (others : List Rect) (part : Rect) → common_part first others ≡ Some part
    → has_point at part ≡ list_all (has_point at) (first ∷ others)
unfolding common_part
in_part at first others part h =
    ap (has_point at) (sym (met (fold overlap first others) part (has_points (fold overlap first others)) h)) ∙ in_all at first others

pub in_nothing : (at : Point) (first : Rect) (others : List Rect) → common_part first others ≡ None → false ≡ list_all (has_point at) (first ∷ others)
unfolding common_part
in_nothing at first others h =
    sym (none_in at (fold overlap first others) (lost (fold overlap first others) (has_points (fold overlap first others)) h)) ∙ in_all at first others
