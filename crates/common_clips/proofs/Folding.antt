-- The common part of rectangles, in any order.
use Rattle.std.proofs.Common.{◌≡◌, ◌∙◌, ℤ, Bool, true, false, cond, ◌&&◌, List, [], ◌∷◌, Option, Some, None, ap, refl, arith}
use Rattle.std.specs.Prelude.{int_le, fold}
use Rattle.std.specs.List.{cons_option}
use Rattle.std.specs.Int.{int_min, int_max}
use Rattle.std.proofs.lemmas.Int.{ints}
use Rattle.px_units.specs.declared.Rect.{Rect}
use Rattle.px_units.specs.Rects.{has_points, overlap, meeting}
use Rattle.px_units.proofs.Edges.{same_rect}
use Rattle.px_units.proofs.Meeting.{same_overlap}
use Rattle.page_model.specs.Chains.{common_part}
use Rattle.common_clips.specs.Common.{clipped}

max_later : (a b c : ℤ) → int_max (int_max a b) c ≡ int_max (int_max a c) b
max_later a b c = grind (arith, ints)

min_later : (a b c : ℤ) → int_min (int_min a b) c ≡ int_min (int_min a c) b
min_later a b c = grind (arith, ints)

overlap_later : (a b c : Rect) → overlap (overlap a b) c ≡ overlap (overlap a c) b
overlap_later a b c =
    same_rect (max_later a.left b.left c.left) (max_later a.top b.top c.top) (min_later a.right b.right c.right) (min_later a.bottom b.bottom c.bottom)

-- the first of the others may come last
last : (first other : Rect) (others : List Rect) → fold overlap (overlap first other) others ≡ overlap (fold overlap first others) other
last first other [] = refl
last first other (x ∷ xs) = ap (λ r. fold overlap r xs) (overlap_later first other x) ∙ last (overlap first x) other xs

not_both : (p q r s : Bool) → (p && q) ≡ false → (p ≡ false → r ≡ false) → (q ≡ false → s ≡ false) → (r && s) ≡ false
not_both true true r s none left right = absurd (let no : true ≡ false = none in cc)
not_both true false true s none left right = right refl
not_both true false false s none left right = refl
not_both false q r s none left right = ap (λ b. b && s) (left refl)

crossed : (a b c d : ℤ) → int_le a c ≡ false → int_le (int_max a b) (int_min c d) ≡ false
crossed a b c d e = grind (arith, ints)

still_none : (a b : Rect) → has_points a ≡ false → has_points (overlap a b) ≡ false
still_none a b e =
    not_both (int_le a.left a.right) (int_le a.top a.bottom) (int_le (overlap a b).left (overlap a b).right) (int_le (overlap a b).top (overlap a b).bottom) e
    (crossed a.left b.left a.right b.right)
    (crossed a.top b.top a.bottom b.bottom)

by_points : (common other : Rect) (b : Bool) → has_points common ≡ b
    → cond (has_points (overlap common other)) (Some (overlap common other)) None ≡ clipped (cond b (Some common) None) (Some other)
by_points common other true e = refl
by_points common other false e = ap (λ b. cond b (Some (overlap common other)) None) (still_none common other e)

-- one rectangle more
pub one_clip : (limits other : Rect) (others : List Rect) → common_part limits (other ∷ others) ≡ clipped (common_part limits others) (Some other)
unfolding common_part
one_clip limits other others =
    ap (λ (r : Rect). cond (has_points r) (Some r) None) (last limits other others)
    ∙ by_points (fold overlap limits others) other (has_points (fold overlap limits others)) refl

no_clip : (left : Option Rect) → left ≡ clipped left None
no_clip None = refl
no_clip (Some common) = refl

-- the clip of a spot, if it has one
pub if_clip : (limits : Rect) (clip : Option Rect) (others : List Rect) → common_part limits (cons_option clip others) ≡ clipped (common_part limits others) clip
if_clip limits None others = no_clip (common_part limits others)
if_clip limits (Some clip) others = one_clip limits clip others

-- the rectangle by itself
same_with_itself : (r : Rect) → overlap r r ≡ r
same_with_itself r = same_rect (grind (arith, ints)) (grind (arith, ints)) (grind (arith, ints)) (grind (arith, ints))

pub alone : (limits : Rect) → meeting limits limits ≡ common_part limits []
unfolding common_part
alone limits = ap (λ (r : Rect). cond (has_points r) (Some r) None) (same_with_itself limits)

-- the box of a target comes first
pub box_first : (bounds limits : Rect) (others : List Rect) → common_part bounds (limits ∷ others) ≡ clipped (common_part limits others) (Some bounds)
unfolding common_part
box_first bounds limits others =
    ap (λ (r : Rect). cond (has_points r) (Some r) None) (ap (λ r. fold overlap r others) (same_overlap bounds limits) ∙ last limits bounds others)
    ∙ by_points (fold overlap limits others) bounds (has_points (fold overlap limits others)) refl
