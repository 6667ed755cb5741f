-- What limits and the common part of clips leave of a box is the common part of all of them.
use Rattle.std.proofs.Common.{◌≡◌, ◌∙◌, ℕ, ℤ, Bool, true, false, cond, List, [], ◌∷◌, Option, Some, None, ap, refl, sym, arith}
use Rattle.std.specs.Prelude.{fold, filter_map, option_and_then}
use Rattle.std.specs.Int.{int_min, int_max}
use Rattle.std.proofs.lemmas.Int.{ints}
use Rattle.px_units.specs.declared.Rect.{Rect}
use Rattle.px_units.specs.Rects.{has_points, overlap, meeting}
use Rattle.px_units.proofs.Meeting.{same_overlap}
use Rattle.page_model.specs.Chains.{common_part}
use Rattle.page_model.specs.World.{IntersectionObserver}
use Rattle.clip_chain.proofs.Parts.{none_left}
use Rattle.element_tree.specs.declared.container.Container.{Container}
use Rattle.clip_chain.specs.Scenes.{Scene}
use Rattle.clip_chain.specs.Worlds.{element_spot}
use Rattle.kept_clips.specs.declared.clip.Clip.{Clip}
use Rattle.kept_clips.specs.Clips.{cut_or_nothing, common_clip}
use Rattle.candidate_index.specs.declared.scene.Standing.{Standing}
use Rattle.candidate_index.specs.declared.scene.Standing.TheVariants.{Apart, NoBox, Chained}
use Rattle.candidate_index.specs.Findings.{limits_of, seen, left_by, cut_to, finding_over, basis_over, found_from}

greatest_of : (a b c : ℤ) → int_max (int_max a b) c ≡ int_max a (int_max b c)
greatest_of a b c = grind (arith, ints)

least_of : (a b c : ℤ) → int_min (int_min a b) c ≡ int_min a (int_min b c)
least_of a b c = grind (arith, ints)

rect_by : (l l' t t' r r' b b' : ℤ) → l ≡ l' → t ≡ t' → r ≡ r' → b ≡ b' → ◌≡◌ {A = Rect} (record { left = l; top = t; right = r; bottom = b }) (record { left = l'; top = t'; right = r'; bottom = b' })
rect_by l l' t t' r r' b b' one two three four = λ i. record { left = one i; top = two i; right = three i; bottom = four i }

together : (a b c : Rect) → overlap (overlap a b) c ≡ overlap a (overlap b c)
together a b c =
    rect_by _ _ _ _ _ _ _ _
    (greatest_of a.left b.left c.left) (greatest_of a.top b.top c.top)
    (least_of a.right b.right c.right) (least_of a.bottom b.bottom c.bottom)

all_together : (x first : Rect) (others : List Rect) → fold overlap (overlap x first) others ≡ overlap x (fold overlap first others)
all_together x first [] = refl
all_together x first (o ∷ os) = ap (λ (r : Rect). fold overlap r os) (together x first o) ∙ all_together x (overlap first o) os

with_clips : (bounds limits first : Rect) (others : List Rect) → common_part bounds (limits ∷ (first ∷ others)) ≡ common_part (overlap bounds limits) (fold overlap first others ∷ [])
unfolding common_part
with_clips bounds limits first others =
    ap (λ (r : Rect). cond (has_points r) (Some r) None) (all_together (overlap bounds limits) first others)

other_way : (x p : Rect) → common_part x (p ∷ []) ≡ common_part p (x ∷ [])
unfolding common_part
other_way x p = ap (λ (r : Rect). cond (has_points r) (Some r) None) (same_overlap x p)

two_parts : (x p : Rect) → meeting x p ≡ common_part x (p ∷ [])
unfolding common_part
two_parts x p = refl

by_parts : (x p : Rect) (b d : Bool) → has_points p ≡ b → has_points x ≡ d → option_and_then (left_by (cut_or_nothing (cond b (Some p) None))) (cond d (Some x) None) ≡ common_part x (p ∷ [])
by_parts x p true true e f = two_parts x p
by_parts x p true false e f = none_left x (p ∷ []) f
by_parts x p false true e f = none_left p (x ∷ []) e ∙ sym (other_way x p)
by_parts x p false false e f = none_left x (p ∷ []) f

within_limits : (x : Rect) (d : Bool) → has_points x ≡ d → option_and_then (λ (r : Rect). Some r) (cond d (Some x) None) ≡ cond d (Some x) None
within_limits x true e = refl
within_limits x false e = refl

pub no_clips : (bounds limits : Rect) → meeting bounds limits ≡ common_part bounds (limits ∷ [])
unfolding common_part
no_clips bounds limits = refl

clip_of_part : (first : Rect) (others : List Rect) → cut_or_nothing (common_part first others) ≡ cut_or_nothing (cond (has_points (fold overlap first others)) (Some (fold overlap first others)) None)
unfolding common_part
clip_of_part first others = refl

pub all_left : (bounds limits : Rect) (clips : List Rect) → cut_to bounds limits (common_clip clips) ≡ common_part bounds (limits ∷ clips)
all_left bounds limits [] =
    within_limits (overlap bounds limits) (has_points (overlap bounds limits)) refl ∙ no_clips bounds limits
all_left bounds limits (first ∷ others) =
    ap (λ (clip : Clip). option_and_then (left_by clip) (meeting bounds limits)) (clip_of_part first others)
    ∙ by_parts (overlap bounds limits) (fold overlap first others) (has_points (fold overlap first others)) (has_points (overlap bounds limits)) refl refl
    ∙ sym (with_clips bounds limits first others)

-- what is found from the basis is what is found
pub found_is : (scene : Scene) (standing : Standing) (observer : IntersectionObserver) (target : ℕ) (between : List Container) → found_from observer.thresholds (basis_over scene standing observer target between) ≡ finding_over scene standing observer target between
found_is scene Apart observer target between = refl
found_is scene NoBox observer target between = refl
found_is scene Chained observer target between =
    let bounds = scene.bounds (element_spot target) in
    let limits = limits_of scene observer in
    ap (λ (cut : Option Rect). seen observer.thresholds bounds cut limits) (all_left bounds limits (filter_map (scene.clip) between))
