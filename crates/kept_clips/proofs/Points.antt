-- The points of a clip are those within what each spot clips to; it is whole where no spot clips.
use Rattle.std.proofs.Common.{◌≡◌, ◌↔◌, ◌∙◌, ℤ, Bool, true, false, cond, List, [], ◌∷◌, Option, Some, None, ap, refl, sym, subst, arith}
use Rattle.std.specs.Prelude.{filter_map, fold, int_le, pos, ◌≤ℤ◌}
use Rattle.std.specs.List.{All, cons_option}
use Rattle.std.proofs.lemmas.Int.{ints}
use Rattle.std.proofs.lemmas.List.Elements.{All-head, All-tail, All-cons}
use Rattle.std.proofs.lemmas.Bool.{and_parts}
use Rattle.px_units.specs.declared.Rect.{Rect}
use Rattle.px_units.specs.Rects.{has_points, overlap, Holds, HeldBy}
use Rattle.page_model.specs.Chains.{common_part}
use Rattle.element_tree.specs.declared.container.Container.{Container}
use Rattle.clip_chain.specs.Scenes.{Scene}
use Rattle.clip_chain.proofs.Parts.{HoldsAll, held_by_part}
use Rattle.kept_clips.specs.declared.clip.Clip.{Clip}
use Rattle.kept_clips.specs.declared.clip.Clip.TheVariants.{Whole, Cut, Nothing}
use Rattle.kept_clips.specs.Clips.{cut_or_nothing, common_clip, clip_between, Contains, IsWithin}
use Rattle.clip_chain.proofs.Seen.{first_apart, first_joined}

within_each : (scene : Scene) (spots : List Container) (x y : ℤ) → HoldsAll x y (filter_map (scene.clip) spots) → All (IsWithin scene x y) spots
within_each scene [] x y h = λ k d below. absurd (let no : ⊥ = omega (arith, below) in no)
within_each scene (s ∷ spots) x y h =
    let apart = first_apart (scene.clip s) (filter_map (scene.clip) spots) x y h in
    All-cons (IsWithin scene x y) s spots apart.0 (within_each scene spots x y apart.1)

held_by_each : (scene : Scene) (spots : List Container) (x y : ℤ) → All (IsWithin scene x y) spots → HoldsAll x y (filter_map (scene.clip) spots)
held_by_each scene [] x y h = tt
held_by_each scene (s ∷ spots) x y h =
    first_joined (scene.clip s) (filter_map (scene.clip) spots) x y (All-head (IsWithin scene x y) s spots h)
    (held_by_each scene spots x y (All-tail (IsWithin scene x y) s spots h))

to_part : (o : Option Rect) (x y : ℤ) → Contains (cut_or_nothing o) x y → HeldBy o x y
to_part None x y h = h
to_part (Some r) x y h = h

from_part : (o : Option Rect) (x y : ℤ) → HeldBy o x y → Contains (cut_or_nothing o) x y
from_part None x y h = h
from_part (Some r) x y h = h

contains_all : (clips : List Rect) (x y : ℤ) → Contains (common_clip clips) x y ↔ HoldsAll x y clips
contains_all [] x y = ((λ _. tt), (λ _. tt))
contains_all (first ∷ others) x y =
    let held = held_by_part first others x y in (
      (λ h. held.0 (to_part (common_part first others) x y h)),
      (λ h. from_part (common_part first others) x y (held.1 h)),
    )

pub points : (scene : Scene) (between : List Container) (clip : Clip) → clip ≡ clip_between scene between → (x y : ℤ) → Contains clip x y ↔ All (IsWithin scene x y) between
points scene between clip e x y =
    let all = contains_all (filter_map (scene.clip) between) x y in
    subst (λ (c : Clip). Contains c x y ↔ All (IsWithin scene x y) between) (sym e) (
      (λ h. within_each scene between x y (all.0 h)),
      (λ h. all.1 (held_by_each scene between x y h)),
    )

-- whole

not_cut : (o : Option Rect) → cut_or_nothing o ≡ Whole → ⊥
not_cut None e = cc
not_cut (Some r) e = cc

no_clips : (clips : List Rect) → common_clip clips ≡ Whole → clips ≡ []
no_clips [] e = refl
no_clips (first ∷ others) e = absurd (not_cut (common_part first others) e)

none_first : (o : Option Rect) (rs : List Rect) → cons_option o rs ≡ [] → (o ≡ None) × (rs ≡ [])
none_first None rs e = (refl, e)
none_first (Some r) rs e = let wrong : r ∷ rs ≡ [] = e in absurd (let no : ⊥ = cc in no)

none_clips : (scene : Scene) (spots : List Container) → filter_map (scene.clip) spots ≡ [] → All (λ (spot : Container). scene.clip spot ≡ None) spots
none_clips scene [] e = λ k d below. absurd (let no : ⊥ = omega (arith, below) in no)
none_clips scene (s ∷ spots) e =
    let parts = none_first (scene.clip s) (filter_map (scene.clip) spots) e in
    All-cons (λ (spot : Container). scene.clip spot ≡ None) s spots parts.0 (none_clips scene spots parts.1)

left_empty : (scene : Scene) (spots : List Container) → All (λ (spot : Container). scene.clip spot ≡ None) spots → filter_map (scene.clip) spots ≡ []
left_empty scene [] h = refl
left_empty scene (s ∷ spots) h =
    ap (λ (o : Option Rect). cons_option o (filter_map (scene.clip) spots)) (All-head (λ (spot : Container). scene.clip spot ≡ None) s spots h)
    ∙ left_empty scene spots (All-tail (λ (spot : Container). scene.clip spot ≡ None) s spots h)

pub whole : (scene : Scene) (between : List Container) (clip : Clip) → clip ≡ clip_between scene between → (clip ≡ Whole) ↔ All (λ (spot : Container). scene.clip spot ≡ None) between
whole scene between clip e = (
  (λ is. none_clips scene between (no_clips (filter_map (scene.clip) between) (sym e ∙ is))),
  (λ all. e ∙ ap common_clip (left_empty scene between all)),
)

-- nothing

met : (r part : Rect) (b : Bool) → has_points r ≡ b → cond b (Some r) None ≡ Some part → has_points part ≡ true
met r part true e h = let same : r ≡ part = cc in ap has_points (sym same) ∙ e
met r part false e h = let wrong : None ≡ Some part = h in absurd (let no : ⊥ = cc in no)

part_met : (first part : Rect) (others : List Rect) → common_part first others ≡ Some part → has_points part ≡ true
unfolding common_part
part_met first part others e = met (fold overlap first others) part (has_points (fold overlap first others)) refl e

cut_is : (o : Option Rect) (part : Rect) → cut_or_nothing o ≡ Cut part → o ≡ Some part
cut_is None part e = let wrong : Nothing ≡ Cut part = e in absurd (let no : ⊥ = cc in no)
cut_is (Some r) part e = let same : Cut r ≡ Cut part = e in cc

cut_met : (clips : List Rect) (part : Rect) → common_clip clips ≡ Cut part → has_points part ≡ true
cut_met [] part e = let wrong : Whole ≡ Cut part = e in absurd (let no : ⊥ = cc in no)
cut_met (first ∷ others) part e = part_met first part others (cut_is (common_part first others) part e)

less : (a b : ℤ) → int_le a b ≡ true → a ≤ℤ b
less a b e = grind (arith, ints)

same_le : (a : ℤ) → a ≤ℤ a
same_le a = omega (arith, ints)

corner : (part : Rect) → has_points part ≡ true → Holds part part.left part.top
corner part e =
    let parts = and_parts (int_le part.left part.right) (int_le part.top part.bottom) e in
    record {
      right_of_left = same_le part.left;
      left_of_right = less part.left part.right parts.0;
      below_top = same_le part.top;
      above_bottom = less part.top part.bottom parts.1;
    }

nothing_by : (clip : Clip) (clips : List Rect) → common_clip clips ≡ clip → ((x y : ℤ) → ¬ Contains clip x y) → clip ≡ Nothing
nothing_by Whole clips e never = absurd (never (pos 0) (pos 0) tt)
nothing_by (Cut part) clips e never = absurd (never part.left part.top (corner part (cut_met clips part e)))
nothing_by Nothing clips e never = refl

pub nothing : (scene : Scene) (between : List Container) (clip : Clip) → clip ≡ clip_between scene between → (clip ≡ Nothing) ↔ ((x y : ℤ) → ¬ All (IsWithin scene x y) between)
nothing scene between clip e = (
  (λ is x y all. subst (λ (c : Clip). Contains c x y) is ((points scene between clip e x y).1 all)),
  (λ never. nothing_by clip (filter_map (scene.clip) between) (sym e) (λ x y h. never x y ((points scene between clip e x y).0 h))),
)
