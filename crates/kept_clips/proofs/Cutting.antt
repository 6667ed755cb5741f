-- Clips taken one after the other are their common part.
use Rattle.std.proofs.Common.{◌≡◌, ◌∙◌, ℤ, Bool, true, false, cond, List, [], ◌∷◌, Option, Some, None, ap, refl, sym, arith}
use Rattle.std.specs.Prelude.{fold, filter_map}
use Rattle.std.specs.Int.{int_min, int_max}
use Rattle.std.specs.List.{cons_option}
use Rattle.std.proofs.lemmas.Int.{ints}
use Rattle.px_units.specs.declared.Rect.{Rect}
use Rattle.px_units.specs.Rects.{has_points, overlap}
use Rattle.page_model.specs.Chains.{common_part}
use Rattle.clip_chain.proofs.Parts.{none_left, all_left, one_more}
use Rattle.element_tree.specs.declared.container.Container.{Container}
use Rattle.clip_chain.specs.Scenes.{Scene}
use Rattle.kept_clips.specs.declared.clip.Clip.{Clip}
use Rattle.kept_clips.specs.declared.clip.Clip.TheVariants.{Whole, Cut, Nothing}
use Rattle.kept_clips.specs.Clips.{cut_or_nothing, common_clip, clip_between, clipped, clipped_if}

abbrev pub cut_by : Clip → List Rect → Clip
cut_by common clips = fold clipped common clips

nothing_left : (clips : List Rect) → cut_by Nothing clips ≡ Nothing
nothing_left [] = refl
nothing_left (clip ∷ clips) = nothing_left clips

-- a rectangle whose edges are known to cross or not, and others
left_of : (b : Bool) (common : Rect) (clips : List Rect) → has_points common ≡ b → ((rect : Rect) → has_points rect ≡ true → cut_by (Cut rect) clips ≡ cut_or_nothing (common_part rect clips)) → cut_by (cut_or_nothing (cond b (Some common) None)) clips ≡ cut_or_nothing (common_part common clips)
left_of true common clips e rest = rest common e
left_of false common clips e rest = nothing_left clips ∙ ap cut_or_nothing (none_left common clips e)

cut_left : (clips : List Rect) (common : Rect) → has_points common ≡ true → cut_by (Cut common) clips ≡ cut_or_nothing (common_part common clips)
cut_left [] common e = ap cut_or_nothing (all_left common e)
cut_left (clip ∷ clips) common e =
    left_of (has_points (overlap common clip)) (overlap common clip) clips refl (λ rect h. cut_left clips rect h)
    ∙ ap cut_or_nothing (sym (one_more common clip clips))

greatest : (a : ℤ) → int_max a a ≡ a
greatest a = grind (arith, ints)

least : (a : ℤ) → int_min a a ≡ a
least a = grind (arith, ints)

own_part : (r : Rect) → overlap r r ≡ r
own_part r =
    ap (λ a. record { left = a; top = int_max r.top r.top; right = int_min r.right r.right; bottom = int_min r.bottom r.bottom }) (greatest r.left)
    ∙ ap (λ a. record { left = r.left; top = a; right = int_min r.right r.right; bottom = int_min r.bottom r.bottom }) (greatest r.top)
    ∙ ap (λ a. record { left = r.left; top = r.top; right = a; bottom = int_min r.bottom r.bottom }) (least r.right)
    ∙ ap (λ a. record { left = r.left; top = r.top; right = r.right; bottom = a }) (least r.bottom)

pub cut_whole : (clips : List Rect) → cut_by Whole clips ≡ common_clip clips
cut_whole [] = refl
cut_whole (first ∷ others) =
    ap (λ (r : Rect). cut_by (cut_or_nothing (cond (has_points r) (Some r) None)) others) (own_part first)
    ∙ left_of (has_points first) first others refl (λ rect h. cut_left others rect h)

-- spot by spot

abbrev pub clips_of : Scene → List Container → List Rect
clips_of scene spots = filter_map (scene.clip) spots

cut_if : (common : Clip) (clip : Option Rect) (clips : List Rect) → cut_by common (cons_option clip clips) ≡ cut_by (clipped_if common clip) clips
cut_if common None clips = refl
cut_if common (Some clip) clips = refl

pub cut_next : (scene : Scene) (common : Clip) (next : Container) (rest : List Container) → cut_by common (clips_of scene (next ∷ rest)) ≡ cut_by (clipped_if common (scene.clip next)) (clips_of scene rest)
cut_next scene common next rest = cut_if common (scene.clip next) (clips_of scene rest)

pub cut_all : (scene : Scene) (between : List Container) (common : Clip) → cut_by Whole (clips_of scene between) ≡ common → common ≡ clip_between scene between
cut_all scene between common e = sym e ∙ cut_whole (clips_of scene between)
