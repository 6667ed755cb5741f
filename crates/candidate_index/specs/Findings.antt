-- What is found of a target (Intersection Observer, 3.2.10), in the coordinates of the top document's viewport: from the current
-- containers, clips and boxes, and from what was kept of these.
use Rattle.std.specs.Prelude.{ℕ, List, Option, Some, None, option_and_then, unwrap_or, is_some}
use Rattle.px_units.specs.declared.Rect.{Rect}
use Rattle.px_units.specs.Rects.{meeting}
use Rattle.page_model.specs.World.{Finding, IntersectionObserver}
use Rattle.page_model.specs.Chains.{zero_rect, moved_out}
use Rattle.page_model.specs.Findings.{index_of, ratio_of, unseen}
use Rattle.element_tree.specs.declared.container.Container.{Container}
use Rattle.clip_chain.specs.Scenes.{Scene, root_bounds}
use Rattle.clip_chain.specs.Visible.{part_between}
use Rattle.clip_chain.specs.Worlds.{element_spot, spot_of_root}
use Rattle.kept_clips.specs.declared.clip.Clip.{Clip}
use Rattle.kept_clips.specs.declared.clip.Clip.TheVariants as clips
use Rattle.kept_clips.specs.Clips.{clip_between}
use Rattle.candidate_index.specs.declared.scene.Standing.{Standing}
use Rattle.candidate_index.specs.declared.scene.Standing.TheVariants as standings
use Rattle.candidate_index.specs.declared.basis.Sight.{Sight}
use Rattle.candidate_index.specs.declared.basis.Sight.TheVariants as sights
use Rattle.candidate_index.specs.declared.basis.Basis.{Basis}

-- the root intersection rectangle, with the root margin applied
abbrev pub limits_of : Scene → IntersectionObserver → Rect
limits_of scene observer = moved_out observer.margins (root_bounds scene (spot_of_root observer.root))

-- what is found of a target with these bounds, of which `cut` is visible
abbrev pub seen : List ℕ → Rect → Option Rect → Rect → Finding
seen thresholds bounds cut limits =
    let ratio = ratio_of bounds cut in
    record {
      index = index_of thresholds (ratio.part) (ratio.whole);
      meets = is_some cut;
      part = ratio.part;
      whole = ratio.whole;
      root = limits;
      bounds = bounds;
      cut = unwrap_or cut zero_rect;
    }

-- what an observer finds of a target, given its relation to the root and the spots strictly between
abbrev pub finding_over : Scene → Standing → IntersectionObserver → ℕ → List Container → Finding
finding_over scene standings.Apart observer target between = unseen 0 (limits_of scene observer)
finding_over scene standings.NoBox observer target between = unseen (index_of observer.thresholds 0 1) (limits_of scene observer)
finding_over scene standings.Chained observer target between =
    seen
    (observer.thresholds)
    (scene.bounds (element_spot target))
    (part_between scene (element_spot target) between (limits_of scene observer))
    (limits_of scene observer)

-- what a finding is computed from

abbrev pub sight_over : Scene → Standing → ℕ → List Container → Sight
sight_over scene standings.Apart target between = sights.Apart
sight_over scene standings.NoBox target between = sights.NoBox
sight_over scene standings.Chained target between = sights.Chained (scene.bounds (element_spot target)) (clip_between scene between)

abbrev pub basis_over : Scene → Standing → IntersectionObserver → ℕ → List Container → Basis
basis_over scene standing observer target between = record { limits = limits_of scene observer; sight = sight_over scene standing target between }

-- the part of a rectangle that is within a clip
abbrev pub left_by : Clip → Rect → Option Rect
left_by clips.Whole within = Some within
left_by (clips.Cut part) within = meeting within part
left_by clips.Nothing within = None

-- the part of a box that is within limits and within a clip
abbrev pub cut_to : Rect → Rect → Clip → Option Rect
cut_to bounds limits clip = option_and_then (left_by clip) (meeting bounds limits)

abbrev pub found_by : List ℕ → Rect → Sight → Finding
found_by thresholds limits sights.Apart = unseen 0 limits
found_by thresholds limits sights.NoBox = unseen (index_of thresholds 0 1) limits
found_by thresholds limits (sights.Chained bounds clip) = seen thresholds bounds (cut_to bounds limits clip) limits

-- what is found from a basis that was kept
abbrev pub found_from : List ℕ → Basis → Finding
found_from thresholds basis = found_by thresholds (basis.limits) (basis.sight)
