-- The visible part of a target within a root (Intersection Observer, 3.2.7). That rectangles with only an edge in common
-- intersect is this project's own reading.
use Rattle.std.specs.Prelude.{ℤ, List, ◌∷◌, filter_map, Option, IfSome}
use Rattle.std.specs.List.{All}
use Rattle.px_units.specs.declared.Rect.{Rect}
use Rattle.px_units.specs.Rects.{Holds}
use Rattle.page_model.specs.Chains.{common_part}
use Rattle.element_tree.specs.declared.container.Container.{Container}
use Rattle.clip_chain.specs.Scenes.{Scene}

-- the intersection of a target's box, limits, and the clips of the spots strictly between
abbrev pub part_between : Scene → Container → List Container → Rect → Option Rect
part_between scene target between limits = common_part (scene.bounds target) (limits ∷ filter_map (scene.clip) between)

-- a point of the target's box that lies within the limits and within the clip of each spot strictly between that clips
pub record IsSeen (scene : Scene) (target : Container) (between : List Container) (limits : Rect) (x y : ℤ) : Type 0 where
  pub in_bounds : Holds (scene.bounds target) x y
  pub in_limits : Holds limits x y
  pub in_clips : All (λ (spot : Container). IfSome (scene.clip spot) (λ clip. Holds clip x y)) between
