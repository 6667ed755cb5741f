-- The intersection of several clips (Intersection Observer, 3.2.7). That rectangles with only an edge in common intersect is this
-- project's own reading.
use Rattle.std.specs.Prelude.{ℤ, List, [], ◌∷◌, filter_map, Option, Some, None, IfSome}
use Rattle.px_units.specs.declared.Rect.{Rect}
use Rattle.px_units.specs.Rects.{meeting, Holds}
use Rattle.page_model.specs.Chains.{common_part}
use Rattle.element_tree.specs.declared.container.Container.{Container}
use Rattle.clip_chain.specs.Scenes.{Scene}
use Rattle.kept_clips.specs.declared.clip.Clip.{Clip}
use Rattle.kept_clips.specs.declared.clip.Clip.TheVariants.{Whole, Cut, Nothing}

abbrev pub cut_or_nothing : Option Rect → Clip
cut_or_nothing None = Nothing
cut_or_nothing (Some part) = Cut part

-- the intersection of rectangles: `Whole` if there are none, `Nothing` if they have no point in common
abbrev pub common_clip : List Rect → Clip
common_clip [] = Whole
common_clip (first ∷ others) = cut_or_nothing (common_part first others)

-- the intersection of the clips of some spots; a spot that doesn't clip makes no difference
abbrev pub clip_between : Scene → List Container → Clip
clip_between scene between = common_clip (filter_map (scene.clip) between)

abbrev pub Contains : Clip → ℤ → ℤ → Type 0
Contains Whole x y = Unit {0}
Contains (Cut part) x y = Holds part x y
Contains Nothing x y = ⊥

-- a point is within the clip of a spot; every point is if the spot doesn't clip
abbrev pub IsWithin : Scene → ℤ → ℤ → Container → Type 0
IsWithin scene x y spot = IfSome (scene.clip spot) (λ (clip : Rect). Holds clip x y)

-- a clip intersected with one more rectangle
abbrev pub clipped : Clip → Rect → Clip
clipped Whole by = cut_or_nothing (meeting by by)
clipped (Cut common) by = cut_or_nothing (meeting common by)
clipped Nothing by = Nothing

abbrev pub clipped_if : Clip → Option Rect → Clip
clipped_if common None = common
clipped_if common (Some by) = clipped common by
