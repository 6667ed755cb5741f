-- A page for tests of clips and registrations. It has the top document only: the container of its first element is the viewport,
-- and that of each other one is the element with half its number.
use Rattle.std.specs.Prelude.{ℕ, false, suc, ◌+◌, ◌/◌, cond, ◌==◌, pos, List, Option, Some, None, option_map}
use Rattle.std.specs.List.{slice_index_or}
use Rattle.px_units.specs.declared.Rect.{Rect}
use Rattle.element_tree.specs.declared.container.Container.{Container}
use Rattle.element_tree.specs.declared.container.Container.TheVariants.{Element, Document}
use Rattle.clip_chain.specs.Scenes.{Scene}
use Rattle.clip_chain.specs.Worlds.{element_spot, view_spot}
use Rattle.kept_clips.specs.Held.{HeldClips}
use Rattle.kept_clips.specs.Chains.{IsExact}
use Rattle.candidate_index.specs.declared.scene.Standing.{Standing}
use Rattle.candidate_index.specs.declared.scene.Standing.TheVariants.{Apart}

-- left, top, width and height
abbrev pub Sides : Type 0
Sides = ℕ × ℕ × ℕ × ℕ

abbrev pub rect_of : Sides → Rect
rect_of (left, top, width, height) = record {
  left = pos left;
  top = pos top;
  right = pos (left + width);
  bottom = pos (top + height);
}

abbrev pub sample_container : Container → Option Container
sample_container (Document document) = None
sample_container (Element node) = cond (node.0 == 0) (Some (view_spot 0)) (Some (element_spot (node.0 / 2)))

abbrev pub sample_rank : Container → ℕ
sample_rank (Document document) = 0
sample_rank (Element node) = suc node.0

abbrev pub sample_clip : List (Option Sides) → Sides → Container → Option Rect
sample_clip clips view (Document document) = cond (document.0 == 0) (Some (rect_of view)) None
sample_clip clips view (Element node) = option_map rect_of (slice_index_or clips node.0 None)

abbrev pub sample_box : List Sides → Sides → Container → Rect
sample_box boxes view (Document document) = rect_of view
sample_box boxes view (Element node) = rect_of (slice_index_or boxes node.0 (0, 0, 0, 0))

-- the scene with these clips and boxes of the elements, and this viewport
abbrev pub sample : List (Option Sides) → List Sides → Sides → Scene
sample clips boxes view = record {
  container = sample_container;
  clip = sample_clip clips view;
  bounds = sample_box boxes view;
  scrolls = λ of. false;
  moved = λ of. false;
}

-- a target has the same relation to each root
abbrev pub sample_standing : List Standing → ℕ → Standing
sample_standing standings target = slice_index_or standings target Apart

abbrev pub AreExact : Scene → HeldClips → Type 0
AreExact scene clips = (pair : ℕ) → IsExact scene clips pair
