-- What clipping needs to know of a page's elements and of its documents' viewports, as they are at one moment, in the coordinates
-- of the top document (Intersection Observer, 3.2.7: containing blocks, clips and bounding boxes).
use Rattle.std.specs.Prelude.{Bool, false, cond, not, ◌&&◌, ◌==◌, Option, option_map, unwrap_or}
use Rattle.px_units.specs.declared.Rect.{Rect}
use Rattle.script_model.specs.Margins.{Margins}
use Rattle.page_model.specs.Chains.{moved_out}
use Rattle.element_tree.specs.declared.container.Container.{Container}
use Rattle.element_tree.specs.declared.container.Container.TheVariants.{Element, Document}

-- of each spot: its container, the rectangle that it clips its content to, its own box, whether it is a scroll container, and
-- whether scroll margins moved its clip
pub record Scene : Type 0 where
  pub container : Container → Option Container
  pub clip : Container → Option Rect
  pub bounds : Container → Rect
  pub scrolls : Container → Bool
  pub moved : Container → Bool

abbrev pub is_spot : Container → Container → Bool
is_spot (Element a) (Element b) = b.0 == a.0
is_spot (Document a) (Document b) = b.0 == a.0
is_spot a b = false

-- a scene as an observer with this root and these scroll margins sees it: they move the edges of the clip of each scroll
-- container except the root outward (Intersection Observer, 2.2: scrollMargin)
abbrev pub through : Container → Margins → Scene → Scene
through root margins scene = record scene {
  clip = λ of. cond (scene.scrolls of && not (is_spot root of)) (option_map (moved_out margins) (scene.clip of)) (scene.clip of);
  moved = λ of. scene.scrolls of && not (is_spot root of);
}

-- the root intersection rectangle before the root margin is applied (Intersection Observer, 2.2): the clip of a root that clips
-- its content, which is the viewport of a document and the padding box of an element, else the box of the root
abbrev pub root_bounds : Scene → Container → Rect
root_bounds scene root = unwrap_or (scene.clip root) (scene.bounds root)
