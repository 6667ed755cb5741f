-- The spots of a page, by the definitions of a world (Intersection Observer, 3.2.7).
use Rattle.std.specs.Prelude.{ℕ, Bool, true, false, cond, None, option_map}
use Rattle.px_units.specs.declared.Rect.{Rect}
use Rattle.script_model.specs.Margins.{Margins}
use Rattle.page_model.specs.World.{Root, ImplicitRoot, DocumentRoot, ElementRoot, Container as ModelContainer, InElement, InDocument}
use Rattle.page_model.specs.Shown.{Shown, has_box}
use Rattle.page_model.specs.Chains.{zero_rect, viewport_rect, border_rect, clip_of, has_scroll_margins, container_beyond}
use Rattle.element_tree.specs.declared.container.Container.{Container}
use Rattle.element_tree.specs.declared.container.Container.TheVariants.{Element, Document}
use Rattle.container_model.specs.Seen.{seen_container}
use Rattle.clip_chain.specs.Scenes.{Scene, through}

abbrev pub element_spot : ℕ → Container
element_spot element = Element (record { 0 = element })

abbrev pub view_spot : ℕ → Container
view_spot document = Document (record { 0 = document })

-- the spot for a container of the definitions
abbrev pub spot_of : ModelContainer → Container
spot_of (InElement element) = element_spot element
spot_of (InDocument document) = view_spot document

-- the implicit root is the viewport of the top document
abbrev pub spot_of_root : Root → Container
spot_of_root ImplicitRoot = view_spot 0
spot_of_root (DocumentRoot document) = view_spot document
spot_of_root (ElementRoot element) = element_spot element

abbrev pub has_box_at : Shown → Container → Bool
has_box_at shown (Element node) = has_box shown (node.0)
has_box_at shown (Document document) = true

abbrev pub bounds_at : Shown → Container → Rect
bounds_at shown (Element node) = cond (has_box_at shown (Element node)) (border_rect shown (node.0)) zero_rect
bounds_at shown (Document document) = viewport_rect shown (document.0)

-- an element without a box has no container and no clip, and its box is the zero rectangle
abbrev pub scene_of : Shown → Scene
scene_of shown = record {
  container = λ of. cond (has_box_at shown of) (option_map spot_of (container_beyond (shown.tree) (seen_container of))) None;
  clip = λ of. cond (has_box_at shown of) (clip_of shown (seen_container of)) None;
  bounds = bounds_at shown;
  scrolls = λ of. has_scroll_margins (shown.tree) (seen_container of);
  moved = λ of. false;
}

-- the page as an observer with this root and these scroll margins sees it
abbrev pub scene_for : Shown → Root → Margins → Scene
scene_for shown root scroll_margins = through (spot_of_root root) scroll_margins (scene_of shown)
