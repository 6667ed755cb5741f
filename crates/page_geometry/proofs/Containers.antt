-- The scene of a page, by what is read of it.
use Rattle.std.proofs.Common.{◌≡◌, ◌≤◌, ◌<◌, ℕ, true, false, cond, nat_lt, length, Option, Some, None, option_map, refl, ap, sym, ◌∙◌}
use Rattle.std.specs.Prelude.{IfSome, ◌&&◌, not, is_some}
use Rattle.layout_model.specs.Clips.{is_block, is_visible, is_clip, clips, is_scroll_container}
use Rattle.page_model.specs.World.{Screen, Element, Tree, Scrolls, InElement}
use Rattle.page_model.specs.Lookups.{document_at}
use Rattle.page_model.specs.Documents.{nodes_of, element_depth}
use Rattle.page_model.specs.PageBoxes.{has_box}
use Rattle.page_model.specs.Shown.{shown_with}
use Rattle.page_model.specs.Chains.{holding}
use Rattle.page_documents.specs.Frames.{AreFramed}
use Rattle.element_tree.specs.declared.container.Container.{Container}
use Rattle.element_tree.specs.declared.container.Container.TheVariants.{Element as Inside, Document as Top}
use Rattle.container_model.specs.Seen.{seen_container}
use Rattle.clip_chain.specs.Scenes.{Scene}
use Rattle.clip_chain.specs.Worlds.{element_spot, spot_of, scene_of, view_spot}
use Rattle.page_boxes.proofs.Pages.{missing_element}
use Rattle.page_geometry.specs.Ranks.{rank_of}
use Rattle.page_geometry.proofs.Ends.{falls}

-- an element that wasn't made is no scroll container
pub missing_scrolls : (tree : Tree) (n : ℕ) → nat_lt n (length tree.elements) ≡ false → is_scroll_container (nodes_of tree n) ≡ false
missing_scrolls tree n past =
    ap (λ (it : Element).
    is_block it.item.kind && not (is_visible it.item.style.overflow) && is_some it.parent && not (is_clip it.item.style.overflow)) (missing_element tree n past)

-- nor does its box clip
pub missing_clips : (tree : Tree) (n : ℕ) → nat_lt n (length tree.elements) ≡ false → clips (nodes_of tree n) ≡ false
missing_clips tree n past =
    ap (λ (it : Element).
    is_block it.item.kind && not (is_visible it.item.style.overflow) && is_some it.parent) (missing_element tree n past)

-- a spot is that of what it is seen as
pub spot_seen : (spot : Container) → spot_of (seen_container spot) ≡ spot
spot_seen (Inside node) = refl
spot_seen (Top document) = refl

module _ (tree : Tree) (screen : Screen) (scrolls : Scrolls) where
  abbrev scene : Scene
  scene = scene_of (shown_with tree screen scrolls)

  module _ (n : ℕ) where
    pub container_is : (found : Option Container) → has_box tree screen n ≡ true → found ≡ option_map spot_of (holding tree n) → found ≡ scene.container (element_spot n)
    container_is found there is = is ∙ sym (ap (λ b. cond b (option_map spot_of (holding tree n)) None) there)

  pub view_container : (document : ℕ) (found : Option Container) → found ≡ option_map element_spot (document_at tree document).frame → found ≡ scene.container (view_spot document)
  view_container document found is = is ∙ by_frame (document_at tree document).frame
    where
      by_frame : (frame : Option ℕ) → option_map element_spot frame ≡ option_map spot_of (option_map InElement frame)
      by_frame None = refl
      by_frame (Some frame) = refl

  module _ (framed : AreFramed tree) (few : length tree.documents ≤ 64) (deep : (n : ℕ) → element_depth tree n ≤ 256) where
    pub ends : (from : Container) (found : Option Container) → found ≡ scene.container from → IfSome found (λ next. rank_of tree screen next < rank_of tree screen from)
    ends from None is = tt
    ends from (Some next) is = falls tree screen scrolls framed few deep from next (sym is)
