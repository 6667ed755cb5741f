-- Boxes are laid out in the size of the screen alone.
use Rattle.std.proofs.Common.{◌≡◌, refl, ap}
use Rattle.std.specs.Prelude.{ℕ, zero, suc, Option, Some, None, option_map, unwrap_or}
use Rattle.layout_model.specs.Boxes.{box_in, content_size}
use Rattle.layout_model.specs.Views.{View, inputs_in_view}
use Rattle.page_model.specs.World.{Extent, Screen, DocumentState, Fresh, Active, Dead, Tree}
use Rattle.page_model.specs.Lookups.{element_at, document_at}
use Rattle.page_model.specs.Documents.{frame_levels, nodes_of}
use Rattle.page_model.specs.PageBoxes.{pair_of, extent_of, framed_size, view_with, view_if_active, view_up, view_of, viewport_of, inputs_of}

module _ (tree : Tree) (screen other : Screen) (same : screen.size ≡ other.size) where
  framed-alike : (views others : ℕ → View) → ((d : ℕ) → views d ≡ others d) → (frame : Option ℕ) →
      framed_size tree screen views frame ≡ framed_size tree other others frame
  framed-alike views others each None = ap (λ (size : Extent). Some (pair_of size)) same
  framed-alike views others each (Some frame) =
      ap (λ (view : View). option_map (λ inputs. content_size (box_in (nodes_of tree) inputs frame)) (inputs_in_view (nodes_of tree) view frame))
      (each (element_at tree frame).document)

  active-alike : (views others : ℕ → View) → ((d : ℕ) → views d ≡ others d) → (document : ℕ) (state : DocumentState) →
      view_if_active tree screen views document state ≡ view_if_active tree other others document state
  active-alike views others each document Active =
      ap (view_with (document_at tree document).root) (framed-alike views others each (document_at tree document).frame)
  active-alike views others each document Fresh = refl
  active-alike views others each document Dead = refl

  views-alike : (high document : ℕ) → view_up high tree screen document ≡ view_up high tree other document
  unfolding view_up
  views-alike zero document = refl
  views-alike (suc high) document =
      active-alike (view_up high tree screen) (view_up high tree other) (views-alike high) document (document_at tree document).state

  pub view-alike : (document : ℕ) → view_of tree screen document ≡ view_of tree other document
  unfolding view_of
  view-alike document = views-alike frame_levels document

  pub viewport-alike : (document : ℕ) → viewport_of tree screen document ≡ viewport_of tree other document
  unfolding viewport_of
  viewport-alike document =
      ap (λ (size : Option (ℕ × ℕ)). extent_of (unwrap_or size (0, 0)))
      (framed-alike (view_of tree screen) (view_of tree other) view-alike (document_at tree document).frame)

  pub inputs-alike : (n : ℕ) → inputs_of tree screen n ≡ inputs_of tree other n
  unfolding inputs_of
  inputs-alike n = ap (λ (view : View). inputs_in_view (nodes_of tree) view n) (view-alike (element_at tree n).document)

pub ratio-inputs : (tree : Tree) (screen : Screen) (hundredths n : ℕ) → inputs_of tree (record screen { ratio = hundredths }) n ≡ inputs_of tree screen n
ratio-inputs tree screen hundredths n = inputs-alike tree (record screen { ratio = hundredths }) screen refl n

pub ratio-viewport : (tree : Tree) (screen : Screen) (hundredths document : ℕ) →
    viewport_of tree (record screen { ratio = hundredths }) document ≡ viewport_of tree screen document
ratio-viewport tree screen hundredths document = viewport-alike tree (record screen { ratio = hundredths }) screen refl document

pub ratio-views : (tree : Tree) (screen : Screen) (hundredths document : ℕ) → view_of tree (record screen { ratio = hundredths }) document ≡ view_of tree screen document
ratio-views tree screen hundredths document = view-alike tree (record screen { ratio = hundredths }) screen refl document
