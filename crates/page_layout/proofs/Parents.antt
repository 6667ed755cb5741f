-- A change of an element's style or kind leaves parents.
use Rattle.std.proofs.Common.{◌≡◌, ℕ, ℤ, Bool, true, false, not, Option, Some, None, refl, ap, ◌∙◌}
use Rattle.layout_model.specs.Styles.{Declaration, declared}
use Rattle.layout_model.specs.Items.{Item, ImageKind}
use Rattle.text_io.specs.declared.kinds.ThrowKind.TheVariants.{TypeError}
use Rattle.script_model.specs.Syntax.{Dimension}
use Rattle.page_model.specs.World.{Element, Tree}
use Rattle.page_model.specs.Lookups.{element_at, no_element}
use Rattle.page_model.specs.Documents.{nodes_of}
use Rattle.page_model.specs.Edits.{change_item, with_declaration, set_dimension, dimension_of, pixels_of, grown, is_image, with_natural_size}
use Rattle.page_model.specs.Commands.{growing, loading}
use Rattle.page_model.specs.Steps.{Did, required, throw_if, ◌>>=◌, ◌>>◌}
use Rattle.page_documents.proofs.Entries.{kept}

module _ (n : ℕ) (tree : Tree) where
  item_parent : (change : Item → Item) (later : Tree) → later ≡ change_item change n tree → (m : ℕ) → (nodes_of later m).parent ≡ (nodes_of tree m).parent
  item_parent change later is m =
      ap (λ (it : Tree). (nodes_of it m).parent) is
      ∙ kept no_element (λ (it : Element). record it { item = change (it.item) }) (λ (it : Element). it.parent) (λ it. refl) n m (tree.elements)

  pub set_parent : (declaration : Declaration) (later : Tree) → later ≡ with_declaration declaration n tree → (m : ℕ) → (nodes_of later m).parent ≡ (nodes_of tree m).parent
  set_parent declaration later is m = item_parent (λ (item : Item). record item { style = declared declaration (item.style) }) later is m

  pub grow_parent : (dimension : Dimension) (by : ℤ) (later : Tree) → growing dimension n by tree ≡ Did later → (m : ℕ) → (nodes_of later m).parent ≡ (nodes_of tree m).parent
  unfolding growing ◌>>=◌
  grow_parent dimension by later is m = by_pixels (pixels_of (dimension_of dimension (element_at tree n).item.style)) is
    where
      by_pixels : (found : Option ℕ) → (required TypeError found >>= (λ units. Did (with_declaration (set_dimension dimension (grown units by)) n tree))) ≡ Did later
          → (nodes_of later m).parent ≡ (nodes_of tree m).parent
      by_pixels None done = cc
      by_pixels (Some units) done = set_parent (set_dimension dimension (grown units by)) later (cc) m

  pub load_parent : (width height : ℕ) (later : Tree) → loading n width height tree ≡ Did later → (m : ℕ) → (nodes_of later m).parent ≡ (nodes_of tree m).parent
  unfolding loading ◌>>◌
  load_parent width height later is m = by_kind (is_image (element_at tree n).item.kind) is
    where
      by_kind : (image : Bool) → (throw_if (not image) TypeError >> Did (with_natural_size width height n tree)) ≡ Did later
          → (nodes_of later m).parent ≡ (nodes_of tree m).parent
      by_kind false done = cc
      by_kind true done = item_parent (λ (item : Item). record item { kind = ImageKind width height }) later (cc) m
