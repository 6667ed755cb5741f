-- The steps of `grow` and `load` by what is found of the element.
use Rattle.std.proofs.Common.{◌≡◌, ℕ, ℤ, Option, Some, None, Bool, false, not, refl, ap, sym, ◌∙◌}
use Rattle.px_units.specs.declared.Size.{Size}
use Rattle.layout_model.specs.Styles.{Declaration}
use Rattle.text_io.specs.declared.kinds.ThrowKind.TheVariants.{TypeError}
use Rattle.script_model.specs.Syntax.{Dimension}
use Rattle.page_model.specs.World.{Tree}
use Rattle.page_model.specs.Lookups.{element_at}
use Rattle.page_model.specs.Commands.{growing, loading}
use Rattle.page_model.specs.Steps.{Step, Did, Threw, ◌>>=◌, ◌>>◌, required, throw_if}
use Rattle.page_model.specs.Edits.{with_declaration, pixels_of, dimension_of, set_dimension, grown, is_image, with_natural_size}
use Rattle.block_layout.specs.declared.ItemKind.{ItemKind}
use Rattle.block_layout.specs.declared.ItemKind.TheVariants.{Block, Image, Frame}
use Rattle.block_layout.specs.Seen.{seen_kind}

module _ (tree : Tree) (dimension : Dimension) (n : ℕ) (by : ℤ) where
  grown_from : Option ℕ → Step Tree
  unfolding ◌>>=◌
  grown_from found = required TypeError found >>= (λ units. Did (with_declaration (set_dimension dimension (grown units by)) n tree))

  growing_from : growing dimension n by tree ≡ grown_from (pixels_of (dimension_of dimension (element_at tree n).item.style))
  unfolding growing grown_from ◌>>=◌
  growing_from = refl

  pub grow_refused : (found : Option ℕ) → found ≡ pixels_of (dimension_of dimension (element_at tree n).item.style) → found ≡ None → growing dimension n by tree ≡ Threw TypeError
  unfolding grown_from ◌>>=◌
  grow_refused found is none = growing_from ∙ ap grown_from (sym is ∙ none)

  pub grow_done : (found : Option ℕ) (units : ℕ) → found ≡ pixels_of (dimension_of dimension (element_at tree n).item.style) → found ≡ Some units
      → (declaration : Declaration) → declaration ≡ set_dimension dimension (grown units by) → (later : Tree) → later ≡ with_declaration declaration n tree
      → growing dimension n by tree ≡ Did later
  unfolding grown_from ◌>>=◌
  grow_done found units is some declaration said later done =
      growing_from ∙ ap grown_from (sym is ∙ some) ∙ sym (ap Did (done ∙ ap (λ it. with_declaration it n tree) said))

no_image : (kind : ItemKind) → ((size : Size) → kind ≡ Image size → ⊥) → is_image (seen_kind kind) ≡ false
no_image Block none = refl
no_image (Image size) none = absurd (none size refl)
no_image Frame none = refl

module _ (tree : Tree) (n width height : ℕ) where
  loaded_from : Bool → Step Tree
  unfolding ◌>>◌
  loaded_from image = throw_if (not image) TypeError >> Did (with_natural_size width height n tree)

  loading_from : loading n width height tree ≡ loaded_from (is_image (element_at tree n).item.kind)
  unfolding loading loaded_from ◌>>◌
  loading_from = refl

  pub load_refused : (kind : ItemKind) → seen_kind kind ≡ (element_at tree n).item.kind → ((size : Size) → kind ≡ Image size → ⊥) → loading n width height tree ≡ Threw TypeError
  unfolding loaded_from ◌>>◌
  load_refused kind is none = loading_from ∙ ap loaded_from (sym (ap is_image is) ∙ no_image kind none)

  pub load_done : (kind : ItemKind) (size : Size) → seen_kind kind ≡ (element_at tree n).item.kind → kind ≡ Image size → (later : Tree) → later ≡ with_natural_size width height n tree
      → loading n width height tree ≡ Did later
  unfolding loaded_from ◌>>◌
  load_done kind size is image later done =
      loading_from ∙ ap loaded_from (sym (ap is_image is) ∙ ap (λ it. is_image (seen_kind it)) image) ∙ sym (ap Did done)
