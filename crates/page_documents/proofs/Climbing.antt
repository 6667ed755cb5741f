-- The way down to a document, one document at a time.
use Rattle.std.proofs.Common.{◌≡◌, ℕ, suc, List, [], ◌∷◌, ◌++◌, length, append_assoc, Some, None, refl, ap, sym, ◌∙◌}
use Rattle.page_model.specs.World.{Tree}
use Rattle.page_documents.specs.Paths.{holder_of, way_above, way_down, path_to}

append_none : (xs : List ℕ) → xs ≡ xs ++ []
append_none [] = refl
append_none (x ∷ xs) = ap (λ ys. x ∷ ys) (append_none xs)

module _ (tree : Tree) (high document : ℕ) (first : List ℕ) where
  pub way_ends : high ≡ 0 → first ≡ first ++ way_down high tree document
  unfolding way_down
  way_ends is = append_none first ∙ ap (λ h. first ++ way_down h tree document) (sym is)

  pub way_begins : (less : ℕ) → high ≡ suc less → holder_of tree document ≡ None → first ++ document ∷ [] ≡ first ++ way_down high tree document
  unfolding way_down
  way_begins less more bare =
      ap (λ o. first ++ (way_above (way_down less tree) o ++ document ∷ [])) (sym bare) ∙ ap (λ h. first ++ way_down h tree document) (sym more)

  pub way_goes_on : (less holder : ℕ) (so_far : List ℕ) → high ≡ suc less → holder_of tree document ≡ Some holder
      → so_far ≡ first ++ way_down less tree holder → so_far ++ document ∷ [] ≡ first ++ way_down high tree document
  unfolding way_down
  way_goes_on less holder so_far more held before =
      ap (λ xs. xs ++ document ∷ []) before
      ∙ append_assoc first (way_down less tree holder) (document ∷ [])
      ∙ ap (λ o. first ++ (way_above (way_down less tree) o ++ document ∷ [])) (sym held)
      ∙ ap (λ h. first ++ way_down h tree document) (sym more)

pub path_whole : (tree : Tree) (document : ℕ) → way_down (length tree.documents) tree document ≡ path_to tree document
unfolding path_to
path_whole tree document = refl
