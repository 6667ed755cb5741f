-- A list that is made child by child.
use Rattle.std.proofs.Common.{◌≡◌, ◌∙◌, ℕ, List, [], ◌∷◌, ◌++◌, map, flat_map, Option, None, option_map, ap, sym}
use Rattle.std.proofs.lemmas.List.{append-nil, append_assoc, map-append}
use Rattle.element_tree.specs.declared.node.NodeId.{NodeId}
use Rattle.element_tree.specs.Forest.{rest_from}
use Rattle.element_tree.specs.Links.{number}

module _ (below : ℕ → List ℕ) where
  -- an element, and then its children
  pub begins : (old new : List NodeId) (node : NodeId) (rest kids : List ℕ) → new ≡ old ++ node ∷ [] → rest ≡ kids
      → map number new ++ flat_map below rest ≡ map number old ++ node.0 ∷ flat_map below kids
  begins old new node rest kids more whole =
      ap (λ (xs : List NodeId). map number xs ++ flat_map below rest) more
      ∙ ap (λ xs. xs ++ flat_map below rest) (map-append number old (node ∷ []))
      ∙ append_assoc (map number old) (node.0 ∷ []) (flat_map below rest)
      ∙ ap (λ xs. map number old ++ node.0 ∷ flat_map below xs) whole

  pub goes_on : (now new all rest others : List ℕ) (child : ℕ) → rest ≡ child ∷ others → new ≡ now ++ below child → now ++ flat_map below rest ≡ all
      → new ++ flat_map below others ≡ all
  goes_on now new all rest others child step more so_far =
      ap (λ xs. xs ++ flat_map below others) more
      ∙ append_assoc now (below child) (flat_map below others)
      ∙ ap (λ xs. now ++ flat_map below xs) (sym step)
      ∙ so_far

  pub ends : (now all : List ℕ) (next : Option NodeId) (kids : List ℕ) → next ≡ None → now ++ flat_map below (rest_from (option_map number next) kids) ≡ all → now ≡ all
  ends now all next kids none so_far =
      sym (append-nil now) ∙ ap (λ (o : Option NodeId). now ++ flat_map below (rest_from (option_map number o) kids)) (sym none) ∙ so_far
