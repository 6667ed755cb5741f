-- Elements in the order in which they are painted, one level at a time.
use Rattle.std.proofs.Common.{◌≡◌, ◌∙◌, ℕ, suc, List, [], ◌∷◌, ◌++◌, flat_map, Some, None, option_to_list, ap, sym}
use Rattle.std.proofs.lemmas.List.{append-nil, append_assoc}
use Rattle.std.proofs.lemmas.Grind.{flat_map-append}
use Rattle.page_model.specs.World.{Tree}
use Rattle.page_model.specs.Lookups.{element_at}
use Rattle.hit_test.specs.Painting.{paint_order, painted_down, painted_inside, painted_root}

module _ (tree : Tree) where
  pub painted_none : (now : List ℕ) (high n : ℕ) → high ≡ 0 → now ≡ now ++ painted_down high tree n
  unfolding painted_down
  painted_none now high n none = sym (append-nil now) ∙ ap (λ h. now ++ painted_down h tree n) (sym none)

  whole : (deep n : ℕ) → painted_down (suc deep) tree n
      ≡ n ∷ (flat_map (painted_down deep tree) (element_at tree n).children ++ flat_map (painted_down deep tree) (painted_inside tree (element_at tree n).framed))
  unfolding painted_down
  whole deep n =
      ap (λ xs. n ∷ xs) (flat_map-append (painted_down deep tree) ((element_at tree n).children) (painted_inside tree (element_at tree n).framed))

  module _ (high deep n : ℕ) (more : high ≡ suc deep) (old now : List ℕ) (kids : List ℕ) (kids_are : (element_at tree n).children ≡ kids)
      (so_far : now ≡ old ++ n ∷ flat_map (painted_down deep tree) kids) where
    spread : old ++ painted_down high tree n ≡ now ++ flat_map (painted_down deep tree) (painted_inside tree (element_at tree n).framed)
    spread =
        ap (λ h. old ++ painted_down h tree n) more
        ∙ ap (λ xs. old ++ xs) (whole deep n)
        ∙ ap (λ xs. old ++ (n ∷ (flat_map (painted_down deep tree) xs ++ flat_map (painted_down deep tree) (painted_inside tree (element_at tree n).framed)))) kids_are
        ∙ sym (append_assoc old (n ∷ flat_map (painted_down deep tree) kids) (flat_map (painted_down deep tree) (painted_inside tree (element_at tree n).framed)))
        ∙ ap (λ xs. xs ++ flat_map (painted_down deep tree) (painted_inside tree (element_at tree n).framed)) (sym so_far)

    pub painted_bare : option_to_list None ≡ painted_inside tree (element_at tree n).framed → now ≡ old ++ painted_down high tree n
    painted_bare inside =
        sym (append-nil now)
        ∙ ap (λ xs. now ++ flat_map (painted_down deep tree) xs) inside
        ∙ sym spread

    pub painted_full : (root : ℕ) (new : List ℕ) → option_to_list (Some root) ≡ painted_inside tree (element_at tree n).framed
        → new ≡ now ++ painted_down deep tree root → new ≡ old ++ painted_down high tree n
    painted_full root new inside painted =
        painted
        ∙ ap (λ xs. now ++ xs) (sym (append-nil (painted_down deep tree root)))
        ∙ ap (λ xs. now ++ flat_map (painted_down deep tree) xs) inside
        ∙ sym spread

pub whole_page : (tree : Tree) (root : ℕ) (now : List ℕ) → option_to_list (Some root) ≡ painted_root tree 0 → now ≡ painted_down 65536 tree root → now ≡ paint_order tree
unfolding paint_order
whole_page tree root now there painted =
    painted ∙ sym (append-nil (painted_down 65536 tree root)) ∙ ap (λ roots. flat_map (painted_down 65536 tree) roots) there

pub bare_page : (tree : Tree) → option_to_list None ≡ painted_root tree 0 → [] ≡ paint_order tree
unfolding paint_order
bare_page tree none = ap (λ roots. flat_map (painted_down 65536 tree) roots) none
