-- To which document what stands in a tree belongs.
use Rattle.std.proofs.Common.{◌≡◌, ℕ, zero, suc, Bool, true, false, Option, Some, None, nat_eq, refl, ap, sym, ◌∙◌, arith}
use Rattle.std.proofs.lemmas.Bool.Decides.{nat_tests}
use Rattle.std.specs.Prelude.{◌||◌}
use Rattle.layout_model.specs.Nodes.{path_above, path_up, is_among, is_in_path}
use Rattle.page_model.specs.World.{Tree}
use Rattle.page_model.specs.Lookups.{element_at}
use Rattle.page_model.specs.Documents.{nodes_of}
use Rattle.page_documents.specs.Frames.{AreFramed}

-- all that stands in the tree of an element belongs to its document
module _ (tree : Tree) (framed : AreFramed tree) (root : ℕ) where
  alone : (n : ℕ) (same : Bool) → nat_eq root n ≡ same → (same || false) ≡ true → (element_at tree n).document ≡ (element_at tree root).document
  alone n true is e = let it : root ≡ n = grind (arith, nat_tests) in ap (λ m. (element_at tree m).document) (sym it)
  alone n false is e = cc

  owner_up : (high n : ℕ) → is_among root (path_up high (nodes_of tree) n) ≡ true → (element_at tree n).document ≡ (element_at tree root).document
  unfolding path_up is_among
  owner_up zero n among = alone n (nat_eq root n) refl among
  owner_up (suc high) n among = up (owner_up high) (element_at tree n).parent refl among
    where
      up : ((p : ℕ) → is_among root (path_up high (nodes_of tree) p) ≡ true → (element_at tree p).document ≡ (element_at tree root).document)
          → (found : Option ℕ) → (element_at tree n).parent ≡ found → (nat_eq root n || is_among root (path_above (path_up high (nodes_of tree)) found)) ≡ true
          → (element_at tree n).document ≡ (element_at tree root).document
      up so_far None none e = alone n (nat_eq root n) refl e
      up so_far (Some p) some e = above (nat_eq root n) refl e
        where
          above : (same : Bool) → nat_eq root n ≡ same → (same || is_among root (path_up high (nodes_of tree) p)) ≡ true
              → (element_at tree n).document ≡ (element_at tree root).document
          above true is e = alone n true is refl
          above false is e = framed.owners.owned n p some ∙ so_far p e

  pub owner_inside : (n : ℕ) → is_in_path (nodes_of tree) root n ≡ true → (element_at tree n).document ≡ (element_at tree root).document
  unfolding is_in_path
  owner_inside n inside = owner_up 65536 n inside
