-- The root of the tree that an element stands in, and whether that is the tree of an Active document.
use Rattle.std.proofs.Common.{◌≡◌, ◌≤◌, ℕ, zero, suc, List, [], length, true, false, cond, Option, Some, None, refl, ap, sym, ◌∙◌, arith, subst}
use Rattle.layout_model.specs.Nodes.{Node, path_above, path_up, path_of, depth_of, last_of, top_of}
use Rattle.layout_model.proofs.Paths.{path_child, path_top, path_self}
use Rattle.element_tree.specs.Forest.{Forest, IsForest, parent_of, depth, depth_up, above}
use Rattle.element_tree.proofs.Depths.{depth_one}
use Rattle.element_tree.proofs.Levels.{depth_is, low_enough}
use Rattle.page_model.specs.World.{Document, Tree}
use Rattle.page_model.specs.Lookups.{element_at}
use Rattle.page_model.specs.Documents.{nodes_of, root_of, is_root_element, tree_document, is_active_there, stands_in_active}
use Rattle.page_documents.specs.Seen.{Carried, seen_tree}
use Rattle.page_documents.proofs.Seen.{parent_seen}

-- the path is as long as the depth counts
module _ (at : ℕ → Node) (parent : ℕ → Option ℕ) (same : (n : ℕ) → (at n).parent ≡ parent n) where
  above_length : (high : ℕ) (found : Option ℕ) → ((n : ℕ) → length (path_up high at n) ≡ depth_up (suc high) parent n)
      → length (path_above (path_up high at) found) ≡ above (depth_up (suc high) parent) found
  above_length high None all = refl
  above_length high (Some p) all = all p

  path_length : (high n : ℕ) → length (path_up high at n) ≡ depth_up (suc high) parent n
  unfolding path_up depth_up
  path_length zero n = ap suc (none_above (parent n))
    where
      none_above : (found : Option ℕ) → 0 ≡ above (depth_up 0 parent) found
      none_above None = refl
      none_above (Some p) = refl
  path_length (suc high) n = ap suc (above_length high ((at n).parent) (path_length high) ∙ ap (above (depth_up (suc high) parent)) (same n))

module _ {P : Type 0} (carried : P → Carried) (forest : Forest P) (documents : List Document) (is : IsForest forest.most_depth forest.nodes) where
  pub shallow : (n : ℕ) → depth_of (nodes_of (seen_tree carried forest documents)) n ≤ 65536
  unfolding depth_of path_of
  shallow n =
      subst (λ k. k ≤ 65536)
      (sym (path_length (nodes_of (seen_tree carried forest documents)) (parent_of forest.nodes) (parent_seen carried forest documents) 65536 n
      ∙ depth_is (parent_of forest.nodes) (depth forest.nodes) (depth_one forest.nodes) is.falls 65537 n (omega (arith, low_enough is n))))
      (low_enough is n)

  pub root_above : (n parent : ℕ) → parent_of forest.nodes n ≡ Some parent → root_of (seen_tree carried forest documents) n
      ≡ root_of (seen_tree carried forest documents) parent
  unfolding root_of top_of last_of
  root_above n parent up =
      ap (last_of n) (path_child (nodes_of (seen_tree carried forest documents)) n parent (parent_seen carried forest documents n ∙ up) (shallow parent))
      ∙ ap (last_of n) (path_self (nodes_of (seen_tree carried forest documents)) parent (shallow parent))
      ∙ sym (ap (last_of parent) (path_self (nodes_of (seen_tree carried forest documents)) parent (shallow parent)))

  pub root_self : (n : ℕ) → parent_of forest.nodes n ≡ None → root_of (seen_tree carried forest documents) n ≡ n
  unfolding root_of top_of last_of
  root_self n top = ap (last_of n) (path_top (nodes_of (seen_tree carried forest documents)) n (parent_seen carried forest documents n ∙ top))

-- which documents there are makes no difference
pub root_alone : {P : Type 0} (carried : P → Carried) (forest : Forest P) (documents : List Document) (n : ℕ) → root_of (seen_tree carried forest []) n
    ≡ root_of (seen_tree carried forest documents) n
unfolding root_of
root_alone carried forest documents n = refl

module _ (tree : Tree) (n top : ℕ) (is : top ≡ root_of tree n) where
  pub not_standing : is_root_element tree top ≡ false → None ≡ tree_document tree n
  unfolding tree_document
  not_standing bare = sym (ap (λ b. cond b (Some (element_at tree n).document) None) (ap (is_root_element tree) (sym is) ∙ bare))

  pub standing : is_root_element tree top ≡ true → Some (element_at tree n).document ≡ tree_document tree n
  unfolding tree_document
  standing rooted = sym (ap (λ b. cond b (Some (element_at tree n).document) None) (ap (is_root_element tree) (sym is) ∙ rooted))

pub active_there : (tree : Tree) (n : ℕ) (found : Option ℕ) → found ≡ tree_document tree n → is_active_there tree found ≡ stands_in_active tree n
unfolding stands_in_active
active_there tree n found is = ap (is_active_there tree) is
