-- Paths to a root, and levels below a node, as layout and the page count them and as the tree does.
use Rattle.std.proofs.Common.{◌≡◌, ℕ, zero, suc, ◌≤◌, max, ◌||◌, List, [], ◌∷◌, map, fold, length, Option, Some, None, refl, ap, sym, ◌∙◌, arith, inl, inr, nat_eq}
use Rattle.layout_model.specs.Nodes.{Node, path_above, path_up, path_of, depth_of, is_among, is_in_path}
use Rattle.element_tree.specs.Forest.{Knot, IsForest, parent_of, children_of, depth, depth_up, above, is_ancestor, is_above, height, height_down, greatest}
use Rattle.element_tree.proofs.Depths.{depth_one, depth_positive}
use Rattle.element_tree.proofs.Levels.{option_cases, depth_is, is_ancestor_at, low_enough}
use Rattle.page_model.specs.World.{Tree}
use Rattle.page_model.specs.Lookups.{element_at}
use Rattle.page_model.specs.Documents.{levels_down, levels_of}

-- the path is as long as the depth counts
module _ (at : ℕ → Node) (parent : ℕ → Option ℕ) (same : (n : ℕ) → (at n).parent ≡ parent n) where
  above_length : (high : ℕ) (found : Option ℕ) → ((n : ℕ) → length (path_up high at n) ≡ depth_up (suc high) parent n)
      → length (path_above (path_up high at) found) ≡ above (depth_up (suc high) parent) found
  above_length high None all = refl
  above_length high (Some p) all = all p

  path_length : (high n : ℕ) → length (path_up high at n) ≡ depth_up (suc high) parent n
  unfolding path_up depth_up
  path_length zero n = ap suc (none_above (parent n))
    where
      none_above : (found : Option ℕ) → 0 ≡ above (depth_up 0 parent) found
      none_above None = refl
      none_above (Some p) = refl
  path_length (suc high) n = ap suc (above_length high ((at n).parent) (path_length high) ∙ ap (above (depth_up (suc high) parent)) (same n))

module _ {P : Type 0} {most : ℕ} {nodes : List (Knot P)} (forest : IsForest most nodes) (at : ℕ → Node) (same : (n : ℕ) → (at n).parent ≡ parent_of nodes n) where
  pub depth_same : (n : ℕ) → depth_of at n ≡ depth nodes n
  unfolding depth_of path_of
  depth_same n =
      path_length at (parent_of nodes) same 65536 n
      ∙ depth_is (parent_of nodes) (depth nodes) (depth_one nodes) (forest.falls) 65537 n (omega (arith, low_enough forest n))

  among_at : (a n : ℕ) (found : Option ℕ) → parent_of nodes n ≡ found → is_ancestor nodes a n ≡ (nat_eq a n || is_above (is_ancestor nodes a) found)
  among_at a n found e = is_ancestor_at forest a n ∙ ap (λ o. nat_eq a n || is_above (is_ancestor nodes a) o) e

  path_among : (a high n : ℕ) → depth nodes n ≤ suc high → is_among a (path_up high at n) ≡ is_ancestor nodes a n
  unfolding path_up is_among
  path_among a zero n h =
      elim (option_cases (parent_of nodes n)) [
        | inl e ↦ sym (among_at a n None e)
        | inr q ↦ absurd (omega (arith, forest.falls n q.0 q.1, depth_positive nodes q.0))
      ]
  path_among a (suc high) n h =
      elim (option_cases (parent_of nodes n)) [
        | inl e ↦ ap (λ o. nat_eq a n || is_among a (path_above (path_up high at) o)) (same n ∙ e) ∙ sym (among_at a n None e)
        | inr q ↦
            ap (λ o. nat_eq a n || is_among a (path_above (path_up high at) o)) (same n ∙ q.1)
            ∙ ap (λ b. nat_eq a n || b) (path_among a high q.0 (omega (arith, forest.falls n q.0 q.1)))
            ∙ sym (among_at a n (Some q.0) q.1)
      ]

  pub ancestor_same : (a n : ℕ) → is_in_path at a n ≡ is_ancestor nodes a n
  unfolding is_in_path path_of
  ancestor_same a n = path_among a 65536 n (omega (arith, low_enough forest n))

fold_greatest : (f g : ℕ → ℕ) → ((n : ℕ) → f n ≡ g n) → (xs : List ℕ) (a : ℕ) → fold max a (map f xs) ≡ max a (greatest g xs)
fold_greatest f g same [] a = omega arith
fold_greatest f g same (x ∷ xs) a = fold_greatest f g same xs (max a (f x)) ∙ omega (arith, same x)

module _ {P : Type 0} (nodes : List (Knot P)) (tree : Tree) (same : (n : ℕ) → (element_at tree n).children ≡ children_of nodes n) where
  levels_at : (deep n : ℕ) → levels_down deep tree n ≡ height_down deep (children_of nodes) n
  unfolding levels_down height_down
  levels_at zero n = refl
  levels_at (suc deep) n =
      ap (λ xs. suc (fold max 0 (map (levels_down deep tree) xs))) (same n)
      ∙ ap suc (fold_greatest (levels_down deep tree) (height_down deep (children_of nodes)) (levels_at deep) (children_of nodes n) 0 ∙ omega arith)

  pub levels_same : (n : ℕ) → levels_of tree n ≡ height nodes n
  unfolding levels_of height
  levels_same n = levels_at 65536 n
