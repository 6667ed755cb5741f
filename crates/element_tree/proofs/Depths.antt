-- Depth by parents.
use Rattle.std.proofs.Common.{◌≡◌, ℕ, suc, ◌+◌, ◌≤◌, List, Option, Some, None, refl, ap, ◌∙◌, arith, nat_eq, ◌||◌}
use Rattle.element_tree.specs.declared.node.NodeId.{NodeId}
use Rattle.element_tree.specs.Forest.{Knot, IsForest, parent_of, depth, depth_up, above, on_path, is_above}
use Rattle.element_tree.specs.Links.{node_ids}

pub some_of_ids : (o : Option ℕ) (p : NodeId) → node_ids o ≡ Some p → o ≡ Some (p.0)
some_of_ids None p e = cc
some_of_ids (Some n) p e = cc

pub none_of_ids : (o : Option ℕ) → node_ids o ≡ None → o ≡ None
none_of_ids None e = refl
none_of_ids (Some n) e = cc

pub depth_at : (high : ℕ) (parent : ℕ → Option ℕ) (n : ℕ) → depth_up (suc high) parent n ≡ suc (above (depth_up high parent) (parent n))
unfolding depth_up
depth_at high parent n = refl

pub on_path_at : (high : ℕ) (parent : ℕ → Option ℕ) (a n : ℕ) → on_path (suc high) parent a n ≡ (nat_eq a n || is_above (on_path high parent a) (parent n))
unfolding on_path
on_path_at high parent a n = refl

module _ {P : Type 0} where
  pub depth_one : (nodes : List (Knot P)) (n : ℕ) → parent_of nodes n ≡ None → depth nodes n ≡ 1
  unfolding depth
  depth_one nodes n e =
      depth_at 65535 (parent_of nodes) n ∙ ap (λ (o : Option ℕ). suc (above (depth_up 65535 (parent_of nodes)) o)) e

  pub depth_of_root : (nodes : List (Knot P)) (n : ℕ) → node_ids (parent_of nodes n) ≡ None → depth nodes n ≡ 1
  depth_of_root nodes n e = depth_one nodes n (none_of_ids _ e)

  pub depth_positive : (nodes : List (Knot P)) (n : ℕ) → 1 ≤ depth nodes n
  unfolding depth
  depth_positive nodes n = omega (arith, depth_at 65535 (parent_of nodes) n)

  pub climbs : {most : ℕ} {nodes : List (Knot P)} → IsForest most nodes → (n : ℕ) (p : NodeId) → node_ids (parent_of nodes n) ≡ Some p → depth nodes n ≡ depth nodes (p.0) + 1
  climbs forest n p e = forest.falls n (p.0) (some_of_ids _ p e)
