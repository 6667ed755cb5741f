-- When an insertion is refused (DOM, 4.2.3 ensure pre-insert validity). That a depth is limited is this project's own.
use Rattle.std.specs.Prelude.{◌≡◌, ◌≢◌, ℕ, false, length, ◌+◌, Bool, not, cond, nat_lt, Option, Some, None}
use Rattle.element_tree.specs.declared.fault.TreeFault.{TreeFault}
use Rattle.element_tree.specs.declared.fault.TreeFault.TheVariants.{Hierarchy, NotAChild, NodeLimit, DepthLimit, Memory}
use Rattle.element_tree.specs.Forest.{Forest, names, parent_of, depth, height, is_ancestor}

module _ {P : Type 0} where
  abbrev pub too_deep : Forest P → ℕ → ℕ → Bool
  too_deep f p n = nat_lt f.most_depth (depth f.nodes p + height f.nodes n)

  -- why a node can't be appended to a parent
  abbrev pub append_fault : Forest P → ℕ → ℕ → Option TreeFault
  append_fault f p n =
      cond (is_ancestor f.nodes n p) (Some Hierarchy)
      (cond (too_deep f p n) (Some DepthLimit) None)

  -- why a node can't be inserted into a parent before a sibling
  abbrev pub insert_fault : Forest P → ℕ → ℕ → ℕ → Option TreeFault
  insert_fault f p n sibling =
      cond (is_ancestor f.nodes n p) (Some Hierarchy)
      (cond (not (names (parent_of f.nodes sibling) p)) (Some NotAChild)
      (cond (too_deep f p n) (Some DepthLimit) None))

  -- why no node can be added: the limit is met, or memory was needed and there was none
  abbrev pub IsAddFault : Forest P → TreeFault → Type 0
  IsAddFault f Hierarchy = ⊥
  IsAddFault f NotAChild = ⊥
  IsAddFault f NodeLimit = length f.nodes ≡ f.most_nodes
  IsAddFault f DepthLimit = ⊥
  IsAddFault f Memory = (length f.nodes ≢ f.most_nodes) × (f.ready ≡ false)
