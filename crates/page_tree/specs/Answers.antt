-- How an element is inserted into the tree, and the page's fault for each refusal by the tree.
use Rattle.std.specs.Prelude.{ℕ, Bool, false, not, List, Option, Some, None}
use Rattle.text_io.specs.declared.kinds.LimitKind.TheVariants.{Nodes, Depth}
use Rattle.text_io.specs.declared.kinds.ThrowKind.TheVariants.{HierarchyRequestError, NotFoundError}
use Rattle.element_tree.specs.declared.fault.TreeFault.{TreeFault}
use Rattle.element_tree.specs.declared.fault.TreeFault.TheVariants.{Hierarchy, NotAChild, NodeLimit, DepthLimit, Memory}
use Rattle.element_tree.specs.Forest.{Knot, Forest, names, parent_of}
use Rattle.element_tree.specs.Edits.{mark_of}
use Rattle.element_tree.specs.Answers.{append_fault, insert_fault}
use Rattle.page_tree.specs.declared.faults.PlaceFault.{PlaceFault}
use Rattle.page_tree.specs.declared.faults.PlaceFault.TheVariants.{Throw, Limit}
use Rattle.page_tree.specs.declared.faults.MakeFault.{MakeFault}
use Rattle.page_tree.specs.declared.faults.MakeFault.TheVariants as made
use Rattle.page_tree.specs.Items.{Described}

-- why an element can't be inserted into another one, before a sibling or as the last child
abbrev pub put_fault : Forest Described → ℕ → ℕ → Option ℕ → Option TreeFault
put_fault forest p n None = append_fault forest p n
put_fault forest p n (Some sibling) = insert_fault forest p n sibling

-- the child before which it is inserted, none if it becomes the last one
abbrev pub mark_for : ℕ → Option ℕ → List (Knot Described) → Option ℕ
mark_for n None nodes = None
mark_for n (Some sibling) nodes = mark_of n sibling nodes

-- placing an element needs no memory and makes no node, so that `NodeLimit` and `Memory` don't come up
abbrev pub refusal_of : TreeFault → PlaceFault
refusal_of Hierarchy = Throw HierarchyRequestError
refusal_of NotAChild = Throw NotFoundError
refusal_of NodeLimit = Limit Depth
refusal_of DepthLimit = Limit Depth
refusal_of Memory = Limit Depth

-- making room places nothing, so that only `NodeLimit` and `Memory` come up
abbrev pub unmade_of : TreeFault → MakeFault
unmade_of Hierarchy = made.Memory
unmade_of NotAChild = made.Memory
unmade_of NodeLimit = made.Limit Nodes
unmade_of DepthLimit = made.Memory
unmade_of Memory = made.Memory

-- whether there is a given sibling that isn't a child of the parent
abbrev pub is_elsewhere : List (Knot Described) → ℕ → Option ℕ → Bool
is_elsewhere nodes p None = false
is_elsewhere nodes p (Some sibling) = not (names (parent_of nodes sibling) p)
