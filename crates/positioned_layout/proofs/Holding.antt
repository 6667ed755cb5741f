-- A climb to what holds a box.
use Rattle.std.proofs.Common.{◌≡◌, ◌<◌, ◌≤◌, subst, ℕ, Bool, cond, Option, Some, None, List, length, option_map, refl, ap, sym, ◌∙◌, arith}
use Rattle.std.specs.Prelude.{find, IfSome}
use Rattle.layout_model.specs.Nodes.{Node, path_above, path_of, ancestors_of, held_by, IsShallow}
use Rattle.layout_model.proofs.Paths.{path_self}
use Rattle.element_tree.specs.declared.node.NodeId.{NodeId}
use Rattle.element_tree.specs.Forest.{Knot, IsForest, parent_of, depth, above}
use Rattle.element_tree.specs.Links.{node_ids, number}
use Rattle.element_tree.proofs.Depths.{some_of_ids}
use Rattle.element_tree.proofs.Facts.{parent_in_range}
use Rattle.element_tree.proofs.Walks.{back_numbers}
use Rattle.positioned_layout.specs.Seen.{seen_holder, held_from, IfElement}

pub numbers_are : (o : Option ℕ) (found : Option NodeId) → found ≡ node_ids o → option_map number found ≡ o
numbers_are o found is = ap (λ (f : Option NodeId). option_map number f) is ∙ back_numbers o

pub ancestors_by : (at : ℕ → Node) (n : ℕ) (o : Option ℕ) → (at n).parent ≡ o → ancestors_of at n ≡ path_above (path_of at) o
unfolding ancestors_of
ancestors_by at n o is = ap (path_above (path_of at)) is

pub found_from : (at : ℕ → Node) → IsShallow at → (test : ℕ → Bool) (a : ℕ) (passes : Bool) → test a ≡ passes → find test (path_of at a) ≡ cond passes (Some a) (find test (ancestors_of at a))
found_from at shallow test a passes is = ap (find test) (path_self at a (shallow a)) ∙ ap (λ b. cond b (Some a) (find test (ancestors_of at a))) is

pub seen_held : (found : Option NodeId) → seen_holder (held_from found) ≡ held_by (option_map number found)
seen_held None = refl
seen_held (Some element) = refl

-- what is known of an element, where there is one
pub if_held : (nodes_length level : ℕ) (deep : ℕ → ℕ) (found : Option NodeId) → IfSome found (λ element. (element.0 < nodes_length) × (deep (element.0) < level)) → IfElement (held_from found) (λ element. (element < nodes_length) × (deep element < level))
if_held nodes_length level deep None known = tt
if_held nodes_length level deep (Some element) known = known

module _ {P : Type 0} {most : ℕ} {nodes : List (Knot P)} (forest : IsForest most nodes) where
  pub parent_above : (n a : ℕ) → parent_of nodes n ≡ Some a → (a < length nodes) × (depth nodes a < depth nodes n)
  parent_above n a up = (parent_in_range forest n a up, omega (arith, forest.falls n a up))

  pub if_parent : (n : ℕ) (found : Option NodeId) → found ≡ node_ids (parent_of nodes n) → IfSome found (λ element. (element.0 < length nodes) × (depth nodes (element.0) < depth nodes n))
  if_parent n None is = tt
  if_parent n (Some element) is = parent_above n (element.0) (some_of_ids _ element (sym is))

-- a fact of an element, where there is one, by its number
pub if_number : (fact : ℕ → Type 0) (found : Option NodeId) → IfSome found (λ element. fact (element.0)) → (m : ℕ) → option_map number found ≡ Some m → fact m
if_number fact None known m is = absurd (let both : None ≡ Some m = is in cc)
if_number fact (Some element) known m is = let same : element.0 ≡ m = cc in subst fact same known

pub less_above : (deep : ℕ → ℕ) (level size : ℕ) → 1 ≤ level → (found : Option NodeId) → IfSome found (λ element. (element.0 < size) × (deep (element.0) < level)) → above deep (option_map number found) < level
less_above deep level size some None known = omega (arith, some)
less_above deep level size some (Some element) known = known.1
