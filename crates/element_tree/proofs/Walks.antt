-- A walk over the children of a node by next siblings: `next` is the child to come, `after` the sibling behind it.
use Rattle.std.proofs.Common.{◌≡◌, ℕ, ◌<◌, List, ◌∷◌, Option, Some, None, option_map, true, false, nat_eq, arith, inl, inr, refl, sym, ap, ◌∙◌}
use Rattle.std.proofs.lemmas.Bool.Decides.{nat_tests}
use Rattle.element_tree.specs.declared.node.NodeId.{NodeId}
use Rattle.element_tree.specs.Forest.{Knot, IsForest, has, parent_of, children_of, children_under, siblings_of, next_of, first_of, rest_from, is_ancestor, is_above, above, depth}
use Rattle.element_tree.specs.Links.{node_ids, number, IsMark}
use Rattle.element_tree.proofs.Lists.{rest_step, next_has, next_differs, first_has, rest_all}
use Rattle.element_tree.proofs.Levels.{kid_parent, some_names, is_ancestor_at, option_cases}
use Rattle.element_tree.proofs.Depths.{on_path_at, depth_positive, some_of_ids}

pub back_numbers : (o : Option ℕ) → option_map number (node_ids o) ≡ o
back_numbers None = refl
back_numbers (Some n) = refl

module _ {P : Type 0} {most : ℕ} {nodes : List (Knot P)} (forest : IsForest most nodes) (n : ℕ) where
  -- where a walk begins
  pub walk_whole : (next : Option NodeId) → next ≡ node_ids (first_of (children_of nodes n)) → rest_from (option_map number next) (children_of nodes n) ≡ children_of nodes n
  walk_whole next e = ap (λ (o : Option NodeId). rest_from (option_map number o) (children_of nodes n)) e ∙ ap (λ o. rest_from o (children_of nodes n)) (back_numbers _) ∙ rest_all (children_of nodes n)

  pub walk_among : (next : Option NodeId) → next ≡ node_ids (first_of (children_of nodes n)) → (c : ℕ) → option_map number next ≡ Some c → has (children_of nodes n) c ≡ true
  walk_among next e c h = first_has c (children_of nodes n) (some_names _ c (sym (ap (λ (o : Option NodeId). option_map number o) e ∙ back_numbers _) ∙ h))

  module _ (next : Option NodeId) (child : NodeId) (is : next ≡ Some child)
      (among : (c : ℕ) → option_map number next ≡ Some c → has (children_of nodes n) c ≡ true) where
    pub walk_child : has (children_of nodes n) (child.0) ≡ true
    walk_child = among (child.0) (ap (λ (o : Option NodeId). option_map number o) is)

    module _ (after : Option NodeId) (after_is : after ≡ node_ids (next_of (child.0) (siblings_of nodes (child.0)))) where
      next_sibling : option_map number after ≡ next_of (child.0) (children_of nodes n)
      next_sibling =
          ap (λ (o : Option NodeId). option_map number o) after_is ∙ back_numbers _
          ∙ ap (λ xs. next_of (child.0) xs) (ap (children_under nodes) (kid_parent forest n (child.0) walk_child))

      pub walk_step : rest_from (option_map number next) (children_of nodes n) ≡ child.0 ∷ rest_from (option_map number after) (children_of nodes n)
      walk_step =
          ap (λ (o : Option NodeId). rest_from (option_map number o) (children_of nodes n)) is
          ∙ rest_step (child.0) (children_of nodes n) (forest.once n) walk_child
          ∙ ap (λ o. child.0 ∷ rest_from o (children_of nodes n)) (sym next_sibling)

      pub walk_on : (c : ℕ) → option_map number after ≡ Some c → has (children_of nodes n) c ≡ true
      walk_on c h = next_has (child.0) c (children_of nodes n) (sym next_sibling ∙ h)

-- a climb by parents
module _ {P : Type 0} (nodes : List (Knot P)) (a : ℕ) (at : Option NodeId) (inclusive : NodeId) (is : at ≡ Some inclusive) where
  pub climb_ends : inclusive.0 ≡ a → is_above (is_ancestor nodes a) (option_map number at) ≡ true
  unfolding is_ancestor
  climb_ends e =
      ap (λ (o : Option NodeId). is_above (is_ancestor nodes a) (option_map number o)) is
      ∙ on_path_at 65535 (parent_of nodes) a (inclusive.0) ∙ (let f : nat_eq a (inclusive.0) ≡ true = grind (arith, nat_tests) in rw f)

  module _ {most : ℕ} (forest : IsForest most nodes) (next : Option NodeId) (next_is : next ≡ node_ids (parent_of nodes (inclusive.0))) where
    numbers : option_map number next ≡ parent_of nodes (inclusive.0)
    numbers = ap (λ (o : Option NodeId). option_map number o) next_is ∙ back_numbers _

    pub climb_step : (inclusive.0 ≡ a → ⊥) → is_above (is_ancestor nodes a) (option_map number next) ≡ is_above (is_ancestor nodes a) (option_map number at)
    climb_step ne =
        ap (is_above (is_ancestor nodes a)) numbers
        ∙ sym (ap (λ (o : Option NodeId). is_above (is_ancestor nodes a) (option_map number o)) is
        ∙ is_ancestor_at forest a (inclusive.0) ∙ (let f : nat_eq a (inclusive.0) ≡ false = grind (arith, nat_tests) in rw f))

    pub climb_falls : above (depth nodes) (option_map number next) < above (depth nodes) (option_map number at)
    climb_falls =
        let here : above (depth nodes) (option_map number at) ≡ depth nodes (inclusive.0) = ap (λ (o : Option NodeId). above (depth nodes) (option_map number o)) is in
        let there : above (depth nodes) (option_map number next) ≡ above (depth nodes) (parent_of nodes (inclusive.0)) = ap (above (depth nodes)) numbers in
        elim (option_cases (parent_of nodes (inclusive.0))) [
          | inl e ↦ let z : above (depth nodes) (parent_of nodes (inclusive.0)) ≡ 0 = ap (above (depth nodes)) e in omega (arith, depth_positive nodes (inclusive.0))
          | inr q ↦
              let z : above (depth nodes) (parent_of nodes (inclusive.0)) ≡ depth nodes q.0 = ap (above (depth nodes)) q.1 in
              omega (arith, forest.falls (inclusive.0) q.0 q.1)
        ]

-- the next sibling of a child is another child of the same parent
pub next_marks : {P : Type 0} {most : ℕ} {nodes : List (Knot P)} → IsForest most nodes → (p c : ℕ) → parent_of nodes c ≡ Some p
    → (next : Option NodeId) → next ≡ node_ids (next_of c (siblings_of nodes c)) → (x : NodeId) → next ≡ Some x → IsMark nodes p c (x.0)
next_marks {P} {most} {nodes} forest p c held next next_is x e =
    let here : next_of c (siblings_of nodes c) ≡ Some (x.0) = some_of_ids _ x (sym next_is ∙ e) in
    let among : next_of c (children_of nodes p) ≡ Some (x.0) = sym (ap (λ o. next_of c (children_under nodes o)) held) ∙ here in
    record {
      child = kid_parent forest p (x.0) (next_has c (x.0) (children_of nodes p) among);
      other = next_differs c (x.0) (children_of nodes p) (forest.once p) among;
    }
