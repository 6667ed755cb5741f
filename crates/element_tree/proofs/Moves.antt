-- The slab stands for the forest after a removal and after an insertion.
use Rattle.std.proofs.Common.{◌≡◌, ℕ, zero, suc, ◌+◌, ◌≤◌, ◌<◌, List, [], ◌∷◌, length, Option, Some, None, option_map, true, false, nat_eq, refl, sym, ap, subst, ◌∙◌, arith, inl, inr, slice_get, IsSome}
use Rattle.std.proofs.lemmas.Bool.{false≢true}
use Rattle.std.proofs.lemmas.Bool.Decides.{nat_tests}
use Rattle.slab.specs.Slab.{Slab}
use Rattle.element_tree.specs.declared.node.NodeId.{NodeId}
use Rattle.element_tree.specs.declared.node.Links.{Links}
use Rattle.element_tree.specs.declared.node.Entry.{Entry}
use Rattle.element_tree.specs.Forest.{Knot, IsForest, has, parent_of, children_of, siblings_of, children_under, depth, height, is_ancestor}
use Rattle.element_tree.specs.Edits.{removed, removed_from, attached}
use Rattle.element_tree.specs.Links.{node_ids, links_at, payload_at, unlinked, unlinked_from, linked, Stands, IsLinkedIn, IsRelinked, IsClosed}
use Rattle.element_tree.proofs.Nodes.{parent_within, payload-removed, payload-attached, length-removed}
use Rattle.element_tree.proofs.Levels.{kid_parent, some_names, option_cases}
use Rattle.element_tree.proofs.Shape.{IsForest-removed, IsForest-attached, parent_gone, parent_stays}
use Rattle.element_tree.proofs.Leaving.{IsLinkedIn-removed, ahead_has}
use Rattle.element_tree.proofs.Lists.{first_has, last_has, next_has}
use Rattle.element_tree.proofs.Depths.{some_of_ids}
use Rattle.element_tree.proofs.Entering.{IsLinkedIn-attached}
use Rattle.element_tree.proofs.Standing.{children_within}

some_within : {P : Type 0} (nodes : List (Knot P)) (n : ℕ) → n < length nodes → IsSome (option_map (λ k. k.payload) (slice_get nodes n))
some_within [] n h = absurd (omega arith)
some_within (x ∷ nodes) zero h = refl
some_within (x ∷ nodes) (suc n) h = some_within nodes n (omega arith)

module _ {P : Type 0} {most : ℕ} {slots : Slab (Entry P)} {nodes : List (Knot P)} (stands : Stands most slots nodes) where
  pub parent_in_range : (n p : ℕ) → parent_of nodes n ≡ Some p → p < length nodes
  parent_in_range n p e = children_within stands p n (stands.forest.listed p n ∙ some_names _ p e)

  pub Stands-removed : {new : Slab (Entry P)} (n : ℕ) → n < length nodes → IsRelinked slots new (unlinked (links_at slots) n) → Stands most new (removed n nodes)
  Stands-removed {new} n n_in moved =
      elim (option_cases (parent_of nodes n)) [
        | inl e ↦ subst (Stands most new) (sym (ap (λ o. removed_from o n nodes) e)) (record {
          payloads = λ m. moved.payloads m ∙ stands.payloads m;
          links = λ m. subst (λ (l : Links). IsLinkedIn nodes l m)
              (sym (moved.links m ∙ ap (λ (o : Option NodeId). unlinked_from o n (links_at slots) m) ((stands.links n).parent ∙ ap node_ids e))) (stands.links m);
          forest = stands.forest;
        })
        | inr q ↦
            let p_in = parent_in_range n q.0 q.1 in
            subst (Stands most new) (sym (ap (λ o. removed_from o n nodes) q.1)) (record {
              payloads = λ m. moved.payloads m ∙ stands.payloads m ∙ sym (payload-removed nodes n q.0 n_in p_in m);
              links = λ m. subst (λ (l : Links). IsLinkedIn (removed_from (Some q.0) n nodes) l m) (sym (moved.links m))
                  (IsLinkedIn-removed nodes stands.forest n q.0 q.1 n_in p_in (links_at slots) stands.links m);
              forest = IsForest-removed nodes stands.forest n q.0 q.1 n_in p_in;
            })
      ]

  pub removed_length : (n : ℕ) → n < length nodes → length (removed n nodes) ≡ length nodes
  removed_length n n_in =
      elim (option_cases (parent_of nodes n)) [
        | inl e ↦ ap (λ o. length (removed_from o n nodes)) e
        | inr q ↦ ap (λ o. length (removed_from o n nodes)) q.1 ∙ length-removed nodes n q.0 n_in (parent_in_range n q.0 q.1)
      ]

  pub alone_removed : (n : ℕ) → n < length nodes → parent_of (removed n nodes) n ≡ None
  alone_removed n n_in =
      elim (option_cases (parent_of nodes n)) [
        | inl e ↦ ap (λ o. parent_of (removed_from o n nodes) n) e ∙ e
        | inr q ↦ ap (λ o. parent_of (removed_from o n nodes) n) q.1
            ∙ parent_gone nodes stands.forest n q.0 q.1 n_in (parent_in_range n q.0 q.1) n (let e : nat_eq n n ≡ true = grind (arith, nat_tests) in e)
      ]

  pub others_removed : (n : ℕ) → n < length nodes → (m : ℕ) → nat_eq m n ≡ false → parent_of (removed n nodes) m ≡ parent_of nodes m
  others_removed n n_in m ne =
      elim (option_cases (parent_of nodes n)) [
        | inl e ↦ ap (λ o. parent_of (removed_from o n nodes) m) e
        | inr q ↦ ap (λ o. parent_of (removed_from o n nodes) m) q.1
            ∙ parent_stays nodes stands.forest n q.0 q.1 n_in (parent_in_range n q.0 q.1) m ne
      ]

  -- the moved node was taken out of `first`
  pub Stands-attached : {new : Slab (Entry P)} (first : List (Knot P)) → IsForest most first → (p n : ℕ) (mark : Option ℕ)
      → n < length nodes → p < length nodes → parent_of nodes n ≡ None
      → ((m : ℕ) → nat_eq m n ≡ false → parent_of nodes m ≡ parent_of first m)
      → is_ancestor first n p ≡ false → depth first p + height first n ≤ most
      → ((s : ℕ) → mark ≡ Some s → has (children_of nodes p) s ≡ true)
      → IsRelinked slots new (linked (links_at slots) p n (node_ids mark)) → Stands most new (attached p n mark nodes)
  Stands-attached first earlier p n mark n_in p_in alone same apart fits marks moved = record {
    payloads = λ m. moved.payloads m ∙ stands.payloads m ∙ sym (payload-attached nodes p n mark n_in p_in m);
    links = λ m. subst (λ (l : Links). IsLinkedIn (attached p n mark nodes) l m) (sym (moved.links m))
        (IsLinkedIn-attached first nodes earlier stands.forest p n mark n_in p_in alone same apart fits marks (links_at slots) stands.links m);
    forest = IsForest-attached first nodes earlier stands.forest p n mark n_in p_in alone same apart fits;
  }

  -- each link leads to a node of the slab
  pub there : (n : ℕ) → n < length nodes → IsSome (payload_at slots n)
  there n h = subst IsSome (sym (stands.payloads n)) (some_within nodes n h)

  child_in : (p c : ℕ) → has (children_of nodes p) c ≡ true → IsSome (payload_at slots c)
  child_in p c h = there c (parent_within nodes c p (kid_parent stands.forest p c h))

  sibling_in : (n c : ℕ) → has (siblings_of nodes n) c ≡ true → IsSome (payload_at slots c)
  sibling_in n c h =
      elim (option_cases (parent_of nodes n)) [
        | inl e ↦ absurd (false≢true (sym (ap (λ o. has (children_under nodes o) c) e) ∙ h))
        | inr q ↦ child_in q.0 c (sym (ap (λ o. has (children_under nodes o) c) q.1) ∙ h)
      ]

  pub IsClosed-from : IsClosed slots
  IsClosed-from n = record {
    parent = λ x e. there (x.0) (parent_in_range n (x.0) (some_of_ids _ x (sym (stands.links n).parent ∙ e)));
    first = λ x e. child_in n (x.0) (first_has (x.0) _ (some_names _ _ (some_of_ids _ x (sym (stands.links n).first ∙ e))));
    last = λ x e. child_in n (x.0) (last_has (x.0) _ (some_names _ _ (some_of_ids _ x (sym (stands.links n).last ∙ e))));
    next = λ x e. sibling_in n (x.0) (next_has n (x.0) _ (some_of_ids _ x (sym (stands.links n).next ∙ e)));
    previous = λ x e. sibling_in n (x.0) (ahead_has n (x.0) _ (last_has (x.0) _ (some_names _ _ (some_of_ids _ x (sym (stands.links n).previous ∙ e)))));
  }
