-- The links stand for the forest once a node has left its parent.
use Rattle.std.proofs.Common.{◌≡◌, ℕ, ◌<◌, List, [], ◌∷◌, length, Option, Some, None, is_none, true, false, nat_eq, refl, sym, ap, subst, ◌∙◌, arith, inl, inr, eqb-true}
use Rattle.std.proofs.lemmas.Bool.{cases_Bool, false≢true, false_from_ne_true}
use Rattle.std.proofs.lemmas.Bool.Decides.{nat_tests}
use Rattle.element_tree.specs.declared.node.NodeId.{NodeId}
use Rattle.element_tree.specs.declared.node.Links.{Links}
use Rattle.element_tree.specs.Forest.{Knot, IsForest, has, names, parent_of, children_of, children_under, siblings_of, first_of, last_of, next_of, previous_of, ahead, behind}
use Rattle.element_tree.specs.Edits.{without, removed_from}
use Rattle.element_tree.specs.Links.{put, following, leading, unlinked, unlinked_from, node_ids, IsLinkedIn}
use Rattle.element_tree.proofs.Lists.{last_has, first_has, next_taken, previous_taken, first_taken, last_taken}
use Rattle.element_tree.proofs.Levels.{option_cases, names_some}
use Rattle.element_tree.proofs.Shape.{kid, kids_at, kids_other, parent_gone, parent_stays}
use Rattle.element_tree.proofs.Joins.{joined, joined_next, joined_first, joined_parent, joined_previous, joined_last, put_here, put_elsewhere, put_keeps, choose, choose_end, choose_other, choose_not}

pub ahead_has : (n m : ℕ) (xs : List ℕ) → has (ahead n xs) m ≡ true → has xs m ≡ true
ahead_has n m [] h = h
ahead_has n m (x ∷ xs) h = grind (arith, nat_tests, ahead_has n m xs)

behind_has : (n m : ℕ) (xs : List ℕ) → has (behind n xs) m ≡ true → has xs m ≡ true
behind_has n m [] h = h
behind_has n m (x ∷ xs) h = grind (arith, nat_tests, behind_has n m xs)

pub previous_strange : (n m : ℕ) (xs : List ℕ) → has xs m ≡ false → names (previous_of n xs) m ≡ false
previous_strange n m xs h = false_from_ne_true _ (λ e. false≢true (sym h ∙ ahead_has n m xs (last_has m (ahead n xs) e)))

pub next_strange : (n m : ℕ) (xs : List ℕ) → has xs m ≡ false → names (next_of n xs) m ≡ false
next_strange n m xs h = false_from_ne_true _ (λ e. false≢true (sym h ∙ behind_has n m xs (first_has m (behind n xs) e)))

pub siblings_among : {P : Type 0} (nodes : List (Knot P)) (p m : ℕ) → names (parent_of nodes m) p ≡ true → siblings_of nodes m ≡ children_of nodes p
siblings_among nodes p m h = ap (children_under nodes) (names_some _ p h)

module _ {P : Type 0} {most : ℕ} (nodes : List (Knot P)) (forest : IsForest most nodes) (n p : ℕ)
    (held : parent_of nodes n ≡ Some p) (n_in : n < length nodes) (p_in : p < length nodes)
    (t : ℕ → Links) (agrees : (m : ℕ) → IsLinkedIn nodes (t m) m) where
  both : ℕ → Links
  both = joined t p (previous_of n (children_of nodes p)) (next_of n (children_of nodes p)) (node_ids (next_of n (children_of nodes p))) (node_ids (previous_of n (children_of nodes p)))

  left : ℕ → Links
  left = put both n (record (both n) { parent = None; next = None; previous = None })

  unlinked_is : (m : ℕ) → unlinked t n m ≡ left m
  unfolding left both
  unlinked_is m =
      let e : siblings_of nodes n ≡ children_of nodes p = ap (children_under nodes) held in
      let a : (t n).previous ≡ node_ids (previous_of n (children_of nodes p)) = (agrees n).previous ∙ ap (λ ys. node_ids (previous_of n ys)) e in
      let b : (t n).next ≡ node_ids (next_of n (children_of nodes p)) = (agrees n).next ∙ ap (λ ys. node_ids (next_of n ys)) e in
      let gone : Option NodeId → Option NodeId → Links = λ u v.
      let j : ℕ → Links = leading (following t p u v) p v u in
      put j n (record (j n) { parent = None; next = None; previous = None }) m in
      ap (λ (o : Option NodeId). unlinked_from o n t m) ((agrees n).parent ∙ ap node_ids held)
      ∙ ap (λ (u : Option NodeId). gone u ((t n).next)) a
      ∙ ap (λ (v : Option NodeId). gone (node_ids (previous_of n (children_of nodes p))) v) b

  -- how siblings are told
  among : (m : ℕ) → names (parent_of nodes m) p ≡ true → nat_eq m n ≡ false → siblings_of (removed_from (Some p) n nodes) m ≡ without n (children_of nodes p)
  among m h ne =
      siblings_among (removed_from (Some p) n nodes) p m (ap (λ o. names o p) (parent_stays nodes forest n p held n_in p_in m ne) ∙ h)
      ∙ kids_at nodes forest n p held n_in p_in

  elsewhere : (m : ℕ) → names (parent_of nodes m) p ≡ false → nat_eq m n ≡ false → siblings_of (removed_from (Some p) n nodes) m ≡ siblings_of nodes m
  elsewhere m h ne =
      ap (children_under (removed_from (Some p) n nodes)) (parent_stays nodes forest n p held n_in p_in m ne)
      ∙ elim (option_cases (parent_of nodes m)) as (λ _. children_under (removed_from (Some p) n nodes) (parent_of nodes m) ≡ children_under nodes (parent_of nodes m)) [
        | inl e ↦ rw e
        | inr q ↦ rw q.1 (kids_other nodes forest n p held n_in p_in q.0 (differs q.0 (sym (ap (λ o. names o p) q.1) ∙ h)))
      ]
    where
      differs : (q : ℕ) → nat_eq p q ≡ false → nat_eq q p ≡ false
      differs q e = grind (arith, nat_tests)

  orphan : siblings_of (removed_from (Some p) n nodes) n ≡ []
  orphan = ap (children_under (removed_from (Some p) n nodes)) (parent_gone nodes forest n p held n_in p_in n (let e : nat_eq n n ≡ true = grind (arith, nat_tests) in e))

  unlisted : (m : ℕ) → names (parent_of nodes m) p ≡ false → has (children_of nodes p) m ≡ false
  unlisted m h = forest.listed p m ∙ h

  listed : (m : ℕ) → names (parent_of nodes m) p ≡ true → has (children_of nodes p) m ≡ true
  listed m h = forest.listed p m ∙ h

  field_parent : (m : ℕ) → (left m).parent ≡ node_ids (parent_of (removed_from (Some p) n nodes) m)
  unfolding left both
  field_parent m =
      elim (cases_Bool (nat_eq m n)) [
        | inl y ↦ put_here (λ l. l.parent) both n _ m y ∙ sym (ap node_ids (parent_gone nodes forest n p held n_in p_in m y))
        | inr y ↦
            put_elsewhere (λ l. l.parent) both n _ m y ∙ joined_parent t p _ _ _ _ m ∙ (agrees m).parent
            ∙ sym (ap node_ids (parent_stays nodes forest n p held n_in p_in m y))
      ]

  field_first : (m : ℕ) → (left m).first ≡ node_ids (first_of (children_of (removed_from (Some p) n nodes) m))
  unfolding left both
  field_first m =
      put_keeps (λ l. l.first) both n _ m refl ∙ joined_first t p _ _ _ _ m
      ∙ elim (cases_Bool (nat_eq m p)) [
        | inl e ↦ choose_end (is_none (previous_of n (children_of nodes p))) _ _ _ e
            ((agrees m).first ∙ ap (λ k. node_ids (first_of (children_of nodes k))) (eqb-true m p e))
            (ap (λ k. first_of (children_of (removed_from (Some p) n nodes) k)) (eqb-true m p e) ∙ ap first_of (kids_at nodes forest n p held n_in p_in)
            ∙ first_taken n (children_of nodes p) (forest.once p) (kid nodes forest n p held n_in p_in))
        | inr e ↦ choose_other (is_none (previous_of n (children_of nodes p))) _ _ _ e ∙ (agrees m).first
            ∙ sym (ap (λ ys. node_ids (first_of ys)) (kids_other nodes forest n p held n_in p_in m e))
      ]

  field_last : (m : ℕ) → (left m).last ≡ node_ids (last_of (children_of (removed_from (Some p) n nodes) m))
  unfolding left both
  field_last m =
      put_keeps (λ l. l.last) both n _ m refl ∙ joined_last t p _ _ _ _ m
      ∙ elim (cases_Bool (nat_eq m p)) [
        | inl e ↦ choose_end (is_none (next_of n (children_of nodes p))) _ _ _ e
            ((agrees m).last ∙ ap (λ k. node_ids (last_of (children_of nodes k))) (eqb-true m p e))
            (ap (λ k. last_of (children_of (removed_from (Some p) n nodes) k)) (eqb-true m p e) ∙ ap last_of (kids_at nodes forest n p held n_in p_in)
            ∙ last_taken n (children_of nodes p) (forest.once p) (kid nodes forest n p held n_in p_in))
        | inr e ↦ choose_other (is_none (next_of n (children_of nodes p))) _ _ _ e ∙ (agrees m).last
            ∙ sym (ap (λ ys. node_ids (last_of ys)) (kids_other nodes forest n p held n_in p_in m e))
      ]

  field_next : (m : ℕ) → (left m).next ≡ node_ids (next_of m (siblings_of (removed_from (Some p) n nodes) m))
  unfolding left both
  field_next m =
      elim (cases_Bool (nat_eq m n)) [
        | inl y ↦
            put_here (λ l. l.next) both n _ m y
            ∙ sym (ap (λ k. node_ids (next_of k (siblings_of (removed_from (Some p) n nodes) k))) (eqb-true m n y) ∙ ap (λ ys. node_ids (next_of n ys)) orphan)
        | inr y ↦
            put_elsewhere (λ l. l.next) both n _ m y ∙ joined_next t p _ _ _ _ m
            ∙ elim (cases_Bool (names (parent_of nodes m) p)) [
              | inl h ↦ choose (names (previous_of n (children_of nodes p)) m) _ _
                  ((agrees m).next ∙ ap (λ ys. node_ids (next_of m ys)) (siblings_among nodes p m h))
                  (ap (next_of m) (among m h y) ∙ next_taken n (children_of nodes p) (forest.once p) (kid nodes forest n p held n_in p_in) m y)
              | inr h ↦ choose_not _ _ _ (previous_strange n m (children_of nodes p) (unlisted m h)) ∙ (agrees m).next
                  ∙ sym (ap (λ ys. node_ids (next_of m ys)) (elsewhere m h y))
            ]
      ]

  field_previous : (m : ℕ) → (left m).previous ≡ node_ids (previous_of m (siblings_of (removed_from (Some p) n nodes) m))
  unfolding left both
  field_previous m =
      elim (cases_Bool (nat_eq m n)) [
        | inl y ↦
            put_here (λ l. l.previous) both n _ m y
            ∙ sym (ap (λ k. node_ids (previous_of k (siblings_of (removed_from (Some p) n nodes) k))) (eqb-true m n y) ∙ ap (λ ys. node_ids (previous_of n ys)) orphan)
        | inr y ↦
            put_elsewhere (λ l. l.previous) both n _ m y ∙ joined_previous t p _ _ _ _ m
            ∙ elim (cases_Bool (names (parent_of nodes m) p)) [
              | inl h ↦ choose (names (next_of n (children_of nodes p)) m) _ _
                  ((agrees m).previous ∙ ap (λ ys. node_ids (previous_of m ys)) (siblings_among nodes p m h))
                  (ap (previous_of m) (among m h y) ∙ previous_taken n (children_of nodes p) (forest.once p) (kid nodes forest n p held n_in p_in) m y (listed m h))
              | inr h ↦ choose_not _ _ _ (next_strange n m (children_of nodes p) (unlisted m h)) ∙ (agrees m).previous
                  ∙ sym (ap (λ ys. node_ids (previous_of m ys)) (elsewhere m h y))
            ]
      ]

  pub IsLinkedIn-removed : (m : ℕ) → IsLinkedIn (removed_from (Some p) n nodes) (unlinked t n m) m
  IsLinkedIn-removed m =
      subst (λ (l : Links). IsLinkedIn (removed_from (Some p) n nodes) l m) (sym (unlinked_is m))
      (record {
        parent = field_parent m;
        first = field_first m;
        last = field_last m;
        next = field_next m;
        previous = field_previous m;
      })
