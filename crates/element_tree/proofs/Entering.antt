-- The links stand for the forest once a node that had no parent was put among the children of one.
use Rattle.std.proofs.Common.{◌≡◌, ℕ, ◌+◌, ◌≤◌, ◌<◌, List, length, Option, Some, None, is_none, true, false, cond, nat_eq, refl, sym, ap, subst, ◌∙◌, arith, inl, inr, eqb-true}
use Rattle.std.proofs.lemmas.Bool.{cases_Bool, false≢true, false_from_ne_true}
use Rattle.std.proofs.lemmas.Bool.Decides.{nat_tests}
use Rattle.element_tree.specs.declared.node.NodeId.{NodeId}
use Rattle.element_tree.specs.declared.node.Links.{Links}
use Rattle.element_tree.specs.Forest.{Knot, IsForest, has, names, parent_of, children_of, children_under, siblings_of, first_of, last_of, next_of, previous_of, depth, height, is_ancestor}
use Rattle.element_tree.specs.Edits.{put_before, attached}
use Rattle.element_tree.specs.Links.{put, following, leading, linked, previous_at, node_id, node_ids, IsLinkedIn}
use Rattle.element_tree.proofs.Lists.{before, last_has, first_marked, next_put, next_put_here, previous_put, previous_put_here, first_put, last_put_at}
use Rattle.element_tree.proofs.Levels.{option_cases, names_some}
use Rattle.element_tree.proofs.Shape.{stranger, kids_put, kids_kept, parent_put, parent_kept}
use Rattle.element_tree.proofs.Leaving.{previous_strange, siblings_among}
use Rattle.element_tree.proofs.Joins.{joined, joined_next, joined_first, joined_parent, joined_previous, joined_last, put_here, put_elsewhere, put_keeps, choose, choose_end, choose_other, choose_not}

last_strange : (m : ℕ) (xs : List ℕ) → has xs m ≡ false → names (last_of xs) m ≡ false
last_strange m xs h = false_from_ne_true _ (λ e. false≢true (sym h ∙ last_has m xs e))

before_strange : (mark : Option ℕ) (m : ℕ) (xs : List ℕ) → has xs m ≡ false → names (last_of (before mark xs)) m ≡ false
before_strange None m xs h = last_strange m xs h
before_strange (Some s) m xs h = previous_strange s m xs h

mark_strange : (mark : Option ℕ) (m : ℕ) (xs : List ℕ) → ((s : ℕ) → mark ≡ Some s → has xs s ≡ true) → has xs m ≡ false → names mark m ≡ false
mark_strange mark m xs marks h = false_from_ne_true _ (λ e. false≢true (sym h ∙ marks m (names_some mark m e)))

module _ {P : Type 0} {most : ℕ} (first nodes : List (Knot P)) (earlier : IsForest most first) (forest : IsForest most nodes)
    (p n : ℕ) (mark : Option ℕ) (n_in : n < length nodes) (p_in : p < length nodes)
    (alone : parent_of nodes n ≡ None)
    (same : (m : ℕ) → nat_eq m n ≡ false → parent_of nodes m ≡ parent_of first m)
    (apart : is_ancestor first n p ≡ false)
    (fits : depth first p + height first n ≤ most)
    (marks : (s : ℕ) → mark ≡ Some s → has (children_of nodes p) s ≡ true)
    (t : ℕ → Links) (agrees : (m : ℕ) → IsLinkedIn nodes (t m) m) where
  both : ℕ → Links
  both = joined t p (last_of (before mark (children_of nodes p))) mark (Some (node_id n)) (Some (node_id n))

  entered : ℕ → Links
  entered = put both n (record (both n) { parent = Some (node_id p); next = node_ids mark; previous = node_ids (last_of (before mark (children_of nodes p))) })

  mark_parent : (s : ℕ) → mark ≡ Some s → parent_of nodes s ≡ Some p
  mark_parent s e = names_some _ p (sym (forest.listed p s) ∙ marks s e)

  previous_is : previous_at t p (node_ids mark) ≡ node_ids (last_of (before mark (children_of nodes p)))
  previous_is = go mark refl
    where
      go : (o : Option ℕ) → mark ≡ o → previous_at t p (node_ids o) ≡ node_ids (last_of (before o (children_of nodes p)))
      go None e = (agrees p).last
      go (Some s) e = (agrees s).previous ∙ ap (λ ys. node_ids (previous_of s ys)) (ap (children_under nodes) (mark_parent s e))

  linked_is : (m : ℕ) → linked t p n (node_ids mark) m ≡ entered m
  unfolding entered both
  linked_is m =
      let come : Option NodeId → Links = λ u.
      let j : ℕ → Links = leading (following t p u (Some (node_id n))) p (node_ids mark) (Some (node_id n)) in
      put j n (record (j n) { parent = Some (node_id p); next = node_ids mark; previous = u }) m in
      ap come previous_is

  -- how siblings are told
  among : (m : ℕ) → names (parent_of nodes m) p ≡ true → nat_eq m n ≡ false → siblings_of (attached p n mark nodes) m ≡ put_before mark n (children_of nodes p)
  among m h ne =
      siblings_among (attached p n mark nodes) p m (ap (λ o. names o p) (parent_kept first nodes earlier forest p n mark n_in p_in alone same apart fits m ne) ∙ h)
      ∙ kids_put first nodes earlier forest p n mark n_in p_in alone same apart fits

  elsewhere : (m : ℕ) → names (parent_of nodes m) p ≡ false → nat_eq m n ≡ false → siblings_of (attached p n mark nodes) m ≡ siblings_of nodes m
  elsewhere m h ne =
      ap (children_under (attached p n mark nodes)) (parent_kept first nodes earlier forest p n mark n_in p_in alone same apart fits m ne)
      ∙ elim (option_cases (parent_of nodes m)) as (λ _. children_under (attached p n mark nodes) (parent_of nodes m) ≡ children_under nodes (parent_of nodes m)) [
        | inl e ↦ rw e
        | inr q ↦ rw q.1 (kids_kept first nodes earlier forest p n mark n_in p_in alone same apart fits q.0 (differs q.0 (sym (ap (λ o. names o p) q.1) ∙ h)))
      ]
    where
      differs : (q : ℕ) → nat_eq p q ≡ false → nat_eq q p ≡ false
      differs q e = grind (arith, nat_tests)

  own : (m : ℕ) → nat_eq m n ≡ true → siblings_of (attached p n mark nodes) m ≡ put_before mark n (children_of nodes p)
  own m y =
      ap (children_under (attached p n mark nodes)) (parent_put first nodes earlier forest p n mark n_in p_in alone same apart fits m y)
      ∙ kids_put first nodes earlier forest p n mark n_in p_in alone same apart fits

  unlisted : (m : ℕ) → names (parent_of nodes m) p ≡ false → has (children_of nodes p) m ≡ false
  unlisted m h = forest.listed p m ∙ h

  listed : (m : ℕ) → names (parent_of nodes m) p ≡ true → has (children_of nodes p) m ≡ true
  listed m h = forest.listed p m ∙ h

  strange : has (children_of nodes p) n ≡ false
  strange = stranger first nodes earlier forest p n mark n_in p_in alone same apart fits

  field_parent : (m : ℕ) → (entered m).parent ≡ node_ids (parent_of (attached p n mark nodes) m)
  unfolding entered both
  field_parent m =
      elim (cases_Bool (nat_eq m n)) [
        | inl y ↦ put_here (λ l. l.parent) both n _ m y ∙ sym (ap node_ids (parent_put first nodes earlier forest p n mark n_in p_in alone same apart fits m y))
        | inr y ↦
            put_elsewhere (λ l. l.parent) both n _ m y ∙ joined_parent t p _ _ _ _ m ∙ (agrees m).parent
            ∙ sym (ap node_ids (parent_kept first nodes earlier forest p n mark n_in p_in alone same apart fits m y))
      ]

  field_first : (m : ℕ) → (entered m).first ≡ node_ids (first_of (children_of (attached p n mark nodes) m))
  unfolding entered both
  field_first m =
      put_keeps (λ l. l.first) both n _ m refl ∙ joined_first t p _ _ _ _ m
      ∙ elim (cases_Bool (nat_eq m p)) [
        | inl e ↦ choose_end (is_none (last_of (before mark (children_of nodes p)))) _ (Some n) _ e
            ((agrees m).first ∙ ap (λ k. node_ids (first_of (children_of nodes k))) (eqb-true m p e))
            (ap (λ k. first_of (children_of (attached p n mark nodes) k)) (eqb-true m p e) ∙ ap first_of (kids_put first nodes earlier forest p n mark n_in p_in alone same apart fits)
            ∙ first_put n mark (children_of nodes p) (forest.once p) strange)
        | inr e ↦ choose_other (is_none (last_of (before mark (children_of nodes p)))) _ _ _ e ∙ (agrees m).first
            ∙ sym (ap (λ ys. node_ids (first_of ys)) (kids_kept first nodes earlier forest p n mark n_in p_in alone same apart fits m e))
      ]

  field_last : (m : ℕ) → (entered m).last ≡ node_ids (last_of (children_of (attached p n mark nodes) m))
  unfolding entered both
  field_last m =
      put_keeps (λ l. l.last) both n _ m refl ∙ joined_last t p _ _ _ _ m
      ∙ elim (cases_Bool (nat_eq m p)) [
        | inl e ↦ choose_end (is_none mark) _ (Some n) _ e
            ((agrees m).last ∙ ap (λ k. node_ids (last_of (children_of nodes k))) (eqb-true m p e))
            (ap (λ k. last_of (children_of (attached p n mark nodes) k)) (eqb-true m p e) ∙ ap last_of (kids_put first nodes earlier forest p n mark n_in p_in alone same apart fits)
            ∙ last_put_at n mark (children_of nodes p) (forest.once p) strange
            ∙ ap (λ o. cond (is_none o) (Some n) (last_of (children_of nodes p))) (first_marked mark (children_of nodes p) marks))
        | inr e ↦ choose_other (is_none mark) _ _ _ e ∙ (agrees m).last
            ∙ sym (ap (λ ys. node_ids (last_of ys)) (kids_kept first nodes earlier forest p n mark n_in p_in alone same apart fits m e))
      ]

  field_next : (m : ℕ) → (entered m).next ≡ node_ids (next_of m (siblings_of (attached p n mark nodes) m))
  unfolding entered both
  field_next m =
      elim (cases_Bool (nat_eq m n)) [
        | inl y ↦
            put_here (λ l. l.next) both n _ m y
            ∙ sym (ap (λ ys. node_ids (next_of m ys)) (own m y) ∙ ap (λ k. node_ids (next_of k (put_before mark n (children_of nodes p)))) (eqb-true m n y)
            ∙ ap node_ids (next_put_here n mark (children_of nodes p) (forest.once p) strange ∙ first_marked mark (children_of nodes p) marks))
        | inr y ↦
            put_elsewhere (λ l. l.next) both n _ m y ∙ joined_next t p _ _ _ _ m
            ∙ elim (cases_Bool (names (parent_of nodes m) p)) [
              | inl h ↦ choose (names (last_of (before mark (children_of nodes p))) m) (Some n) _
                  ((agrees m).next ∙ ap (λ ys. node_ids (next_of m ys)) (siblings_among nodes p m h))
                  (ap (next_of m) (among m h y) ∙ next_put n mark (children_of nodes p) (forest.once p) strange m y)
              | inr h ↦ choose_not _ _ _ (before_strange mark m (children_of nodes p) (unlisted m h)) ∙ (agrees m).next
                  ∙ sym (ap (λ ys. node_ids (next_of m ys)) (elsewhere m h y))
            ]
      ]

  field_previous : (m : ℕ) → (entered m).previous ≡ node_ids (previous_of m (siblings_of (attached p n mark nodes) m))
  unfolding entered both
  field_previous m =
      elim (cases_Bool (nat_eq m n)) [
        | inl y ↦
            put_here (λ l. l.previous) both n _ m y
            ∙ sym (ap (λ ys. node_ids (previous_of m ys)) (own m y) ∙ ap (λ k. node_ids (previous_of k (put_before mark n (children_of nodes p)))) (eqb-true m n y)
            ∙ ap node_ids (previous_put_here n mark (children_of nodes p) (forest.once p) strange))
        | inr y ↦
            put_elsewhere (λ l. l.previous) both n _ m y ∙ joined_previous t p _ _ _ _ m
            ∙ elim (cases_Bool (names (parent_of nodes m) p)) [
              | inl h ↦ choose (names mark m) (Some n) _
                  ((agrees m).previous ∙ ap (λ ys. node_ids (previous_of m ys)) (siblings_among nodes p m h))
                  (ap (previous_of m) (among m h y) ∙ previous_put n mark (children_of nodes p) (forest.once p) strange m y (listed m h)
                  ∙ ap (λ o. cond (names o m) (Some n) (previous_of m (children_of nodes p))) (first_marked mark (children_of nodes p) marks))
              | inr h ↦ choose_not _ _ _ (mark_strange mark m (children_of nodes p) marks (unlisted m h)) ∙ (agrees m).previous
                  ∙ sym (ap (λ ys. node_ids (previous_of m ys)) (elsewhere m h y))
            ]
      ]

  pub IsLinkedIn-attached : (m : ℕ) → IsLinkedIn (attached p n mark nodes) (linked t p n (node_ids mark) m) m
  IsLinkedIn-attached m =
      subst (λ (l : Links). IsLinkedIn (attached p n mark nodes) l m) (sym (linked_is m))
      (record {
        parent = field_parent m;
        first = field_first m;
        last = field_last m;
        next = field_next m;
        previous = field_previous m;
      })
