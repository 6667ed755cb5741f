-- A forest once a node was removed, and once it was inserted.
use Rattle.std.proofs.Common.{◌≡◌, ℕ, ◌+◌, ◌-◌, ◌<◌, ◌≤◌, List, length, Option, Some, None, true, false, cond, nat_eq, sym, ap, subst, ◌∙◌, arith, inl, inr, eqb-true}
use Rattle.std.proofs.lemmas.Bool.{cases_Bool}
use Rattle.std.proofs.lemmas.Bool.Decides.{nat_tests}
use Rattle.element_tree.specs.Forest.{Knot, IsForest, IsOnce, has, names, parent_of, children_of, depth, height, is_ancestor}
use Rattle.element_tree.specs.Edits.{without, put_before, removed_from, attached}
use Rattle.element_tree.proofs.Lists.{once_taken, has_taken, once_put, has_put}
use Rattle.element_tree.proofs.Nodes.{parent-removed, children-removed, parent-attached, children-attached}
use Rattle.element_tree.proofs.Levels.{below, some_names, height_law}
use Rattle.element_tree.proofs.Depths.{depth_positive}
use Rattle.element_tree.proofs.Relevel.{falls_again, within_again}

module _ {P : Type 0} {most : ℕ} (nodes : List (Knot P)) (forest : IsForest most nodes) (n p : ℕ)
    (held : parent_of nodes n ≡ Some p) (n_in : n < length nodes) (p_in : p < length nodes) where
  pub kid : has (children_of nodes p) n ≡ true
  kid = forest.listed p n ∙ some_names _ p held

  pub kids_at : children_of (removed_from (Some p) n nodes) p ≡ without n (children_of nodes p)
  kids_at = children-removed nodes n p n_in p_in p ∙ (let e : nat_eq p p ≡ true = grind (arith, nat_tests) in rw e)

  pub kids_other : (m : ℕ) → nat_eq m p ≡ false → children_of (removed_from (Some p) n nodes) m ≡ children_of nodes m
  kids_other m ne = children-removed nodes n p n_in p_in m ∙ rw ne

  pub parent_gone : (c : ℕ) → nat_eq c n ≡ true → parent_of (removed_from (Some p) n nodes) c ≡ None
  parent_gone c e = parent-removed nodes n p n_in p_in c ∙ rw e

  pub parent_stays : (c : ℕ) → nat_eq c n ≡ false → parent_of (removed_from (Some p) n nodes) c ≡ parent_of nodes c
  parent_stays c e = parent-removed nodes n p n_in p_in c ∙ rw e

  listed : (q c : ℕ) → has (children_of (removed_from (Some p) n nodes) q) c ≡ names (parent_of (removed_from (Some p) n nodes) c) q
  listed q c =
      elim (cases_Bool (nat_eq q p)) [
        | inl e ↦ subst (λ r. has (children_of (removed_from (Some p) n nodes) r) c ≡ names (parent_of (removed_from (Some p) n nodes) c) r) (sym (eqb-true q p e))
            (ap (λ xs. has xs c) kids_at ∙ has_taken n (children_of nodes p) (forest.once p) kid c
            ∙ elim (cases_Bool (nat_eq c n)) [
              | inl y ↦ rw y (sym (ap (λ o. names o p) (parent_gone c y)))
              | inr y ↦ rw y (forest.listed p c ∙ sym (ap (λ o. names o p) (parent_stays c y)))
            ])
        | inr e ↦
            ap (λ xs. has xs c) (kids_other q e) ∙ forest.listed q c
            ∙ elim (cases_Bool (nat_eq c n)) [
              | inl y ↦
                  ap (λ k. names (parent_of nodes k) q) (eqb-true c n y) ∙ ap (λ o. names o q) held ∙ e
                  ∙ sym (ap (λ o. names o q) (parent_gone c y))
              | inr y ↦ sym (ap (λ o. names o q) (parent_stays c y))
            ]
      ]

  once : (q : ℕ) → IsOnce (children_of (removed_from (Some p) n nodes) q)
  once q =
      elim (cases_Bool (nat_eq q p)) [
        | inl e ↦ subst (λ r. IsOnce (children_of (removed_from (Some p) n nodes) r)) (sym (eqb-true q p e))
            (subst IsOnce (sym kids_at) (once_taken n (children_of nodes p) (forest.once p) kid))
        | inr e ↦ subst IsOnce (sym (kids_other q e)) (forest.once q)
      ]

  fits : (m : ℕ) → is_ancestor nodes n m ≡ true → (depth nodes m - depth nodes n) + 1 ≤ most
  fits m u = omega (arith, depth_positive nodes n, (below forest n m u).0, forest.within m)

  no_parent : (q : ℕ) → None ≡ Some q → is_ancestor nodes n q ≡ false
  no_parent q e = cc

  pub IsForest-removed : IsForest most (removed_from (Some p) n nodes)
  IsForest-removed = record {
    listed = listed;
    once = once;
    falls = falls_again forest n None no_parent _ (parent-removed nodes n p n_in p_in) fits;
    within = within_again forest n None no_parent _ (parent-removed nodes n p n_in p_in) fits;
    levels = forest.levels;
  }

module _ {P : Type 0} {most : ℕ} (first nodes : List (Knot P)) (earlier : IsForest most first) (forest : IsForest most nodes)
    (p n : ℕ) (mark : Option ℕ) (n_in : n < length nodes) (p_in : p < length nodes)
    (alone : parent_of nodes n ≡ None)
    (same : (m : ℕ) → nat_eq m n ≡ false → parent_of nodes m ≡ parent_of first m)
    (apart : is_ancestor first n p ≡ false)
    (fits : depth first p + height first n ≤ most) where
  pub stranger : has (children_of nodes p) n ≡ false
  stranger = forest.listed p n ∙ ap (λ o. names o p) alone

  pub kids_put : children_of (attached p n mark nodes) p ≡ put_before mark n (children_of nodes p)
  kids_put = children-attached nodes p n mark n_in p_in p ∙ (let e : nat_eq p p ≡ true = grind (arith, nat_tests) in rw e)

  pub kids_kept : (m : ℕ) → nat_eq m p ≡ false → children_of (attached p n mark nodes) m ≡ children_of nodes m
  kids_kept m ne = children-attached nodes p n mark n_in p_in m ∙ rw ne

  itself : nat_eq p p ≡ true
  itself = grind (arith, nat_tests)

  pub parent_put : (c : ℕ) → nat_eq c n ≡ true → parent_of (attached p n mark nodes) c ≡ Some p
  parent_put c e = parent-attached nodes p n mark n_in p_in c ∙ rw e

  pub parent_kept : (c : ℕ) → nat_eq c n ≡ false → parent_of (attached p n mark nodes) c ≡ parent_of nodes c
  parent_kept c e = parent-attached nodes p n mark n_in p_in c ∙ rw e

  listed_put : (q c : ℕ) → has (children_of (attached p n mark nodes) q) c ≡ names (parent_of (attached p n mark nodes) c) q
  listed_put q c =
      elim (cases_Bool (nat_eq q p)) [
        | inl e ↦ subst (λ r. has (children_of (attached p n mark nodes) r) c ≡ names (parent_of (attached p n mark nodes) c) r) (sym (eqb-true q p e))
            (ap (λ xs. has xs c) kids_put ∙ has_put n mark (children_of nodes p) (forest.once p) stranger c
            ∙ elim (cases_Bool (nat_eq c n)) [
              | inl y ↦ rw y (sym (ap (λ o. names o p) (parent_put c y) ∙ itself))
              | inr y ↦ rw y (forest.listed p c ∙ sym (ap (λ o. names o p) (parent_kept c y)))
            ])
        | inr e ↦
            ap (λ xs. has xs c) (kids_kept q e) ∙ forest.listed q c
            ∙ elim (cases_Bool (nat_eq c n)) [
              | inl y ↦
                  ap (λ k. names (parent_of nodes k) q) (eqb-true c n y) ∙ ap (λ o. names o q) alone
                  ∙ sym (ap (λ o. names o q) (parent_put c y) ∙ e)
              | inr y ↦ sym (ap (λ o. names o q) (parent_kept c y))
            ]
      ]

  once_kept : (q : ℕ) → IsOnce (children_of (attached p n mark nodes) q)
  once_kept q =
      elim (cases_Bool (nat_eq q p)) [
        | inl e ↦ subst (λ r. IsOnce (children_of (attached p n mark nodes) r)) (sym (eqb-true q p e))
            (subst IsOnce (sym kids_put) (once_put n mark (children_of nodes p) (forest.once p) stranger))
        | inr e ↦ subst IsOnce (sym (kids_kept q e)) (forest.once q)
      ]

  parents : (m : ℕ) → parent_of (attached p n mark nodes) m ≡ cond (nat_eq m n) (Some p) (parent_of first m)
  parents m =
      elim (cases_Bool (nat_eq m n)) [
        | inl y ↦ rw y (parent_put m y)
        | inr y ↦ rw y (parent_kept m y ∙ same m y)
      ]

  parted : (q : ℕ) → Some p ≡ Some q → is_ancestor first n q ≡ false
  parted q e = let f : p ≡ q = cc in subst (λ r. is_ancestor first n r ≡ false) f apart

  room : (m : ℕ) → is_ancestor first n m ≡ true → (depth first m - depth first n) + (1 + depth first p) ≤ most
  room m u = omega (arith, (below earlier n m u).1, (below earlier n m u).0, height_law earlier m)

  pub IsForest-attached : IsForest most (attached p n mark nodes)
  IsForest-attached = record {
    listed = listed_put;
    once = once_kept;
    falls = falls_again earlier n (Some p) parted _ parents room;
    within = within_again earlier n (Some p) parted _ parents room;
    levels = forest.levels;
  }
