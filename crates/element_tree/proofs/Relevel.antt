-- Depths once a node has another parent, or none.
use Rattle.std.proofs.Common.{◌≡◌, ℕ, ◌+◌, ◌-◌, ◌≤◌, List, Option, Some, None, true, false, cond, nat_eq, sym, ap, subst, ◌∙◌, arith, inl, inr, eqb-true}
use Rattle.std.proofs.lemmas.Bool.{cases_Bool}
use Rattle.std.proofs.lemmas.Bool.Decides.{nat_tests}
use Rattle.element_tree.specs.Forest.{Knot, IsForest, parent_of, depth, above, is_ancestor}
use Rattle.element_tree.proofs.Depths.{depth_one}
use Rattle.element_tree.proofs.Levels.{depth_is, is_ancestor_at, below}

module _ {P : Type 0} {most : ℕ} {nodes : List (Knot P)} (forest : IsForest most nodes) (n : ℕ) (o : Option ℕ)
    (apart : (p : ℕ) → o ≡ Some p → is_ancestor nodes n p ≡ false)
    (nodes' : List (Knot P)) (changed : (m : ℕ) → parent_of nodes' m ≡ cond (nat_eq m n) o (parent_of nodes m))
    (fits : (m : ℕ) → is_ancestor nodes n m ≡ true → (depth nodes m - depth nodes n) + (1 + above (depth nodes) o) ≤ most) where
  level : ℕ → ℕ
  level m = cond (is_ancestor nodes n m) ((depth nodes m - depth nodes n) + (1 + above (depth nodes) o)) (depth nodes m)

  self : is_ancestor nodes n n ≡ true
  self = is_ancestor_at forest n n ∙ (let e : nat_eq n n ≡ true = grind (arith, nat_tests) in rw e)

  level_under : (m : ℕ) → is_ancestor nodes n m ≡ true → level m ≡ (depth nodes m - depth nodes n) + (1 + above (depth nodes) o)
  unfolding level
  level_under m h = rw h

  level_apart : (m : ℕ) → is_ancestor nodes n m ≡ false → level m ≡ depth nodes m
  unfolding level
  level_apart m h = rw h

  level_top : level n ≡ 1 + above (depth nodes) o
  level_top = omega (arith, level_under n self)

  other : (m : ℕ) → nat_eq m n ≡ false → parent_of nodes' m ≡ parent_of nodes m
  other m ne = changed m ∙ rw ne

  top : (m : ℕ) → nat_eq m n ≡ true → parent_of nodes' m ≡ o
  top m e = changed m ∙ rw e

  turned : (m : ℕ) → nat_eq m n ≡ false → nat_eq n m ≡ false
  turned m ne = grind (arith, nat_tests)

  roots : (m : ℕ) → parent_of nodes' m ≡ None → level m ≡ 1
  roots m e =
      elim (cases_Bool (nat_eq m n)) [
        | inl y ↦ subst (λ k. level k ≡ 1) (sym (eqb-true m n y)) (level_top ∙ ap (λ q. 1 + above (depth nodes) q) (sym (top m y) ∙ e))
        | inr ne ↦
            let f : parent_of nodes m ≡ None = sym (other m ne) ∙ e in
            let g : is_ancestor nodes n m ≡ false = is_ancestor_at forest n m ∙ (let t = turned m ne in rw (t, f)) in
            level_apart m g ∙ depth_one nodes m f
      ]

  falls : (c p : ℕ) → parent_of nodes' c ≡ Some p → level c ≡ level p + 1
  falls c p e =
      elim (cases_Bool (nat_eq c n)) [
        | inl y ↦
            let f : o ≡ Some p = sym (top c y) ∙ e in
            let g : level p ≡ depth nodes p = level_apart p (apart p f) in
            subst (λ k. level k ≡ level p + 1) (sym (eqb-true c n y))
            (level_top ∙ ap (λ q. 1 + above (depth nodes) q) f ∙ omega arith)
        | inr ne ↦
            let f : parent_of nodes c ≡ Some p = sym (other c ne) ∙ e in
            let d : depth nodes c ≡ depth nodes p + 1 = forest.falls c p f in
            let g : is_ancestor nodes n c ≡ is_ancestor nodes n p = is_ancestor_at forest n c ∙ (let t = turned c ne in rw (t, f)) in
            elim (cases_Bool (is_ancestor nodes n p)) [
              | inl u ↦
                  let b = below forest n p u in
                  let x = level_under c (g ∙ u) in
                  let y = level_under p u in
                  omega (arith, b.0)
              | inr u ↦ let x = level_apart c (g ∙ u) in let y = level_apart p u in omega arith
            ]
      ]

  bounded : (m : ℕ) → level m ≤ most
  bounded m =
      elim (cases_Bool (is_ancestor nodes n m)) [
        | inl u ↦ omega (arith, level_under m u, fits m u)
        | inr u ↦ omega (arith, level_apart m u, forest.within m)
      ]

  new_depth : (m : ℕ) → depth nodes' m ≡ level m
  unfolding depth
  new_depth m = depth_is (parent_of nodes') level roots falls 65536 m (omega (arith, bounded m, forest.levels))

  pub falls_again : (c p : ℕ) → parent_of nodes' c ≡ Some p → depth nodes' c ≡ depth nodes' p + 1
  falls_again c p e = omega (arith, new_depth c, new_depth p, falls c p e)

  pub within_again : (m : ℕ) → depth nodes' m ≤ most
  within_again m = omega (arith, new_depth m, bounded m)
