-- How far stacked children reach: at least as far as each of them, and no farther than what bounds them all.
use Rattle.std.proofs.Common.{◌≡◌, ◌≢◌, ◌<◌, ◌+◌, ℕ, zero, suc, List, [], ◌∷◌, length, get_or, refl, ap, sym, subst, ◌∙◌, eqb-true, eq-eqb, ne_eqb, arith}
use Rattle.std.proofs.lemmas.Bool.{eqb-false, false≢true}
use Rattle.std.proofs.lemmas.List.Sums.{sum_by-cons}
use Rattle.std.specs.Prelude.{Bool, true, false, cond, ◌==◌, sum_by, Contains}
use Rattle.element_tree.specs.Forest.{IsOnce}
use Rattle.layout_model.specs.Points.{larger, IsWithin}
use Rattle.layout_model.specs.FlatPlaces.{before}
use Rattle.layout_model.proofs.Trees.{contains_next}
use Rattle.block_layout.specs.Far.{far_kids}
use Rattle.block_layout.proofs.Forests.{contains_has}

among_rest : (x : ℕ) (xs : List ℕ) (c k : ℕ) → k < suc (length xs) → get_or (x ∷ xs) k c ≡ c → x ≢ c → Contains xs c
among_rest x xs c zero short is other = absurd (other is)
among_rest x xs c (suc k) short is other = (k, omega arith, is)

module _ (height : ℕ → ℕ) where
  sum_first : (x : ℕ) (xs : List ℕ) → sum_by height (before x (x ∷ xs)) ≡ 0
  unfolding before
  sum_first x xs = ap (λ same. sum_by height (cond same [] (x ∷ before x xs))) (eq-eqb x x refl)

  sum_later : (x : ℕ) (xs : List ℕ) (c : ℕ) → x ≢ c → sum_by height (before c (x ∷ xs)) ≡ height x + sum_by height (before c xs)
  unfolding before
  sum_later x xs c other = ap (λ same. sum_by height (cond same [] (x ∷ before c xs))) (ne_eqb x c other) ∙ sum_by-cons height x (before c xs)

  module _ (far : ℕ → ℕ → ℕ × ℕ) where
    -- each child, under the heights of those before it
    pub kid_reached : (c : ℕ) (xs : List ℕ) (above h : ℕ) → Contains xs c → h ≡ above + sum_by height (before c xs) → IsWithin (far h c) (far_kids height far above xs)
    unfolding far_kids
    kid_reached c [] above h kid at = absurd (omega (arith, kid.1))
    kid_reached c (x ∷ xs) above h kid at = by_same (kid_reached c xs (above + height x) h) (x == c) refl
      where
        by_same : (Contains xs c → h ≡ above + height x + sum_by height (before c xs) → IsWithin (far h c) (far_kids height far (above + height x) xs)) → (same : Bool) → (x == c) ≡ same → IsWithin (far h c) (larger (far above x) (far_kids height far (above + height x) xs))
        by_same later true is =
            let e : x ≡ c = eqb-true x c is in
            let none : sum_by height (before c (x ∷ xs)) ≡ 0 = ap (λ d. sum_by height (before d (x ∷ xs))) (sym e) ∙ sum_first x xs in
            let same : far h c ≡ far above x = ap (λ a. far a c) (omega (arith, at, none)) ∙ ap (far above) (sym e) in
            subst (λ p. IsWithin p (larger (far above x) (far_kids height far (above + height x) xs))) (sym same) (omega arith, omega arith)
        by_same later false is =
            let other : x ≢ c = eqb-false x c is in
            let sum = sum_later x xs c other in
            let rest = later (among_rest x xs c (kid.0) (kid.1) (kid.2) other) (omega (arith, at, sum)) in
            (omega (arith, rest.0), omega (arith, rest.1))

    -- where no child stands twice
    pub kids_bounded : (most : ℕ × ℕ) (xs : List ℕ) (above : ℕ) → IsOnce xs → ((c : ℕ) → Contains xs c → IsWithin (far (above + sum_by height (before c xs)) c) most) → IsWithin (far_kids height far above xs) most
    unfolding far_kids
    kids_bounded most [] above once each = (omega arith, omega arith)
    kids_bounded most (x ∷ xs) above once each =
        let none = sum_first x xs in
        let top : above + sum_by height (before x (x ∷ xs)) ≡ above = omega (arith, none) in
        let first = subst (λ h. IsWithin (far h x) most) top (each x (0, omega arith, refl)) in
        let rest = kids_bounded most xs (above + height x) once.1 later in
        (omega (arith, first.0, rest.0), omega (arith, first.1, rest.1))
      where
        later : (c : ℕ) → Contains xs c → IsWithin (far (above + height x + sum_by height (before c xs)) c) most
        later c among =
            let other : x ≢ c = λ same. false≢true (sym once.0 ∙ contains_has xs x (subst (λ d. Contains xs d) (sym same) among)) in
            let sum = sum_later x xs c other in
            let same : above + sum_by height (before c (x ∷ xs)) ≡ above + height x + sum_by height (before c xs) = omega (arith, sum) in
            subst (λ h. IsWithin (far h c) most) same (each c (contains_next x xs c among))
