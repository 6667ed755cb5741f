-- What stands in a list of children ahead of the child that a walk comes to.
use Rattle.std.proofs.Common.{◌≡◌, ◌≢◌, ℕ, List, [], ◌∷◌, ◌++◌, Option, Some, None, option_map, Bool, true, false, nat_eq, cond, ◌||◌, refl, ap, sym, ◌∙◌, ◌⊎◌, inl, inr, arith, eqb-true}
use Rattle.std.proofs.lemmas.Bool.{or_cases, false≢true}
use Rattle.std.proofs.lemmas.Bool.Decides.{nat_tests}
use Rattle.layout_model.specs.FlatPlaces.{before}
use Rattle.element_tree.specs.declared.node.NodeId.{NodeId}
use Rattle.element_tree.specs.Forest.{IsOnce, has, first_of, next_of, behind}
use Rattle.element_tree.specs.Links.{node_ids, number}
use Rattle.element_tree.proofs.Lists.{next_has}
use Rattle.element_tree.proofs.Walks.{back_numbers}

-- the children ahead of one, all of them at the end
abbrev pub ahead_of : Option ℕ → List ℕ → List ℕ
ahead_of None kids = kids
ahead_of (Some c) kids = before c kids

abbrev pub passed : Option NodeId → List ℕ → List ℕ
passed next kids = ahead_of (option_map number next) kids

before_at : (n c : ℕ) (cs : List ℕ) → before n (c ∷ cs) ≡ cond (nat_eq c n) [] (c ∷ before n cs)
unfolding before
before_at n c cs = refl

before_none : (n : ℕ) → before n [] ≡ []
unfolding before
before_none n = refl

before_here : (n c : ℕ) (cs : List ℕ) → nat_eq c n ≡ true → before n (c ∷ cs) ≡ []
before_here n c cs is = before_at n c cs ∙ rw is

before_on : (n c : ℕ) (cs : List ℕ) → nat_eq c n ≡ false → before n (c ∷ cs) ≡ c ∷ before n cs
before_on n c cs is = before_at n c cs ∙ rw is

pub itself : (n : ℕ) → nat_eq n n ≡ true
itself n = grind (arith, nat_tests)

pub apart : (c n : ℕ) → c ≢ n → nat_eq c n ≡ false
apart c n other = grind (arith, nat_tests)

pub decide : (m n : ℕ) → (m ≡ n) ⊎ (m ≢ n)
decide m n = by (nat_eq m n) refl
  where
    by : (b : Bool) → nat_eq m n ≡ b → (m ≡ n) ⊎ (m ≢ n)
    by true is = inl (eqb-true m n is)
    by false is = inr (λ same. false≢true (sym is ∙ ap (λ k. nat_eq k n) same ∙ itself n))

pub none_has : (c : ℕ) → has [] c ≡ true → ⊥
none_has c e = cc

pub before_has : (n c : ℕ) (xs : List ℕ) → has (before n xs) c ≡ true → has xs c ≡ true
before_has n c [] e = absurd (none_has c (sym (ap (λ ys. has ys c) (before_none n)) ∙ e))
before_has n c (x ∷ xs) e = by (before_has n c xs) (nat_eq x n) refl
  where
    by : (has (before n xs) c ≡ true → has xs c ≡ true) → (b : Bool) → nat_eq x n ≡ b → has (x ∷ xs) c ≡ true
    by below true is = absurd (none_has c (sym (ap (λ ys. has ys c) (before_here n x xs is)) ∙ e))
    by below false is =
        elim (or_cases _ _ (sym (ap (λ ys. has ys c) (before_on n x xs is)) ∙ e)) [
          | inl here ↦ ap (λ b. b || has xs c) here
          | inr there ↦ grind (arith, nat_tests, below there)
        ]

pub before_self : (n : ℕ) (xs : List ℕ) → has (before n xs) n ≡ false
before_self n [] = ap (λ ys. has ys n) (before_none n)
before_self n (x ∷ xs) = by (before_self n xs) (nat_eq x n) refl
  where
    by : has (before n xs) n ≡ false → (b : Bool) → nat_eq x n ≡ b → has (before n (x ∷ xs)) n ≡ false
    by below true is = ap (λ ys. has ys n) (before_here n x xs is)
    by below false is = ap (λ ys. has ys n) (before_on n x xs is) ∙ grind (arith, nat_tests, below)

-- what stands ahead of a child ahead of another stands ahead of that too
pub before_chain : (n c m : ℕ) (xs : List ℕ) → has (before n xs) c ≡ true → has (before c xs) m ≡ true → has (before n xs) m ≡ true
before_chain n c m [] e f = absurd (none_has c (sym (ap (λ ys. has ys c) (before_none n)) ∙ e))
before_chain n c m (x ∷ xs) e f = by (before_chain n c m xs) (nat_eq x n) refl
  where
    there : (has (before n xs) c ≡ true → has (before c xs) m ≡ true → has (before n xs) m ≡ true) → nat_eq x n ≡ false → (b : Bool) → nat_eq x c ≡ b → has (before n (x ∷ xs)) m ≡ true
    there below not_n true is = absurd (none_has m (sym (ap (λ ys. has ys m) (before_here c x xs is)) ∙ f))
    there below not_n false is =
        let other : nat_eq c x ≡ false = grind (arith, nat_tests) in
        let inside : has (before n xs) c ≡ true = sym (ap (λ b. b || has (before n xs) c) other) ∙ sym (ap (λ ys. has ys c) (before_on n x xs not_n)) ∙ e in
        ap (λ ys. has ys m) (before_on n x xs not_n)
        ∙ elim (or_cases _ _ (sym (ap (λ ys. has ys m) (before_on c x xs is)) ∙ f)) [
          | inl here ↦ ap (λ b. b || has (before n xs) m) here
          | inr deep ↦ let more : has (before n xs) m ≡ true = below inside deep in grind (arith, nat_tests)
        ]

    by : (has (before n xs) c ≡ true → has (before c xs) m ≡ true → has (before n xs) m ≡ true) → (b : Bool) → nat_eq x n ≡ b → has (before n (x ∷ xs)) m ≡ true
    by below true is = absurd (none_has c (sym (ap (λ ys. has ys c) (before_here n x xs is)) ∙ e))
    by below false is = there below is (nat_eq x c) refl

pub ahead_first : (xs : List ℕ) → ahead_of (first_of xs) xs ≡ []
ahead_first [] = refl
ahead_first (x ∷ xs) = before_here x x xs (itself x)

ahead_on : (o : Option ℕ) (x : ℕ) (xs : List ℕ) → ((m : ℕ) → o ≡ Some m → nat_eq x m ≡ false) → ahead_of o (x ∷ xs) ≡ x ∷ ahead_of o xs
ahead_on None x xs other = refl
ahead_on (Some m) x xs other = before_on m x xs (other m refl)

pub ahead_step : (n : ℕ) (xs : List ℕ) → IsOnce xs → has xs n ≡ true → ahead_of (next_of n xs) xs ≡ before n xs ++ n ∷ []
ahead_step n [] once here = absurd (none_has n here)
ahead_step n (x ∷ xs) once here = by (ahead_step n xs once.1) (nat_eq n x) refl
  where
    last : (ys : List ℕ) → has ys x ≡ false → nat_eq n x ≡ true → ahead_of (first_of ys) (x ∷ ys) ≡ n ∷ []
    last [] alone is = ap (λ k. k ∷ []) (sym (eqb-true n x is))
    last (y ∷ ys) alone is =
        let other : nat_eq x y ≡ false = grind (arith, nat_tests) in
        before_on y x (y ∷ ys) other ∙ ap (λ zs. x ∷ zs) (before_here y y ys (itself y)) ∙ ap (λ k. k ∷ []) (sym (eqb-true n x is))

    by : (has xs n ≡ true → ahead_of (next_of n xs) xs ≡ before n xs ++ n ∷ []) → (b : Bool) → nat_eq n x ≡ b → ahead_of (next_of n (x ∷ xs)) (x ∷ xs) ≡ before n (x ∷ xs) ++ n ∷ []
    by below true is =
        let back : nat_eq x n ≡ true = grind (arith, nat_tests) in
        ap (λ b. ahead_of (first_of (cond b xs (behind n xs))) (x ∷ xs)) is ∙ last xs once.0 is ∙ sym (ap (λ ys. ys ++ n ∷ []) (before_here n x xs back))
    by below false is =
        let back : nat_eq x n ≡ false = grind (arith, nat_tests) in
        let inside : has xs n ≡ true = sym (ap (λ b. b || has xs n) is) ∙ here in
        ap (λ b. ahead_of (first_of (cond b xs (behind n xs))) (x ∷ xs)) is
        ∙ ahead_on (next_of n xs) x xs (λ m met. let there : has xs m ≡ true = next_has n m xs met in apart x m (λ same. false≢true (sym once.0 ∙ ap (has xs) same ∙ there)))
        ∙ ap (λ ys. x ∷ ys) (below inside)
        ∙ sym (ap (λ ys. ys ++ n ∷ []) (before_on n x xs back))

pub has_end : (n c : ℕ) (xs : List ℕ) → has (xs ++ n ∷ []) c ≡ true → (has xs c ≡ true) ⊎ (c ≡ n)
has_end n c [] e = elim (or_cases _ _ e) [ inl here ↦ inr (eqb-true c n here) | inr there ↦ absurd (none_has c there) ]
has_end n c (x ∷ xs) e =
    elim (or_cases _ _ e) [
      | inl here ↦ inl (ap (λ b. b || has xs c) here)
      | inr there ↦ elim (has_end n c xs there) [
        | inl deep ↦ inl (grind (arith, nat_tests))
        | inr same ↦ inr same
      ]
    ]

module _ (kids : List ℕ) (next : Option NodeId) where
  pub passed_first : next ≡ node_ids (first_of kids) → passed next kids ≡ []
  passed_first is = ap (λ (o : Option NodeId). passed o kids) is ∙ ap (λ o. ahead_of o kids) (back_numbers _) ∙ ahead_first kids

  pub passed_some : (child : NodeId) → next ≡ Some child → passed next kids ≡ before (child.0) kids
  passed_some child is = ap (λ (o : Option NodeId). passed o kids) is

  pub passed_none : next ≡ None → passed next kids ≡ kids
  passed_none is = ap (λ (o : Option NodeId). passed o kids) is

  pub passed_next : (child : ℕ) → IsOnce kids → has kids child ≡ true → next ≡ node_ids (next_of child kids) → passed next kids ≡ before child kids ++ child ∷ []
  passed_next child once here is =
      ap (λ (o : Option NodeId). passed o kids) is ∙ ap (λ o. ahead_of o kids) (back_numbers _) ∙ ahead_step child kids once here
