-- Tests of all spots of a chain.
use Rattle.std.proofs.Common.{◌≡◌, ◌∙◌, ℕ, ◌<◌, ◌≤◌, Bool, true, false, ◌&&◌, nat_le, List, [], ◌∷◌, ◌++◌, ap, refl, arith}
use Rattle.std.specs.List.{list_all}
use Rattle.std.proofs.lemmas.Bool.Decides.{nat_tests}
use Rattle.std.proofs.lemmas.Bool.{and_parts, and_right}

pub at_most : (m n : ℕ) → m ≤ n → nat_le m n ≡ true
at_most m n h = grind (arith, nat_tests)

pub above : (m n : ℕ) → n < m → nat_le m n ≡ false
above m n h = grind (arith, nat_tests)

module _ {A : Type 0} (test : A → Bool) where
  joined : (b : Bool) (xs ys : List A) → b && list_all test xs ≡ false → (list_all test xs ≡ false → list_all test (xs ++ ys) ≡ false) → b && list_all test (xs ++ ys) ≡ false
  joined true xs ys e rest = rest e
  joined false xs ys e rest = refl

  pub fails_first : (xs ys : List A) → list_all test xs ≡ false → list_all test (xs ++ ys) ≡ false
  fails_first [] ys e = let wrong : true ≡ false = e in absurd (let no : ⊥ = cc in no)
  fails_first (x ∷ xs) ys e = joined (test x) xs ys e (fails_first xs ys)

  pub holds_last : (xs : List A) (last : A) → list_all test xs ≡ true → test last ≡ true → list_all test (xs ++ last ∷ []) ≡ true
  holds_last [] last e l = ap (λ b. b && true) l
  holds_last (x ∷ xs) last e l =
      let parts = and_parts (test x) (list_all test xs) e in
      ap (λ b. b && list_all test (xs ++ last ∷ [])) parts.0 ∙ holds_last xs last parts.1 l

  pub passes : (x : A) (xs : List A) → test x ≡ true → list_all test (x ∷ xs) ≡ list_all test xs
  passes x xs e = ap (λ b. b && list_all test xs) e

  pub stops : (x : A) (xs : List A) → test x ≡ false → list_all test (x ∷ xs) ≡ false
  stops x xs e = ap (λ b. b && list_all test xs) e

  pub in_whole : (first last : A) (between : List A) → test first ≡ true → list_all test between ≡ true → test last ≡ true → list_all test (first ∷ (between ++ last ∷ [])) ≡ true
  in_whole first last between f e l = passes first (between ++ last ∷ []) f ∙ holds_last between last e l

  pub fails_between : (first last : A) (between : List A) → list_all test between ≡ false → list_all test (first ∷ (between ++ last ∷ [])) ≡ false
  fails_between first last between e = and_right (test first) (list_all test (between ++ last ∷ [])) (fails_first between (last ∷ []) e)
