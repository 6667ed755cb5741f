-- Entries of a list by number that are changed where they are.
use Rattle.std.proofs.Common.{◌≡◌, ℕ, zero, suc, ◌≤◌, List, [], ◌∷◌, length, set, refl, ap, arith}
use Rattle.page_model.specs.Lookups.{change_at}

pub changed_within : {A : Type 0} (v : A) (n : ℕ) (xs : List A) → set xs n v ≡ change_at (λ before. v) n xs
changed_within v n [] = refl
changed_within v zero (x ∷ xs) = refl
changed_within v (suc n) (x ∷ xs) = ap (λ others. x ∷ others) (changed_within v n xs)

pub changed_past : {A : Type 0} (v : A) (n : ℕ) (xs : List A) → length xs ≤ n → xs ≡ change_at (λ before. v) n xs
changed_past v n [] past = refl
changed_past v zero (x ∷ xs) past = absurd (omega (arith, past))
changed_past v (suc n) (x ∷ xs) past = ap (λ others. x ∷ others) (changed_past v n xs (omega (arith, past)))
