-- Whether a test holds of any entry of a list, entry by entry.
use Rattle.std.proofs.Common.{◌≡◌, ◌<◌, ◌+◌, ◌∙◌, ℕ, zero, suc, Bool, true, false, List, [], ◌∷◌, length, take, refl, ap, arith}
use Rattle.std.specs.Prelude.{◌||◌}
use Rattle.std.specs.List.{list_any}
use Rattle.std.proofs.lemmas.Bool.{or_parts}
use Rattle.page_model.specs.Lookups.{entry_or}

or_true : (a b : Bool) → b ≡ true → (a || b) ≡ true
or_true true b e = refl
or_true false b e = e

module _ {A : Type 0} (test : A → Bool) (other : A) where
  pub any_at : (xs : List A) (n : ℕ) → n < length xs → test (entry_or other xs n) ≡ true → list_any test xs ≡ true
  any_at [] n inside holds = absurd (omega (arith, inside))
  any_at (x ∷ xs) zero inside holds = ap (λ b. b || list_any test xs) holds
  any_at (x ∷ xs) (suc n) inside holds = or_true (test x) (list_any test xs) (any_at xs n (omega (arith, inside)) holds)

  none_next : (xs : List A) (n : ℕ) → n < length xs → list_any test (take n xs) ≡ false → test (entry_or other xs n) ≡ false → list_any test (take (suc n) xs) ≡ false
  none_next [] n inside none fails = absurd (omega (arith, inside))
  none_next (x ∷ xs) zero inside none fails = ap (λ b. b || list_any test (take zero xs)) fails
  none_next (x ∷ xs) (suc n) inside none fails =
      let parts = or_parts (test x) (list_any test (take n xs)) none in
      ap (λ b. b || list_any test (take (suc n) xs)) parts.0 ∙ none_next xs n (omega (arith, inside)) parts.1 fails

  pub none_more : (xs : List A) (n : ℕ) → n < length xs → list_any test (take n xs) ≡ false → test (entry_or other xs n) ≡ false → list_any test (take (n + 1) xs) ≡ false
  none_more xs n inside none fails =
      let more : n + 1 ≡ suc n = omega arith in ap (λ k. list_any test (take k xs)) more ∙ none_next xs n inside none fails
