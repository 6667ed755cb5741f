-- Lists of words that are of none of the forms by their number.
use Rattle.std.proofs.Common.{◌≡◌, ℕ, ◌<◌, ◌≤◌, List, [], ◌∷◌, None, length, map, refl, arith}
use Rattle.run_replies.specs.Words.{asked}

module _ {A : Type 0} (word : A → List ℕ) where
  pub three_words : (words : List A) → 3 ≤ length words → length words < 4 → None ≡ asked (map word words)
  unfolding asked
  three_words [] low high = absurd (omega (arith, low))
  three_words (a ∷ []) low high = absurd (omega (arith, low))
  three_words (a ∷ b ∷ []) low high = absurd (omega (arith, low))
  three_words (a ∷ b ∷ c ∷ []) low high = refl
  three_words (a ∷ b ∷ c ∷ d ∷ others) low high = absurd (omega (arith, high))

  pub many_words : (words : List A) → 5 ≤ length words → None ≡ asked (map word words)
  unfolding asked
  many_words [] low = absurd (omega (arith, low))
  many_words (a ∷ []) low = absurd (omega (arith, low))
  many_words (a ∷ b ∷ []) low = absurd (omega (arith, low))
  many_words (a ∷ b ∷ c ∷ []) low = absurd (omega (arith, low))
  many_words (a ∷ b ∷ c ∷ d ∷ []) low = absurd (omega (arith, low))
  many_words (a ∷ b ∷ c ∷ d ∷ e ∷ others) low = refl
