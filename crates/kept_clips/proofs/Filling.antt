-- Lists that are filled up with one value: what is read there by default is read as before.
use Rattle.std.proofs.Common.{◌≡◌, ◌∙◌, ℕ, ◌-◌, ◌≤◌, List, ◌++◌, length, get_or, sym, subst, inl, inr}
use Rattle.std.specs.Prelude.{replicate}
use Rattle.std.proofs.lemmas.Bool.{cases_lt}
use Rattle.std.proofs.lemmas.List.{get_or-replicate, get_or_past, get_or_append_left, length-replicate}
use Rattle.std.proofs.Math.Seq.{get_or-append_right}

module _ {A : Type 0} (x : A) where
  pub replicated : (count n : ℕ) → get_or (replicate count x) n x ≡ x
  replicated count n = elim (cases_lt n count) [
    | inl h ↦ get_or-replicate count n x x h
    | inr h ↦ get_or_past (replicate count x) n x (subst (λ l. l ≤ n) (sym (length-replicate count x)) h)
  ]

  pub filled : (xs : List A) (count n : ℕ) → get_or (xs ++ replicate count x) n x ≡ get_or xs n x
  filled xs count n = elim (cases_lt n (length xs)) [
    | inl h ↦ get_or_append_left xs (replicate count x) x n h
    | inr h ↦ get_or-append_right xs (replicate count x) n x h ∙ replicated count (n - length xs) ∙ sym (get_or_past xs n x h)
  ]
