-- Digits read one after the other.
use Rattle.std.proofs.Common.{◌≡◌, ℕ, ◌+◌, ◌-◌, ◌*◌, ◌<◌, ◌≤◌, List, length, drop, get_or, sym, ◌∙◌, subst, arith}
use Rattle.std.proofs.lemmas.List.{drop_all}
use Rattle.word_model.specs.Numbers.{digits_value}
use Rattle.word_model.proofs.Values.{value_from, value_grows, value_step}

pub read_whole : (digits : List ℕ) (i value : ℕ) → length digits ≤ i → value_from value (drop i digits) ≡ digits_value digits → value ≡ digits_value digits
read_whole digits i value past read = rw (drop_all i digits past) at read

pub read_more : (digits : List ℕ) (i value bound : ℕ) → i < length digits → value_from value (drop i digits) ≡ digits_value digits
    → bound < value * 10 + (get_or digits i 0 - 48) → bound < digits_value digits
read_more digits i value bound h read over =
    let next : ℕ = value * 10 + (get_or digits i 0 - 48) in
    let grown : next ≤ value_from next (drop (i + 1) digits) = value_grows (drop (i + 1) digits) next in
    let same : value_from next (drop (i + 1) digits) ≡ digits_value digits = sym (value_step digits i value h) ∙ read in
    subst (λ (n : ℕ). bound < n) same (omega arith)
