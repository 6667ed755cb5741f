-- Pieces of a list that are read or written one after the other.
use Rattle.std.proofs.Common.{◌≡◌, ℕ, ◌+◌, ◌-◌, ◌≤◌, List, ◌++◌, length, take, drop, sym, ap, ◌∙◌, subst, arith, length-drop, take_all, Option}
use Rattle.std.proofs.Math.Seq.{take-add, take-append_seam}
use Rattle.std.proofs.lemmas.List.{length-take, drop-drop, take-append-drop}
use Rattle.std.proofs.KnownBytes.{Appends-trans}
use Rattle.std.specs.Io.KnownBytes.{Appends}

-- after the first i items come the next n
pub appended_more : (a b c : Option (List ℕ)) (xs : List ℕ) (i n : ℕ) → Appends a b (take i xs) → Appends b c (take n (take (length xs - i) (drop i xs))) → Appends a c (take (i + n) xs)
appended_more a b c xs i n first second =
    let rest = take_all (length xs - i) (drop i xs) (omega (arith, length-drop i xs)) in
    let next : Appends b c (take n (drop i xs)) = subst (λ ys. Appends b c (take n ys)) rest second in
    subst (Appends a c) (sym (take-add i n xs)) (Appends-trans a b c _ _ first next)

-- a copy of the next n items stands first, and after it come the others
pub given_first : (left into copied bytes : List ℕ) (at n : ℕ) → left ≡ drop at bytes → at + n ≤ length bytes → copied ≡ take (at + n - at) (drop at bytes) → left ≡ take n (copied ++ drop n into) ++ drop (at + n) bytes
given_first left into copied bytes at n left_is fits copied_is =
    let count : at + n - at ≡ n = omega arith in
    let copied_next : copied ≡ take n (drop at bytes) = copied_is ∙ ap (λ k. take k (drop at bytes)) count in
    let copied_length : length copied ≡ n = ap length copied_next ∙ length-take n (drop at bytes) ∙ omega (arith, length-drop at bytes) in
    let front : take n (copied ++ drop n into) ≡ copied = ap (λ k. take k (copied ++ drop n into)) (sym copied_length) ∙ take-append_seam copied (drop n into) in
    left_is ∙ sym (take-append-drop n (drop at bytes)) ∙ ap (λ xs. xs ++ drop n (drop at bytes)) (sym (front ∙ copied_next)) ∙ ap (λ xs. take n (copied ++ drop n into) ++ xs) (drop-drop n at bytes)
