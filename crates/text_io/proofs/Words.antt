-- The bytes of a name before zeros.
use Rattle.std.proofs.Common.{◌≡◌, ℕ, ◌-◌, ◌<◌, ◌≤◌, true, List, ◌++◌, length, take, drop, sym, ap, ◌∙◌, arith, length-append, replicate}
use Rattle.std.proofs.Math.Seq.{take-append_seam}
use Rattle.std.proofs.lemmas.List.{drop-replicate, length-replicate}
use Rattle.word_model.specs.Names.{is_name}

-- the bytes of a name with zeros up to 32 have the form that a name is kept in
pub padded : (word copied zeros : List ℕ) → copied ≡ word → zeros ≡ replicate 32 0 → 0 < length word → length word ≤ 32 → is_name word ≡ true
    → (length (copied ++ drop (length word) zeros) ≡ 32) × (0 < length word) × (length word ≤ 32)
    × (copied ++ drop (length word) zeros ≡ take (length word) (copied ++ drop (length word) zeros) ++ replicate (32 - length word) 0)
    × (is_name (take (length word) (copied ++ drop (length word) zeros)) ≡ true)
padded word copied zeros copied_is zeros_are some within named =
    let tail : drop (length word) zeros ≡ replicate (32 - length word) 0 = ap (drop (length word)) zeros_are ∙ drop-replicate (length word) 32 0 in
    let whole : copied ++ drop (length word) zeros ≡ word ++ replicate (32 - length word) 0 = ap (λ xs. xs ++ drop (length word) zeros) copied_is ∙ ap (λ xs. word ++ xs) tail in
    let front : take (length word) (copied ++ drop (length word) zeros) ≡ word = ap (take (length word)) whole ∙ take-append_seam word (replicate (32 - length word) 0) in
    (ap length whole ∙ length-append word (replicate (32 - length word) 0) ∙ omega (arith, length-replicate {A = ℕ} (32 - length word) 0), some, within, whole ∙ ap (λ xs. xs ++ replicate (32 - length word) 0) (sym front), ap is_name front ∙ named)
