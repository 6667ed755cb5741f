-- A text at its first space.
use Rattle.std.proofs.Common.{◌≡◌, ℕ, zero, suc, ◌+◌, ◌<◌, ◌≤◌, ◌≢◌, Bool, cond, eqb, List, [], ◌∷◌, length, get_or, take, drop, refl, sym, ap, ◌∙◌, add-one, arith}
use Rattle.std.proofs.lemmas.Bool.{eq-eqb, ne_eqb}
use Rattle.std.proofs.lemmas.Bool.{eqb-true, eqb-false, not-true, not-false}
use Rattle.std.proofs.lemmas.List.Sums.{prefix_len_passes, prefix_len_stops}
use Rattle.std.proofs.lemmas.List.{take_all, drop-drop, length-drop}
use Rattle.std.specs.Prelude.{not, ◌-◌}
use Rattle.std.specs.List.{prefix_len}
use Rattle.script_model.specs.MarginText.{split_at_spaces, before_first}

-- what stands before the space, and behind it
front : (xs : List ℕ) (i : ℕ) → i < length xs → get_or xs i 0 ≡ 32 → ((k : ℕ) → k < i → get_or xs k 0 ≢ 32) → split_at_spaces xs ≡ take i xs ∷ split_at_spaces (drop (suc i) xs)
unfolding split_at_spaces before_first
front [] i h e before = absurd (omega arith)
front (x ∷ xs) zero h e before =
    ap (λ v. cond v ([] ∷ split_at_spaces xs) (before_first x (split_at_spaces xs))) (eq-eqb x 32 e)
front (x ∷ xs) (suc i) h e before =
    ap (λ v. cond v ([] ∷ split_at_spaces xs) (before_first x (split_at_spaces xs))) (ne_eqb x 32 (before 0 (omega arith)))
    ∙ ap (before_first x) (front xs i (omega arith) e (λ k lt. before (suc k) (omega arith)))

cut_at : (xs : List ℕ) (i : ℕ) → i < length xs → get_or xs i 0 ≡ 32 → ((k : ℕ) → k < i → get_or xs k 0 ≢ 32) → split_at_spaces xs ≡ take i xs ∷ split_at_spaces (drop (i + 1) xs)
cut_at xs i h e before = rw add-one (front xs i h e before)

no_cut : (xs : List ℕ) → ((k : ℕ) → k < length xs → get_or xs k 0 ≢ 32) → split_at_spaces xs ≡ xs ∷ []
unfolding split_at_spaces before_first
no_cut [] before = refl
no_cut (x ∷ xs) before =
    ap (λ v. cond v ([] ∷ split_at_spaces xs) (before_first x (split_at_spaces xs))) (ne_eqb x 32 (before 0 (omega arith)))
    ∙ ap (before_first x) (no_cut xs (λ k lt. before (suc k) (omega arith)))

abbrev pub is_no_space : ℕ → Bool
is_no_space b = not (eqb b 32)

pub cut_text : (xs : List ℕ) (i : ℕ) → i ≡ prefix_len is_no_space xs → i < length xs → split_at_spaces xs ≡ take i xs ∷ split_at_spaces (drop (i + 1) xs)
cut_text xs i e h =
    cut_at xs i h
    (let n : prefix_len is_no_space xs < length xs = omega arith in
    ap (λ j. get_or xs j 0) e ∙ eqb-true (get_or xs (prefix_len is_no_space xs) 0) 32 (not-false (eqb (get_or xs (prefix_len is_no_space xs) 0) 32) (prefix_len_stops is_no_space xs 0 n)))
    (λ k lt. eqb-false (get_or xs k 0) 32 (not-true (eqb (get_or xs k 0) 32) (prefix_len_passes is_no_space xs k 0 (omega arith))))

-- the same of a text's two halves
pub cut_halves : (xs f b : List ℕ) (i : ℕ) → i ≡ prefix_len is_no_space xs → i < length xs → f ≡ take i xs → b ≡ drop i xs → split_at_spaces xs ≡ f ∷ split_at_spaces (take (length b - 1) (drop 1 b))
cut_halves xs f b i e h same rest =
    let n = length-drop 1 b in
    let behind : take (length b - 1) (drop 1 b) ≡ drop (i + 1) xs =
    take_all (length b - 1) (drop 1 b) (omega (arith, n)) ∙ ap (λ l. drop 1 l) rest ∙ drop-drop 1 i xs in
    cut_text xs i e h
    ∙ ap (λ l. l ∷ split_at_spaces (drop (i + 1) xs)) (sym same)
    ∙ ap (λ l. f ∷ split_at_spaces l) (sym behind)

pub whole_text : (xs : List ℕ) (i : ℕ) → i ≡ prefix_len is_no_space xs → length xs ≤ i → split_at_spaces xs ≡ xs ∷ []
whole_text xs i e h =
    no_cut xs
    (λ k lt. eqb-false (get_or xs k 0) 32 (not-true (eqb (get_or xs k 0) 32) (prefix_len_passes is_no_space xs k 0 (omega arith))))
