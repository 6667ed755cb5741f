-- Words joined one after another, and numbers read one after another.
use Rattle.std.proofs.Common.{◌≡◌, ℕ, ℤ, List, [], ◌∷◌, ◌++◌, Result, Ok, Err, refl, ap, sym, ◌∙◌, append_assoc}
use Rattle.std.specs.List.{join_with_byte}

-- a text with further words behind it, each after a space
abbrev pub text_behind : List ℕ → List (List ℕ) → List ℕ
text_behind text [] = text
text_behind text (word ∷ words) = text_behind (text ++ (32 ∷ word)) words

behind_later : (front text : List ℕ) (words : List (List ℕ)) → text_behind (front ++ text) words ≡ front ++ text_behind text words
behind_later front text [] = refl
behind_later front text (word ∷ words) =
    ap (λ (t : List ℕ). text_behind t words) (append_assoc front text (32 ∷ word)) ∙ behind_later front (text ++ (32 ∷ word)) words

pub joined : (word : List ℕ) (words : List (List ℕ)) → join_with_byte 32 (word ∷ words) ≡ text_behind word words
joined word [] = refl
joined word (next ∷ words) =
    ap (λ (t : List ℕ). word ++ (32 ∷ t)) (joined next words)
    ∙ ap (λ (t : List ℕ). word ++ t) (sym (behind_later (32 ∷ []) next words))
    ∙ sym (behind_later word (32 ∷ next) words)

-- numbers read before what is read behind them
abbrev pub numbers_behind : List ℤ → Result (List ℤ) ℕ → Result (List ℤ) ℕ
numbers_behind numbers (Ok others) = Ok (numbers ++ others)
numbers_behind numbers (Err column) = Err column
