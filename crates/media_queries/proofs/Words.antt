-- The loops over a word and over spaces, a step at a time.
use Rattle.std.proofs.Common.{◌≡◌, ℕ, ◌+◌, ◌-◌, ◌<◌, ◌≤◌, true, false, cond, List, [], ◌∷◌, length, take, drop, get_or, refl, sym, ◌∙◌, ap, arith}
use Rattle.std.specs.Prelude.{Result, Ok, Err}
use Rattle.std.proofs.lemmas.List.{drop_more, drop_all, take_all, length-drop}
use Rattle.script_model.specs.Readers.{◌>>=◌}
use Rattle.script_model.specs.Media.{byte_at, word_at, is_blank, skip}

word_is : (b : ℕ) (ws rest : List ℕ) (read : Result (List ℕ) ℕ) → read ≡ byte_at b rest → word_at (b ∷ ws) rest ≡ (read >>= λ more. word_at ws more)
unfolding word_at
word_is b ws rest read e = ap (λ (r : Result (List ℕ) ℕ). r >>= λ more. word_at ws more) (sym e)

word_step : (word : List ℕ) (i : ℕ) (rest : List ℕ) (read whole : Result (List ℕ) ℕ) → i < length word
    → word_at (drop i word) rest ≡ whole → read ≡ byte_at (get_or word i 0) rest → (read >>= λ more. word_at (drop (i + 1) word) more) ≡ whole
word_step word i rest read whole within so e =
    sym (word_is (get_or word i 0) (drop (i + 1) word) rest read e) ∙ ap (λ (w : List ℕ). word_at w rest) (sym (drop_more word i 0 within)) ∙ so

pub word_on : (word : List ℕ) (i : ℕ) (rest more : List ℕ) (whole : Result (List ℕ) ℕ) → i < length word
    → word_at (drop i word) rest ≡ whole → Ok more ≡ byte_at (get_or word i 0) rest → word_at (drop (i + 1) word) more ≡ whole
word_on word i rest more whole within so e = word_step word i rest (Ok more) whole within so e

pub word_stops : (word : List ℕ) (i : ℕ) (rest : List ℕ) (left : ℕ) (whole : Result (List ℕ) ℕ) → i < length word
    → word_at (drop i word) rest ≡ whole → Err left ≡ byte_at (get_or word i 0) rest → Err left ≡ whole
word_stops word i rest left whole within so e = word_step word i rest (Err left) whole within so e

word_none : (rest : List ℕ) → word_at [] rest ≡ Ok rest
unfolding word_at
word_none rest = refl

pub word_ends : (word : List ℕ) (i : ℕ) (rest : List ℕ) (whole : Result (List ℕ) ℕ) → length word ≤ i → word_at (drop i word) rest ≡ whole → Ok rest ≡ whole
word_ends word i rest whole all so = sym (word_none rest) ∙ ap (λ (w : List ℕ). word_at w rest) (sym (drop_all i word all)) ∙ so

skip_is : (b : ℕ) (bs : List ℕ) → skip (b ∷ bs) ≡ cond (is_blank b) (skip bs) (b ∷ bs)
unfolding skip
skip_is b bs = refl

skip_step : (text : List ℕ) (i : ℕ) → i < length text
    → skip (drop i text) ≡ cond (is_blank (get_or text i 0)) (skip (drop (i + 1) text)) (drop i text)
skip_step text i within = rw (drop_more text i 0 within) (skip_is (get_or text i 0) (drop (i + 1) text))

pub skip_on : (text : List ℕ) (i : ℕ) (whole : List ℕ) → i < length text → skip (drop i text) ≡ whole → is_blank (get_or text i 0) ≡ true
    → skip (drop (i + 1) text) ≡ whole
skip_on text i whole within so blank =
    sym (skip_step text i within ∙ ap (λ c. cond c (skip (drop (i + 1) text)) (drop i text)) blank) ∙ so

cut_at : (text : List ℕ) (i : ℕ) → take (length text - i) (drop i text) ≡ drop i text
cut_at text i = take_all (length text - i) (drop i text) (rw (length-drop i text) (omega arith))

pub skip_stops : (text : List ℕ) (i : ℕ) (whole : List ℕ) → i < length text → skip (drop i text) ≡ whole → is_blank (get_or text i 0) ≡ false
    → take (length text - i) (drop i text) ≡ whole
skip_stops text i whole within so blank =
    cut_at text i ∙ sym (skip_step text i within ∙ ap (λ c. cond c (skip (drop (i + 1) text)) (drop i text)) blank) ∙ so

skip_none : skip [] ≡ []
unfolding skip
skip_none = refl

pub skip_ends : (text : List ℕ) (i : ℕ) (whole : List ℕ) → length text ≤ i → skip (drop i text) ≡ whole → [] ≡ whole
skip_ends text i whole all so = sym skip_none ∙ ap skip (sym (drop_all i text all)) ∙ so
