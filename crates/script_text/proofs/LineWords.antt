-- The words of a line are those with one space between each two.
use Rattle.std.proofs.Common.{◌≡◌, ◌∙◌, refl, sym, ap, ℕ, ◌+◌, ◌<◌, true, false, List, [], ◌∷◌, ◌++◌, length, arith, subst, append-nil, length-append}
use Rattle.std.specs.Prelude.{cond, ◌==◌, ◌||◌, Ok}
use Rattle.std.specs.List.{list_all, join_with_byte}
use Rattle.std.proofs.lemmas.Bool.{and_from}
use Rattle.std.proofs.lemmas.List.Folds.{list_all-append}
use Rattle.word_model.specs.Numbers.{begins_with}
use Rattle.script_model.specs.Lexing.{Word, Line}
use Rattle.script_model.specs.Lines.{is_word_byte, is_line_byte, runs_from, before_comment, words_of, row_of}
use Rattle.script_model.specs.Statements.{Statement, Standing, statement_of}
use Rattle.script_text.specs.ScriptText.{line_text}
use Rattle.script_text.specs.NumberedLines.{NumberedLine, numbered}
use Rattle.script_text.proofs.WordBytes.{AreWordBytes, IsWord, all_bytes}
use Rattle.script_model.proofs.Runs.{Stops, skips, run}
use Rattle.script_text.proofs.PartsAgain.{words_at}
use Rattle.script_text.proofs.StatementsAgain.{Says}

abbrev pub AreWords : List (List ℕ) → Type 0
AreWords [] = Unit {0}
AreWords (t ∷ ts) = IsWord t × AreWords ts

pub words_append : (ts us : List (List ℕ)) → AreWords ts → AreWords us → AreWords (ts ++ us)
words_append [] us h k = k
words_append (t ∷ ts) us h k = (h.0, words_append ts us h.1 k)

run_of : (column first : ℕ) (others rest : List ℕ) → AreWordBytes (first ∷ others) → Stops rest
    → runs_from column ((first ∷ others) ++ rest) ≡ record { column = column; text = first ∷ others } ∷ runs_from (column + length (first ∷ others)) rest
run_of column first others rest bytes stops = run column first others rest bytes stops

pub word_first : (column : ℕ) (text rest : List ℕ) → IsWord text → Stops rest
    → runs_from column (text ++ rest) ≡ record { column = column; text = text } ∷ runs_from (column + length text) rest
word_first column text rest word stops =
    subst (λ (t : List ℕ). runs_from column (t ++ rest) ≡ record { column = column; text = t } ∷ runs_from (column + length t) rest) (sym word.text_is)
    (run_of column word.first word.others rest word.bytes stops)

pub word_spaced : (column : ℕ) (text rest : List ℕ) → IsWord text
    → runs_from column (text ++ (32 ∷ rest)) ≡ record { column = column; text = text } ∷ runs_from (column + length text + 1) rest
word_spaced column text rest word =
    word_first column text (32 ∷ rest) word refl ∙ ap (λ (ws : List Word). record { column = column; text = text } ∷ ws) (skips (column + length text) 32 rest refl)

no_runs : (column : ℕ) → runs_from column [] ≡ []
unfolding runs_from
no_runs column = refl

runs_joined : (column : ℕ) (t : List ℕ) (ts : List (List ℕ)) → IsWord t → AreWords ts → runs_from column (join_with_byte 32 (t ∷ ts)) ≡ words_at column (t ∷ ts)
unfolding words_at
runs_joined column t [] word words =
    ap (runs_from column) (sym (append-nil t)) ∙ word_first column t [] word tt
    ∙ ap (λ (ws : List Word). record { column = column; text = t } ∷ ws) (no_runs (column + length t))
runs_joined column t (u ∷ us) word words =
    word_spaced column t (join_with_byte 32 (u ∷ us)) word
    ∙ ap (λ (ws : List Word). record { column = column; text = t } ∷ ws) (runs_joined (column + length t + 1) u us words.0 words.1)

pub sharp_first : (text : List ℕ) → IsWord text → begins_with 35 text ≡ false
unfolding begins_with
sharp_first text word = ap (begins_with 35) word.text_is ∙ word.no_comment

pub comment_behind : (w : Word) (ws : List Word) → begins_with 35 w.text ≡ false → before_comment (w ∷ ws) ≡ w ∷ before_comment ws
unfolding before_comment
comment_behind w ws h = ap (λ b. cond b [] (w ∷ before_comment ws)) h

no_comment : (column : ℕ) (ts : List (List ℕ)) → AreWords ts → before_comment (words_at column ts) ≡ words_at column ts
unfolding words_at before_comment
no_comment column [] words = refl
no_comment column (t ∷ ts) words =
    let w : Word = record { column = column; text = t } in
    let next : List Word = words_at (column + length t + 1) ts in
    ap (λ b. cond b [] (w ∷ before_comment next)) (sharp_first t words.0)
    ∙ ap (λ (ws : List Word). w ∷ ws) (no_comment (column + length t + 1) ts words.1)

pub words_are : (t : List ℕ) (ts : List (List ℕ)) → AreWords (t ∷ ts) → words_of (line_text (t ∷ ts)) ≡ words_at 1 (t ∷ ts)
unfolding words_of line_text
words_are t ts words = ap before_comment (runs_joined 1 t ts words.0 words.1) ∙ no_comment 1 (t ∷ ts) words

-- what a line is for the lexer
pub record IsLine (text : List ℕ) : Type 0 where
  pub bytes : list_all is_line_byte text ≡ true
  pub some_byte : 0 < length text
  pub first : Word
  pub others : List Word
  pub words_are : words_of text ≡ first ∷ others

word_on_line : (b : ℕ) → is_word_byte b ≡ true → is_line_byte b ≡ true
word_on_line b h = ap (λ t. t || (b == 32 || b == 9)) h

pub word_on : (text : List ℕ) → IsWord text → list_all is_line_byte text ≡ true
word_on text word = ap (list_all is_line_byte) word.text_is ∙ all_bytes is_word_byte is_line_byte word_on_line (word.first ∷ word.others) word.bytes

pub spaced_on : (text rest : List ℕ) → IsWord text → list_all is_line_byte rest ≡ true → list_all is_line_byte (text ++ (32 ∷ rest)) ≡ true
spaced_on text rest word all = list_all-append is_line_byte text (32 ∷ rest) ∙ and_from _ _ (word_on text word) all

joined_on : (t : List ℕ) (ts : List (List ℕ)) → AreWords (t ∷ ts) → list_all is_line_byte (join_with_byte 32 (t ∷ ts)) ≡ true
joined_on t [] words = word_on t words.0
joined_on t (u ∷ us) words = spaced_on t (join_with_byte 32 (u ∷ us)) words.0 (joined_on u us words.1)

pub word_long : (text : List ℕ) → IsWord text → 0 < length text
word_long text word = let e = ap length word.text_is in omega arith

joined_long : (t : List ℕ) (ts : List (List ℕ)) → IsWord t → 0 < length (join_with_byte 32 (t ∷ ts))
joined_long t [] word = word_long t word
joined_long t (u ∷ us) word = let h = word_long t word in let e = length-append t (32 ∷ join_with_byte 32 (u ∷ us)) in omega arith

pub is_line : (t : List ℕ) (ts : List (List ℕ)) → AreWords (t ∷ ts) → IsLine (line_text (t ∷ ts))
unfolding line_text words_at
is_line t ts words = record {
  bytes = joined_on t ts words;
  some_byte = joined_long t ts words.0;
  first = record { column = 1; text = t };
  others = words_at (1 + length t + 1) ts;
  words_are = words_are t ts words;
}

-- a line as the lexer gives it
unfoldable pub line_of : NumberedLine → Line
unfolding words_of line_text row_of
line_of l = record { number = l.number; row = row_of (words_of (line_text l.words)) (line_text l.words) }

-- a line says this, standing so
abbrev pub States : Standing → NumberedLine → Statement → Type 0
States standing l statement = statement_of standing (line_of l).row ≡ Ok statement

row_is : (words : List Word) (text : List ℕ) (standing : Standing) (statement : Statement) → Says standing words statement → statement_of standing (row_of words text) ≡ Ok statement
unfolding row_of
row_is words text standing statement says = says _ _

pub line_states : (standing : Standing) (number : ℕ) (t : List ℕ) (ts : List (List ℕ)) (statement : Statement) → AreWords (t ∷ ts) → Says standing (words_at 1 (t ∷ ts)) statement
    → States standing (numbered number (t ∷ ts)) statement
unfolding line_of
line_states standing number t ts statement words says =
    ap (λ (ws : List Word). statement_of standing (row_of ws (line_text (t ∷ ts)))) (words_are t ts words)
    ∙ row_is (words_at 1 (t ∷ ts)) (line_text (t ∷ ts)) standing statement says
