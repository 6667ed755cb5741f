-- The results of the readers of a line's words, compared with the definition, unless memory runs out.
use Rattle.std.specs.Prelude.{◌≡◌, ℕ, ◌-◌, ◌<◌, ◌≤◌, Bool, true, false, cond, List, [], ◌∷◌, length, drop, map, Option, Some, None, Result, Ok, Err, bytes_eq}
use Rattle.std.specs.List.{All}
use Rattle.std.specs.Borrow.{Bor}
use Rattle.script_lexer.specs.declared.places.Span.{Span}
use Rattle.script_lexer.specs.Texts.{word_seen, InLine}
use Rattle.script_model.specs.Lexing.{Row}
use Rattle.script_model.specs.Lexing as model
use Rattle.script_model.specs.Forms.{words_before, words_from}
use Rattle.script_syntax.specs.declared.words.Word.{Word}
use Rattle.script_syntax.specs.Words.{word_of}
use Rattle.script_syntax.specs.declared.faults.LineFault.{LineFault}
use Rattle.script_syntax.specs.declared.faults.LineFault.TheVariants.{At, Memory}

-- the words that are left of a line that begins at `start`, given as places in a text
abbrev pub row_at : List ℕ → ℕ → List Span → ℕ → List ℕ → Row
row_at bytes start spans after line =
    record { left = map (word_seen bytes start) spans; after = after; bytes = line }

-- the words are within the text, which is short enough for all its places to be below 2^32
pub record RowFits (bytes : List ℕ) (start : ℕ) (spans : List Span) (line : List ℕ) : Type 0 where
  pub short : length bytes ≤ 16777216
  pub line_short : length line ≤ 16777216
  pub within : All (InLine start (length bytes)) spans

-- the next word is taken, or there is none
abbrev pub Popped : Option Word → Row → Row → Type 0
Popped None old new = (old.left ≡ []) × (new ≡ old)
Popped (Some word) old new = (old.left ≡ word_of word ∷ new.left) × (new ≡ record old { left = new.left })

-- the next word is taken, unless there is none or it is one to stop at
abbrev pub NextBefore : (List ℕ → Bool) → Option (Bor (List ℕ)) → Row → Row → Type 0
NextBefore stop None old new =
    (words_before stop old.left ≡ []) × (words_from stop old.left ≡ old.left) × (new ≡ old)
NextBefore stop (Some text) old new =
    (words_before stop old.left ≡ text.now ∷ words_before stop new.left)
    × (words_from stop old.left ≡ words_from stop new.left)
    × (new ≡ record old { left = new.left })
    × (length new.left < length old.left)

-- whether this word comes next, and the row after it
abbrev pub taken_in : List ℕ → List model.Word → Row → Bool × Row
taken_in word [] row = (false, row)
taken_in word (w ∷ ws) row = cond (bytes_eq w.text word) (true, record row { left = ws }) (false, row)

-- the column of the next word, and the text from there to the end of the line's last one
abbrev pub rest_in : List model.Word → Row → Result (ℕ × List ℕ × Row) ℕ
rest_in [] row = Err row.after
rest_in (w ∷ ws) row = Ok (w.column, drop (w.column - 1) row.bytes, record row { left = [] })

abbrev pub rest_of : Row → Result (ℕ × List ℕ × Row) ℕ
rest_of row = rest_in row.left row

-- a value stands for the definition's value, and a fault has its column, unless memory runs out
abbrev pub Gives : {A B : Type 0} → (A → B) → Result A LineFault → Result B ℕ → Type 0
Gives seen (Ok value) answer = answer ≡ Ok (seen value)
Gives seen (Err (At column)) answer = answer ≡ Err column
Gives seen (Err Memory) answer = Unit {0}
