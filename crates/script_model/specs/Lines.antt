-- One line by itself: its words are the maximal runs of word bytes before a comment.
use Rattle.std.specs.Prelude.{ℕ, ◌+◌, ◌-◌, Bool, cond, ◌&&◌, ◌||◌, ◌==◌, nat_le, List, [], ◌∷◌, length, take}
use Rattle.word_model.specs.Numbers.{begins_with}
use Rattle.script_model.specs.Lexing.{Word, Row, Lexed}

abbrev pub is_word_byte : ℕ → Bool
is_word_byte b = nat_le 33 b && nat_le b 126

-- a byte that is allowed anywhere in a line
abbrev pub is_line_byte : ℕ → Bool
is_line_byte b = is_word_byte b || (b == 32 || b == 9)

-- a byte added to the word that starts directly after it, or a new word if none does
unfoldable pub joined : ℕ → ℕ → List Word → List Word
joined column byte [] = record { column = column; text = byte ∷ [] } ∷ []
joined column byte (w ∷ ws) =
    cond (w.column == column + 1) (record { column = column; text = byte ∷ w.text } ∷ ws)
    (record { column = column; text = byte ∷ [] } ∷ w ∷ ws)

-- the maximal runs of word bytes; the first byte is at this column
unfoldable pub runs_from : ℕ → List ℕ → List Word
unfolding joined
runs_from column [] = []
runs_from column (b ∷ bs) =
    cond (is_word_byte b) (joined column b (runs_from (column + 1) bs)) (runs_from (column + 1) bs)

-- the words before the comment, which starts at the first word that begins with `#`
unfoldable pub before_comment : List Word → List Word
unfolding begins_with
before_comment [] = []
before_comment (w ∷ ws) = cond (begins_with 35 w.text) [] (w ∷ before_comment ws)

unfoldable pub words_of : List ℕ → List Word
unfolding runs_from before_comment
words_of line = before_comment (runs_from 1 line)

-- the column after the last of these words, or the given column if there are none
unfoldable pub after_words : ℕ → List Word → ℕ
after_words column [] = column
after_words column (w ∷ ws) = after_words (w.column + length w.text) ws

unfoldable pub row_of : List Word → List ℕ → Row
unfolding after_words
row_of words line = record {
  left = words;
  after = after_words 1 words;
  bytes = take (after_words 1 words - 1) line;
}

-- a line with these words, if there are any, before the lines that follow
unfoldable pub line_with : List Word → ℕ → List ℕ → Lexed → Lexed
unfolding row_of
line_with [] number line lexed = lexed
line_with (w ∷ ws) number line lexed =
    record lexed { lines = record { number = number; row = row_of (w ∷ ws) line } ∷ lexed.lines }
