-- The lines of a text, each with its line feed: the text is split after each line feed, and what is left without one is a line too.
use Rattle.std.specs.Prelude.{ℕ, Bool, cond, ◌==◌, List, [], ◌∷◌, is_some}
use Rattle.trace_text.specs.Reading.{line_of}

-- lines with a byte added at the beginning of the first one
abbrev pub before_lines : ℕ → List (List ℕ) → List (List ℕ)
before_lines byte [] = (byte ∷ []) ∷ []
before_lines byte (line ∷ lines) = (byte ∷ line) ∷ lines

unfoldable pub lines_of : List ℕ → List (List ℕ)
lines_of [] = []
lines_of (b ∷ bs) = cond (b == 10) ((b ∷ []) ∷ lines_of bs) (before_lines b (lines_of bs))

-- whether this is the text of a trace line
unfoldable pub is_trace_line : List ℕ → Bool
unfolding line_of
is_trace_line text = is_some (line_of text)
