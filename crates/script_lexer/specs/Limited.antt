-- The lines and words of a text whose lines may have up to `most_line` bytes. With 4,096 this is the lexing of a script.
use Rattle.std.specs.Prelude.{ℕ, Bool, cond, ◌&&◌, ◌||◌, ◌==◌, nat_lt, nat_le, List, [], ◌∷◌}
use Rattle.word_model.specs.Numbers.{begins_with}
use Rattle.script_model.specs.Lexing.{Scan, Lexed, Whole, ByteClass, LineFeedByte, LongByte, SpaceByte, WordByte, ForbiddenByte, line_start, close_word, add_line, ends, next_line, look_as}

-- the role of a byte in a line; a carriage return is allowed only directly before a line feed
unfoldable pub class_within : ℕ → ℕ → Bool → ℕ → ByteClass
class_within most_line byte feed_next column =
    cond (byte == 10) LineFeedByte
    (cond (nat_lt most_line column) LongByte
    (cond (byte == 32 || byte == 9 || (byte == 13 && feed_next)) SpaceByte
    (cond (nat_le 33 byte && nat_le byte 126) WordByte ForbiddenByte)))

unfoldable pub lex_within : ℕ → Scan → List ℕ → Lexed
unfolding class_within look_as add_line close_word ends next_line begins_with
lex_within most_line s [] = add_line (close_word s) (ends (Whole (next_line s)))
lex_within most_line s (b ∷ bs) = look_as (class_within most_line b (begins_with 10 bs) s.column) b s (λ t. lex_within most_line t bs)

-- the lines and words of a text, and how it ends
unfoldable pub lexed_within : ℕ → List ℕ → Lexed
unfolding lex_within line_start
lexed_within most_line text = lex_within most_line (line_start 1) text
