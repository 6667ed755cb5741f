-- A text has at most one line more than it has bytes.
use Rattle.std.proofs.Common.{◌≡◌, ℕ, ◌+◌, ◌≤◌, Bool, true, false, List, [], ◌∷◌, length, cond, refl, arith, subst}
use Rattle.std.specs.Prelude.{◌==◌, ◌&&◌}
use Rattle.word_model.specs.Numbers.{begins_with}
use Rattle.script_model.specs.Readers.{is_empty}
use Rattle.script_model.specs.Lexing.{Word, Scan, Ending, Whole, BadByte, LongLine, Lexed, line_start, word_closed, close_word, passed, space, word_byte_in, word_byte, line_before, add_line, ends, ByteClass, LineFeedByte, LongByte, SpaceByte, WordByte, ForbiddenByte, class_of, look_as, look_at, next_line, lex_on, lexed}

abbrev EndsBy : ℕ → Ending → Type 0
EndsBy most (Whole next) = next ≤ most
EndsBy most (BadByte line column) = Unit {0}
EndsBy most (LongLine line) = Unit {0}

later : (most more : ℕ) (ending : Ending) → most ≤ more → EndsBy most ending → EndsBy more ending
later most more (Whole next) le e = omega arith
later most more (BadByte line column) le e = tt
later most more (LongLine line) le e = tt

closed_number : (begun : List ℕ) (s : Scan) → (word_closed begun s).number ≡ s.number
unfolding word_closed
closed_number [] s = refl
closed_number (b ∷ bs) s = refl

word_number : (comment fresh : Bool) (byte : ℕ) (s : Scan) → (word_byte_in comment fresh byte s).number ≡ s.number
unfolding word_byte_in passed
word_number true fresh byte s = refl
word_number false true byte s = refl
word_number false false byte s = refl

before_by : (words : List Word) (s : Scan) (text : Lexed) (most : ℕ) → EndsBy most text.ending → EndsBy most (line_before words s text).ending
unfolding line_before
before_by [] s text most e = e
before_by (w ∷ ws) s text most e = e

add_by : (s : Scan) (text : Lexed) (most : ℕ) → EndsBy most text.ending → EndsBy most (add_line s text).ending
unfolding add_line
add_by s text most e = before_by s.words s text most e

next_by : (first : Bool) (number : ℕ) → cond first number (number + 1) ≤ number + 1
next_by true number = omega arith
next_by false number = omega arith

look_by : (class : ByteClass) (byte size : ℕ) (s : Scan) (on : Scan → Lexed)
    → ((t : Scan) → EndsBy (t.number + size + 1) (on t).ending) → EndsBy (s.number + (size + 1) + 1) (look_as class byte s on).ending
unfolding look_as ends space word_byte passed close_word line_start
look_by LineFeedByte byte size s on h =
    add_by (close_word s) (on (line_start (s.number + 1))) (s.number + (size + 1) + 1)
    (later (s.number + 1 + size + 1) (s.number + (size + 1) + 1) (on (line_start (s.number + 1))).ending (omega arith) (h (line_start (s.number + 1))))
look_by LongByte byte size s on h = tt
look_by SpaceByte byte size s on h =
    later ((space byte s).number + size + 1) (s.number + (size + 1) + 1) (on (space byte s)).ending
    (omega (arith, closed_number s.open_word s)) (h (space byte s))
look_by WordByte byte size s on h =
    later ((word_byte byte s).number + size + 1) (s.number + (size + 1) + 1) (on (word_byte byte s)).ending
    (omega (arith, word_number s.in_comment (byte == 35 && is_empty s.open_word) byte s)) (h (word_byte byte s))
look_by ForbiddenByte byte size s on h = tt

lex_by : (text : List ℕ) (s : Scan) → EndsBy (s.number + length text + 1) (lex_on s text).ending
unfolding lex_on look_at ends next_line
lex_by [] s = add_by (close_word s) (ends (Whole (next_line s))) (s.number + 0 + 1) (omega (arith, next_by (s.column == 1) s.number))
lex_by (b ∷ bs) s =
    later (s.number + (length bs + 1) + 1) (s.number + length (b ∷ bs) + 1) (lex_on s (b ∷ bs)).ending (omega arith)
    (look_by (class_of b (begins_with 10 bs) s.column) b (length bs) s (λ t. lex_on t bs) (λ t. lex_by bs t))

pub next_within : (text : List ℕ) (next : ℕ) → (lexed text).ending ≡ Whole next → next ≤ length text + 2
unfolding lexed line_start
next_within text next e =
    let by : EndsBy (1 + length text + 1) (lexed text).ending = lex_by text (line_start 1) in
    let b : EndsBy (1 + length text + 1) (Whole next) = subst (EndsBy (1 + length text + 1)) e by in
    omega arith
