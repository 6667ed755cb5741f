-- A text read from another line number on.
use Rattle.std.proofs.Common.{◌≡◌, ◌∙◌, refl, ap, ℕ, ◌+◌, Bool, true, false, List, [], ◌∷◌, arith}
use Rattle.std.specs.Prelude.{cond, ◌&&◌, ◌==◌}
use Rattle.word_model.specs.Numbers.{begins_with}
use Rattle.script_model.specs.Readers.{is_empty}
use Rattle.script_model.specs.Lexing.{Word, Scan, Lexed, Whole, line_start, word_closed, close_word, passed, space, word_byte_in, word_byte, line_before, add_line, ends, ByteClass, LineFeedByte, LongByte, SpaceByte, WordByte, ForbiddenByte, class_of, look_as, look_at, next_line, lex_on}
use Rattle.script_model.specs.Shifts.{all_renumbered}

-- the scan of the same bytes in a later line
abbrev on : ℕ → Scan → Scan
on lines s = record s { number = s.number + lines }

closed_on : (begun : List ℕ) (lines : ℕ) (s : Scan) → word_closed begun (on lines s) ≡ on lines (word_closed begun s)
unfolding word_closed
closed_on [] lines s = refl
closed_on (x ∷ xs) lines s = refl

close_on : (lines : ℕ) (s : Scan) → close_word (on lines s) ≡ on lines (close_word s)
unfolding close_word
close_on lines s = closed_on s.open_word lines s

word_on : (comment fresh : Bool) (byte lines : ℕ) (s : Scan) → word_byte_in comment fresh byte (on lines s) ≡ on lines (word_byte_in comment fresh byte s)
unfolding word_byte_in passed
word_on true fresh byte lines s = refl
word_on false true byte lines s = refl
word_on false false byte lines s = refl

before_on : (words : List Word) (lines : ℕ) (s : Scan) (lexed : Lexed) → line_before words (on lines s) (all_renumbered lines lexed) ≡ all_renumbered lines (line_before words s lexed)
unfolding line_before
before_on [] lines s lexed = refl
before_on (w ∷ ws) lines s lexed = refl

add_on : (lines : ℕ) (s : Scan) (lexed : Lexed) → add_line (close_word (on lines s)) (all_renumbered lines lexed) ≡ all_renumbered lines (add_line (close_word s) lexed)
unfolding add_line
add_on lines s lexed =
    ap (λ (t : Scan). line_before t.words t (all_renumbered lines lexed)) (close_on lines s) ∙ before_on (close_word s).words lines (close_word s) lexed

start_on : (lines number : ℕ) → line_start (number + lines + 1) ≡ on lines (line_start (number + 1))
unfolding line_start
start_on lines number = ap line_start (omega arith)

look_on : (class : ByteClass) (byte lines : ℕ) (s : Scan) (near far : Scan → Lexed) → ((t : Scan) → far (on lines t) ≡ all_renumbered lines (near t)) →
    look_as class byte (on lines s) far ≡ all_renumbered lines (look_as class byte s near)
unfolding look_as space word_byte passed ends
look_on LineFeedByte byte lines s near far alike =
    ap (λ (x : Lexed). add_line (close_word (on lines s)) x) (ap far (start_on lines s.number) ∙ alike (line_start (s.number + 1)))
    ∙ add_on lines s (near (line_start (s.number + 1)))
look_on LongByte byte lines s near far alike = refl
look_on SpaceByte byte lines s near far alike = ap (λ (t : Scan). far (passed byte t)) (close_on lines s) ∙ alike (space byte s)
look_on WordByte byte lines s near far alike = ap far (word_on s.in_comment (byte == 35 && is_empty s.open_word) byte lines s) ∙ alike (word_byte byte s)
look_on ForbiddenByte byte lines s near far alike = refl

next_on : (first : Bool) (number lines : ℕ) → cond first (number + lines) (number + lines + 1) ≡ cond first number (number + 1) + lines
next_on true number lines = refl
next_on false number lines = omega arith

lex_later : (text : List ℕ) (lines : ℕ) (s : Scan) → lex_on (on lines s) text ≡ all_renumbered lines (lex_on s text)
unfolding lex_on look_at ends next_line
lex_later [] lines s =
    ap (λ (n : ℕ). add_line (close_word (on lines s)) (ends (Whole n))) (next_on (s.column == 1) s.number lines)
    ∙ add_on lines s (ends (Whole (next_line s)))
lex_later (b ∷ bs) lines s =
    look_on (class_of b (begins_with 10 bs) s.column) b lines s (λ t. lex_on t bs) (λ t. lex_on t bs) (lex_later bs lines)

pub read_later : (number lines : ℕ) (text : List ℕ) → lex_on (line_start (number + lines)) text ≡ all_renumbered lines (lex_on (line_start number) text)
unfolding line_start
read_later number lines text = lex_later text lines (line_start number)
