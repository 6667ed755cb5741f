-- The scan over one line's bytes finds the line's words.
use Rattle.std.proofs.Common.{◌≡◌, ◌∙◌, refl, ap, ℕ, ◌+◌, ◌≤◌, Bool, true, false, List, [], ◌∷◌, ◌++◌, length, arith}
use Rattle.std.specs.Prelude.{cond}
use Rattle.std.specs.List.{list_all}
use Rattle.std.proofs.lemmas.Bool.{and_parts}
use Rattle.std.proofs.lemmas.Bool.Decides.{nat_tests}
use Rattle.word_model.specs.Numbers.{begins_with}
use Rattle.script_model.specs.Lexing.{Scan, Lexed, line_start, word_closed, close_word, passed, space, word_byte_in, word_byte, add_line, ByteClass, WordByte, SpaceByte, class_of, look_as, look_at, lex_on}
use Rattle.script_model.specs.Lines.{is_word_byte, is_line_byte}

-- the scan after one byte of a line, and after many
unfoldable pub one : ℕ → Scan → Scan
unfolding space word_byte
one b s = cond (is_word_byte b) (word_byte b s) (space b s)

unfoldable pub over : List ℕ → Scan → Scan
unfolding one
over [] s = s
over (b ∷ bs) s = over bs (one b s)

class_in_line : (b column : ℕ) (feed_next : Bool) → is_line_byte b ≡ true → column ≤ 4096 → class_of b feed_next column ≡ cond (is_word_byte b) WordByte SpaceByte
unfolding class_of
class_in_line b column feed_next h bound = grind (arith, nat_tests)

looked : (is_word : Bool) (b : ℕ) (s : Scan) (on : Scan → Lexed) → look_as (cond is_word WordByte SpaceByte) b s on ≡ on (cond is_word (word_byte b s) (space b s))
unfolding look_as
looked true b s on = refl
looked false b s on = refl

-- so many bytes on in the same line
pub record Goes (bytes : ℕ) (s t : Scan) : Type 0 where
  pub number : t.number ≡ s.number
  pub column : t.column ≡ s.column + bytes

word_goes : (comment fresh : Bool) (b : ℕ) (s : Scan) → Goes 1 s (word_byte_in comment fresh b s)
unfolding word_byte_in passed
word_goes true fresh b s = record { number = refl; column = refl }
word_goes false true b s = record { number = refl; column = refl }
word_goes false false b s = record { number = refl; column = refl }

space_goes : (begun : List ℕ) (b : ℕ) (s : Scan) → Goes 1 s (passed b (word_closed begun s))
unfolding word_closed passed
space_goes [] b s = record { number = refl; column = refl }
space_goes (x ∷ xs) b s = record { number = refl; column = refl }

either_goes : (is_word : Bool) (b : ℕ) (s : Scan) → Goes 1 s (cond is_word (word_byte b s) (space b s))
unfolding word_byte space close_word
either_goes true b s = word_goes _ _ b s
either_goes false b s = space_goes _ b s

one_goes : (b : ℕ) (s : Scan) → Goes 1 s (one b s)
unfolding one
one_goes b s = either_goes (is_word_byte b) b s

pub passed_over : (line rest : List ℕ) (s : Scan) → list_all is_line_byte line ≡ true → s.column + length line ≤ 4097 → lex_on s (line ++ rest) ≡ lex_on (over line s) rest
unfolding lex_on look_at over
passed_over [] rest s h bound = refl
passed_over (b ∷ bs) rest s h bound =
    let parts = and_parts _ _ h in
    let goes = one_goes b s in
    let on : Scan → Lexed = λ t. lex_on t (bs ++ rest) in
    ap (λ (c : ByteClass). look_as c b s on) (class_in_line b s.column (begins_with 10 (bs ++ rest)) parts.0 (omega arith))
    ∙ looked (is_word_byte b) b s on
    ∙ passed_over bs rest (one b s) parts.1 (omega (arith, goes.column))

-- the numbers of the scan after a line
pub over_goes : (line : List ℕ) (s : Scan) → Goes (length line) s (over line s)
unfolding over
over_goes [] s = record { number = refl; column = omega arith }
over_goes (b ∷ bs) s =
    let first = one_goes b s in
    let others = over_goes bs (one b s) in
    record { number = others.number ∙ first.number; column = omega (arith, first.column, others.column) }

-- a line feed after a line
pub fed : (s : Scan) (rest : List ℕ) → lex_on s (10 ∷ rest) ≡ add_line (close_word s) (lex_on (line_start (s.number + 1)) rest)
unfolding lex_on look_at look_as class_of
fed s rest = refl

return_class : (column : ℕ) → column ≤ 4096 → class_of 13 true column ≡ SpaceByte
unfolding class_of
return_class column h = grind (arith, nat_tests)

-- a carriage return and a line feed
pub returned : (s : Scan) (rest : List ℕ) → s.column ≤ 4096 → lex_on s (13 ∷ 10 ∷ rest) ≡ lex_on (space 13 s) (10 ∷ rest)
unfolding lex_on look_at look_as begins_with
returned s rest h = ap (λ (c : ByteClass). look_as c 13 s (λ t. lex_on t (10 ∷ rest))) (return_class s.column h)
