-- How a text ends: after a last line, at a byte that no line may have, or at a line's 4,097th byte.
use Rattle.std.proofs.Common.{◌≡◌, ◌∙◌, refl, sym, ap, ℕ, ◌+◌, ◌<◌, ◌≤◌, Bool, true, false, List, [], ◌∷◌, ◌++◌, length, arith}
use Rattle.std.specs.Prelude.{cond, ◌&&◌, ◌==◌, ◌-◌}
use Rattle.std.specs.List.{list_all}
use Rattle.std.proofs.lemmas.Bool.{ne_eqb, and_parts}
use Rattle.std.proofs.lemmas.List.{append-nil, length-append, take-append-le}
use Rattle.std.proofs.lemmas.List.Folds.{list_all-append}
use Rattle.std.proofs.lemmas.Bool.Decides.{nat_tests}
use Rattle.word_model.specs.Numbers.{begins_with}
use Rattle.script_model.specs.Lexing.{Word, Scan, Lexed, Whole, BadByte, LongLine, line_start, word_closed, close_word, line_before, add_line, ends, ByteClass, LongByte, ForbiddenByte, class_of, look_as, look_at, next_line, lex_on, lexed}
use Rattle.script_model.specs.Lines.{is_line_byte, words_of, after_words, row_of, line_with}
use Rattle.script_model.specs.Shifts.{all_renumbered}
use Rattle.script_model.proofs.LineScan.{over, over_goes, passed_over, fed}
use Rattle.script_model.proofs.LineLaw.{line_is_read, words_end}
use Rattle.script_model.proofs.Spaces.{commented}
use Rattle.script_model.proofs.LineNumbers.{read_later}

-- no text after a line feed
pub nothing_more : (number : ℕ) → lex_on (line_start number) [] ≡ ends (Whole number)
unfolding lex_on line_start add_line line_before close_word word_closed next_line
nothing_more number = refl

at_end : (s : Scan) → lex_on s [] ≡ add_line (close_word s) (ends (Whole (next_line s)))
unfolding lex_on
at_end s = refl

next_after : (number : ℕ) (s : Scan) → s.number ≡ number → 1 < s.column → next_line s ≡ number + 1
unfolding next_line
next_after number s e h = ap (λ (first : Bool). cond first s.number (s.number + 1)) (ne_eqb s.column 1 (λ f. omega arith)) ∙ ap (λ (n : ℕ). n + 1) e

pub last_line_is_read : (number : ℕ) (line : List ℕ) → list_all is_line_byte line ≡ true → length line ≤ 4096 → 0 < length line →
    lex_on (line_start number) line ≡ lex_on (line_start number) (line ++ (10 ∷ []))
unfolding line_start
last_line_is_read number line all short some_byte =
    let u : Scan = over line (line_start number) in
    let goes = over_goes line (line_start number) in
    ap (lex_on (line_start number)) (sym (append-nil line))
    ∙ passed_over line [] (line_start number) all (omega arith)
    ∙ at_end u
    ∙ ap (λ (n : ℕ). add_line (close_word u) (ends (Whole n))) (next_after number u goes.number (omega (arith, goes.column)))
    ∙ ap (add_line (close_word u)) (sym (nothing_more (number + 1)))
    ∙ ap (λ (n : ℕ). add_line (close_word u) (lex_on (line_start (n + 1)) [])) (sym goes.number)
    ∙ sym (fed u [])
    ∙ sym (passed_over line (10 ∷ []) (line_start number) all (omega arith))

look_ends : (s : Scan) (b : ℕ) (rest : List ℕ) (class : ByteClass) → class_of b (begins_with 10 rest) s.column ≡ class → lex_on s (b ∷ rest) ≡ look_as class b s (λ t. lex_on t rest)
unfolding lex_on look_at
look_ends s b rest class e = ap (λ (c : ByteClass). look_as c b s (λ t. lex_on t rest)) e

forbidden_class : (b column : ℕ) (feed_next : Bool) → is_line_byte b ≡ false → (b == 10) ≡ false → ((b == 13) && feed_next) ≡ false → column ≤ 4096 → class_of b feed_next column ≡ ForbiddenByte
unfolding class_of
forbidden_class b column feed_next e f g h = grind (arith, nat_tests)

long_class : (b column : ℕ) (feed_next : Bool) → (b == 10) ≡ false → 4096 < column → class_of b feed_next column ≡ LongByte
unfolding class_of
long_class b column feed_next f h = grind (arith, nat_tests)

bad_here : (number column : ℕ) (b : ℕ) (s : Scan) (on : Scan → Lexed) → s.number ≡ number → s.column ≡ column → look_as ForbiddenByte b s on ≡ ends (BadByte number column)
unfolding look_as
bad_here number column b s on e f = ap (λ (n : ℕ). ends (BadByte n s.column)) e ∙ ap (λ (c : ℕ). ends (BadByte number c)) f

long_here : (number : ℕ) (b : ℕ) (s : Scan) (on : Scan → Lexed) → s.number ≡ number → look_as LongByte b s on ≡ ends (LongLine number)
unfolding look_as
long_here number b s on e = ap (λ (n : ℕ). ends (LongLine n)) e

pub bad_byte_ends : (number : ℕ) (line : List ℕ) (b : ℕ) (rest : List ℕ) → list_all is_line_byte line ≡ true → length line < 4096 →
    is_line_byte b ≡ false → (b == 10) ≡ false → ((b == 13) && begins_with 10 rest) ≡ false →
    lex_on (line_start number) (line ++ (b ∷ rest)) ≡ ends (BadByte number (length line + 1))
unfolding line_start
bad_byte_ends number line b rest all short e f g =
    let u : Scan = over line (line_start number) in
    let goes = over_goes line (line_start number) in
    passed_over line (b ∷ rest) (line_start number) all (omega arith)
    ∙ look_ends u b rest ForbiddenByte (forbidden_class b u.column (begins_with 10 rest) e f g (omega (arith, goes.column)))
    ∙ bad_here number (length line + 1) b u _ goes.number (omega (arith, goes.column))

pub long_line_ends : (number : ℕ) (line : List ℕ) (b : ℕ) (rest : List ℕ) → list_all is_line_byte line ≡ true → length line ≡ 4096 → (b == 10) ≡ false →
    lex_on (line_start number) (line ++ (b ∷ rest)) ≡ ends (LongLine number)
unfolding line_start
long_line_ends number line b rest all long f =
    let u : Scan = over line (line_start number) in
    let goes = over_goes line (line_start number) in
    passed_over line (b ∷ rest) (line_start number) all (omega arith)
    ∙ look_ends u b rest LongByte (long_class b u.column (begins_with 10 rest) f (omega (arith, goes.column)))
    ∙ long_here number b u _ goes.number

-- a line without words
wordless_line : (line : List ℕ) (lexed : Lexed) → words_of line ≡ [] → line_with (words_of line) 1 line lexed ≡ lexed
unfolding line_with
wordless_line line lexed e = ap (λ ws. line_with ws 1 line lexed) e

pub wordless_is_passed : (line rest : List ℕ) → list_all is_line_byte line ≡ true → length line ≤ 4096 → words_of line ≡ [] → lexed (line ++ (10 ∷ rest)) ≡ all_renumbered 1 (lexed rest)
unfolding lexed
wordless_is_passed line rest all short e = line_is_read 1 line rest all short ∙ wordless_line line _ e ∙ read_later 1 1 rest

-- ---- a comment

same_row : (words : List Word) (number : ℕ) (line more : List ℕ) (lexed : Lexed) → after_words 1 words ≤ 1 + length line → line_with words number (line ++ more) lexed ≡ line_with words number line lexed
unfolding line_with row_of
same_row [] number line more lexed h = refl
same_row (w ∷ ws) number line more lexed h =
    ap (λ (bytes : List ℕ). record lexed { lines = record { number = number; row = record { left = w ∷ ws; after = after_words 1 (w ∷ ws); bytes = bytes } } ∷ lexed.lines })
    (take-append-le (after_words 1 (w ∷ ws) - 1) line more (omega arith))

pub comment_is_passed : (number : ℕ) (line comment rest : List ℕ) → list_all is_line_byte (line ++ (32 ∷ 35 ∷ comment)) ≡ true → length (line ++ (32 ∷ 35 ∷ comment)) ≤ 4096 →
    lex_on (line_start number) ((line ++ (32 ∷ 35 ∷ comment)) ++ (10 ∷ rest)) ≡ lex_on (line_start number) (line ++ (10 ∷ rest))
comment_is_passed number line comment rest all short =
    let shorter = length-append line (32 ∷ 35 ∷ comment) in
    line_is_read number (line ++ (32 ∷ 35 ∷ comment)) rest all short
    ∙ ap (λ (ws : List Word). line_with ws number (line ++ (32 ∷ 35 ∷ comment)) (lex_on (line_start (number + 1)) rest)) (commented line comment)
    ∙ same_row (words_of line) number line (32 ∷ 35 ∷ comment) _ (words_end line)
    ∙ sym (line_is_read number line rest (and_parts _ _ (sym (list_all-append is_line_byte line (32 ∷ 35 ∷ comment)) ∙ all)).0 (omega arith))
