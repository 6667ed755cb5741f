-- The lexer gives the lines of a printed text with their numbers. What it does at one line is a law of the language, which
-- stands here as a premise.
use Rattle.std.proofs.Common.{◌≡◌, ◌∙◌, refl, sym, ap, ℕ, zero, suc, ◌+◌, ◌-◌, ◌<◌, ◌≤◌, Bool, true, false, List, [], ◌∷◌, ◌++◌, length, arith, append_assoc, append-nil}
use Rattle.std.specs.Prelude.{cond, map, replicate}
use Rattle.std.specs.List.{list_all}
use Rattle.text_io.specs.declared.kinds.LimitKind.TheVariants as limits
use Rattle.text_io.specs.Limits.{common_limit}
use Rattle.script_model.specs.Lexing.{Word, Whole, Lexed, line_start, ends, lex_on}
use Rattle.script_model.specs.Lines.{is_line_byte, runs_from, before_comment, words_of, row_of, line_with}
use Rattle.script_model.proofs.LineEnds.{nothing_more}
use Rattle.script_text.specs.NumberedLines.{NumberedLine}
use Rattle.script_text.specs.ScriptText.{line_text, lines_text}
use Rattle.script_text.specs.WellFormed.{Rise, AreShort}
use Rattle.script_text.proofs.LineWords.{IsLine, line_of}

-- a line feed ends a line
abbrev pub LineFeedLaw : Type 0
LineFeedLaw = (number : ℕ) (line rest : List ℕ) → list_all is_line_byte line ≡ true → length line ≤ common_limit limits.Line
    → lex_on (line_start number) (line ++ (10 ∷ rest)) ≡ line_with (words_of line) number line (lex_on (line_start (number + 1)) rest)

-- a last line needs none
abbrev pub LastLineLaw : Type 0
LastLineLaw = (number : ℕ) (line : List ℕ) → list_all is_line_byte line ≡ true → length line ≤ common_limit limits.Line → 0 < length line
    → lex_on (line_start number) line ≡ lex_on (line_start number) (line ++ (10 ∷ []))

pub no_words : words_of [] ≡ []
unfolding words_of runs_from before_comment
no_words = refl

pub no_line : (number : ℕ) (lexed : Lexed) → line_with [] number [] lexed ≡ lexed
unfolding line_with
no_line number lexed = refl

empty_line : LineFeedLaw → (number : ℕ) (rest : List ℕ) → lex_on (line_start number) (10 ∷ rest) ≡ lex_on (line_start (number + 1)) rest
empty_line law number rest =
    let behind : Lexed = lex_on (line_start (number + 1)) rest in
    law number [] rest refl (omega arith) ∙ ap (λ (ws : List Word). line_with ws number [] behind) no_words ∙ no_line number behind

empty_lines : LineFeedLaw → (lines number : ℕ) (rest : List ℕ) → lex_on (line_start number) (replicate lines 10 ++ rest) ≡ lex_on (line_start (number + lines)) rest
empty_lines law zero number rest = ap (λ n. lex_on (line_start n) rest) (omega arith)
empty_lines law (suc lines) number rest =
    empty_line law number (replicate lines 10 ++ rest) ∙ empty_lines law lines (number + 1) rest ∙ ap (λ n. lex_on (line_start n) rest) (omega arith)

-- a line with words stands before what follows
one_line : (l : NumberedLine) (lexed : Lexed) → IsLine (line_text l.words)
    → line_with (words_of (line_text l.words)) l.number (line_text l.words) lexed ≡ record lexed { lines = line_of l ∷ lexed.lines }
unfolding line_of line_with
one_line l lexed is =
    let text : List ℕ = line_text l.words in
    ap (λ (ws : List Word). line_with ws l.number text lexed) is.words_are
    ∙ ap (λ (ws : List Word). record lexed { lines = record { number = l.number; row = row_of ws text } ∷ lexed.lines }) (sym is.words_are)

unfoldable pub AreLines : List NumberedLine → Type 0
AreLines [] = Unit {0}
AreLines (l ∷ ls) = IsLine (line_text l.words) × AreLines ls

unfoldable pub last_of : NumberedLine → List NumberedLine → ℕ
last_of l [] = l.number
last_of l (m ∷ ms) = last_of m ms

-- these lines, and the text ends
abbrev pub lines_lexed : NumberedLine → List NumberedLine → Lexed
lines_lexed l ls = record { lines = line_of l ∷ map line_of ls; ending = Whole (last_of l ls + 1) }

one_end : (l : NumberedLine) → record (ends (Whole (l.number + 1))) { lines = line_of l ∷ (ends (Whole (l.number + 1))).lines } ≡ record { lines = line_of l ∷ []; ending = Whole (l.number + 1) }
unfolding ends
one_end l = refl

fed_read : LineFeedLaw → (l : NumberedLine) → IsLine (line_text l.words) → length (line_text l.words) ≤ common_limit limits.Line
    → lex_on (line_start l.number) (line_text l.words ++ (10 ∷ [])) ≡ record { lines = line_of l ∷ []; ending = Whole (l.number + 1) }
fed_read law l is short =
    law l.number (line_text l.words) [] is.bytes short
    ∙ ap (line_with (words_of (line_text l.words)) l.number (line_text l.words)) (nothing_more (l.number + 1))
    ∙ one_line l (ends (Whole (l.number + 1))) is ∙ one_end l

tail_read : LineFeedLaw → LastLineLaw → (fed : Bool) (l : NumberedLine) → IsLine (line_text l.words) → length (line_text l.words) ≤ common_limit limits.Line
    → lex_on (line_start l.number) (line_text l.words ++ cond fed (10 ∷ []) []) ≡ record { lines = line_of l ∷ []; ending = Whole (l.number + 1) }
tail_read law last true l is short = fed_read law l is short
tail_read law last false l is short =
    ap (lex_on (line_start l.number)) (append-nil (line_text l.words)) ∙ last l.number (line_text l.words) is.bytes short is.some_byte ∙ fed_read law l is short

behind_text : (number : ℕ) (l : NumberedLine) (ls : List NumberedLine) → number < l.number
    → lines_text number (l ∷ ls) ≡ 10 ∷ (replicate (l.number - number - 1) 10 ++ (line_text l.words ++ lines_text l.number ls))
unfolding lines_text
behind_text number l ls h =
    let e : l.number - number ≡ suc (l.number - number - 1) = omega arith in
    ap (λ n. replicate n 10 ++ (line_text l.words ++ lines_text l.number ls)) e

none_behind : (number : ℕ) → lines_text number [] ≡ []
unfolding lines_text
none_behind number = refl

pub lines_read : LineFeedLaw → LastLineLaw → (fed : Bool) (l : NumberedLine) (ls : List NumberedLine) → AreLines (l ∷ ls) → AreShort (l ∷ ls) → Rise l.number ls
    → lex_on (line_start l.number) (line_text l.words ++ (lines_text l.number ls ++ cond fed (10 ∷ []) [])) ≡ lines_lexed l ls
unfolding AreLines AreShort Rise last_of
lines_read law last fed l [] are short rise =
    ap (λ (t : List ℕ). lex_on (line_start l.number) (line_text l.words ++ (t ++ cond fed (10 ∷ []) []))) (none_behind l.number)
    ∙ tail_read law last fed l are.0 short.0
lines_read law last fed l (m ∷ ms) are short rise =
    let tail : List ℕ = cond fed (10 ∷ []) [] in
    let blank : ℕ = m.number - l.number - 1 in
    let next : List ℕ = line_text m.words ++ (lines_text m.number ms ++ tail) in
    let behind : List ℕ = replicate blank 10 ++ next in
    let text : lines_text l.number (m ∷ ms) ++ tail ≡ 10 ∷ behind =
    ap (λ (t : List ℕ). t ++ tail) (behind_text l.number m ms rise.0)
    ∙ ap (λ (t : List ℕ). 10 ∷ t) (append_assoc (replicate blank 10) (line_text m.words ++ lines_text m.number ms) tail)
    ∙ ap (λ (t : List ℕ). 10 ∷ (replicate blank 10 ++ t)) (append_assoc (line_text m.words) (lines_text m.number ms) tail) in
    let number : l.number + 1 + blank ≡ m.number = omega (arith, rise.0) in
    ap (λ (t : List ℕ). lex_on (line_start l.number) (line_text l.words ++ t)) text
    ∙ law l.number (line_text l.words) behind are.0.bytes short.0
    ∙ ap (line_with (words_of (line_text l.words)) l.number (line_text l.words))
    (empty_lines law blank (l.number + 1) next ∙ ap (λ n. lex_on (line_start n) next) number ∙ lines_read law last fed m ms are.1 short.1 rise.1)
    ∙ one_line l (lines_lexed m ms) are.0
