-- The lines that the lexer gives of a text that it reads to its end. What it does at one line is a law of the language, which
-- stands here as a premise.
use Rattle.std.proofs.Common.{◌≡◌, ◌∙◌, refl, sym, ap, ℕ, ◌+◌, ◌<◌, ◌≤◌, Bool, true, false, not, ◌&&◌, ◌==◌, nat_lt, List, [], ◌∷◌, ◌++◌, length, arith, subst, append_assoc, append-nil, length-append, ltb-true, ltb-false, eqb-true}
use Rattle.std.specs.List.{list_all}
use Rattle.std.proofs.lemmas.Bool.{and_from, and_parts}
use Rattle.std.proofs.lemmas.Bool.Decides.{nat_tests}
use Rattle.std.proofs.lemmas.List.Folds.{list_all-append}
use Rattle.word_model.specs.Numbers.{begins_with}
use Rattle.text_io.specs.declared.kinds.LimitKind.TheVariants as limits
use Rattle.text_io.specs.Limits.{common_limit}
use Rattle.script_model.specs.Lexing.{Word, Line, BadByte, LongLine, Whole, Lexed, line_start, ends, lex_on, lexed}
use Rattle.script_model.specs.Lines.{is_line_byte, words_of, row_of, line_with}
use Rattle.script_model.proofs.LineEnds.{nothing_more}
use Rattle.script_text.proofs.WordBytes.{all_bytes}
use Rattle.script_text.proofs.TextLines.{LineFeedLaw, LastLineLaw, no_words, no_line}
use Rattle.script_text.proofs.LinesHeld.{TextLine, Wordless, Worded, fed, lines_behind, AreFeedless, AreTextLines}
use Rattle.script_text.proofs.StepsKept.{IsWhole}

-- a carriage return before a line feed belongs to no word
abbrev pub ReturnLaw : Type 0
ReturnLaw = (number : ℕ) (line rest : List ℕ) → list_all is_line_byte line ≡ true → length line < common_limit limits.Line
    → lex_on (line_start number) (line ++ (13 ∷ 10 ∷ rest)) ≡ line_with (words_of line) number line (lex_on (line_start (number + 1)) rest)

-- a byte that no line may have ends the reading
abbrev pub BadByteLaw : Type 0
BadByteLaw = (number : ℕ) (line : List ℕ) (byte : ℕ) (rest : List ℕ) → list_all is_line_byte line ≡ true → length line < common_limit limits.Line
    → is_line_byte byte ≡ false → (byte == 10) ≡ false → ((byte == 13) && begins_with 10 rest) ≡ false
    → lex_on (line_start number) (line ++ (byte ∷ rest)) ≡ ends (BadByte number (length line + 1))

-- and so does a byte that a line has too many
abbrev pub LongLineLaw : Type 0
LongLineLaw = (number : ℕ) (line : List ℕ) (byte : ℕ) (rest : List ℕ) → list_all is_line_byte line ≡ true → length line ≡ common_limit limits.Line
    → (byte == 10) ≡ false → lex_on (line_start number) (line ++ (byte ∷ rest)) ≡ ends (LongLine number)

pub record LineLaws : Type 0 where
  pub line_feed : LineFeedLaw
  pub last_line : LastLineLaw
  pub returned : ReturnLaw
  pub bad_byte : BadByteLaw
  pub long_line : LongLineLaw

-- what was lexed are the lines of the text behind the line of this number
pub record IsLexed (number : ℕ) (text : List ℕ) (lexed : Lexed) : Type 0 where
  pub lines : List TextLine
  pub text_is : fed lines ≡ 10 ∷ text
  pub lines_are : lexed.lines ≡ lines_behind number lines
  pub good : AreTextLines lines

-- One line before others.

feedless : (b : ℕ) → is_line_byte b ≡ true → not (b == 10) ≡ true
feedless b h = grind (arith, nat_tests)

line_feedless : (line : List ℕ) → list_all is_line_byte line ≡ true → AreFeedless line
line_feedless line h = all_bytes is_line_byte (λ b. not (b == 10)) feedless line h

returned_feedless : (line : List ℕ) → list_all is_line_byte line ≡ true → AreFeedless (line ++ (13 ∷ []))
returned_feedless line h = list_all-append (λ b. not (b == 10)) line (13 ∷ []) ∙ and_from _ _ (line_feedless line h) refl

whole_behind : (words : List Word) (number : ℕ) (line : List ℕ) (lexed : Lexed) → IsWhole (line_with words number line lexed).ending → IsWhole lexed.ending
unfolding line_with
whole_behind [] number line lexed h = h
whole_behind (w ∷ ws) number line lexed h = h

-- the line stands before lines that were lexed
line_before : (words : List Word) (number : ℕ) (bytes line : List ℕ) (lexed : Lexed) (lines : List TextLine) → words_of line ≡ words → AreFeedless bytes → length bytes ≤ 4096 → length line ≤ length bytes
    → lexed.lines ≡ lines_behind (number + 1) lines → AreTextLines lines → (text : List ℕ) → bytes ++ fed lines ≡ text → IsLexed number text (line_with words (number + 1) line lexed)
unfolding line_with
line_before [] number bytes line lexed lines e feeds short no_longer are good text is = record {
  lines = Wordless bytes ∷ lines;
  text_is = ap (λ (t : List ℕ). 10 ∷ t) is;
  lines_are = are;
  good = (feeds, good);
}
line_before (w ∷ ws) number bytes line lexed lines e feeds short no_longer are good text is = record {
  lines = Worded bytes line ∷ lines;
  text_is = ap (λ (t : List ℕ). 10 ∷ t) is;
  lines_are = ap (λ (ls : List Line). record { number = number + 1; row = row_of (w ∷ ws) line } ∷ ls) are
      ∙ ap (λ (us : List Word). record { number = number + 1; row = row_of us line } ∷ lines_behind (number + 1) lines) (sym e);
  good = ((feeds, short, no_longer), good);
}

behind_line : (number : ℕ) (bytes line rest : List ℕ) (lexed : Lexed) → AreFeedless bytes → length bytes ≤ 4096 → length line ≤ length bytes → IsLexed (number + 1) rest lexed
    → IsLexed number (bytes ++ (10 ∷ rest)) (line_with (words_of line) (number + 1) line lexed)
behind_line number bytes line rest lexed feeds short no_longer is =
    line_before (words_of line) number bytes line lexed is.lines refl feeds short no_longer is.lines_are is.good (bytes ++ (10 ∷ rest)) (ap (λ (t : List ℕ). bytes ++ t) is.text_is)

last_alone : (number : ℕ) (line : List ℕ) (next : ℕ) → list_all is_line_byte line ≡ true → length line ≤ 4096 → IsLexed number line (line_with (words_of line) (number + 1) line (ends (Whole next)))
unfolding ends
last_alone number line next all short =
    line_before (words_of line) number line line (ends (Whole next)) [] refl (line_feedless line all) short (omega arith) refl tt line (append-nil line)

-- The bytes from any place of a line on: those before it in its line are line bytes.

abbrev pub LexesFrom : List ℕ → Type 0
LexesFrom text = (before : List ℕ) (number : ℕ) → list_all is_line_byte before ≡ true → length before ≤ 4096
    → IsWhole (lex_on (line_start (number + 1)) (before ++ text)).ending → IsLexed number (before ++ text) (lex_on (line_start (number + 1)) (before ++ text))

-- where a line and its line feed stand, and the rest is lexed
line_lexed : (number : ℕ) (bytes line rest text : List ℕ) → bytes ++ (10 ∷ rest) ≡ text → AreFeedless bytes → length bytes ≤ 4096 → length line ≤ length bytes
    → lex_on (line_start (number + 1)) text ≡ line_with (words_of line) (number + 1) line (lex_on (line_start (number + 1 + 1)) rest) → LexesFrom rest
    → IsWhole (lex_on (line_start (number + 1)) text).ending → IsLexed number text (lex_on (line_start (number + 1)) text)
line_lexed number bytes line rest text is feeds short no_longer e lexes whole =
    let behind : Lexed = lex_on (line_start (number + 1 + 1)) rest in
    let more : IsLexed (number + 1) rest behind =
    lexes [] (number + 1) refl (omega arith) (whole_behind (words_of line) (number + 1) line behind (subst (λ (l : Lexed). IsWhole l.ending) e whole)) in
    subst (IsLexed number text) (sym e) (subst (λ t. IsLexed number t (line_with (words_of line) (number + 1) line behind)) is (behind_line number bytes line rest behind feeds short no_longer more))

no_bytes : LineLaws → LexesFrom []
no_bytes laws [] number all short whole =
    subst (IsLexed number [])
    (ap (λ (ws : List Word). line_with ws (number + 1) [] (ends (Whole (number + 1)))) no_words ∙ no_line (number + 1) (ends (Whole (number + 1))) ∙ sym (nothing_more (number + 1))) (last_alone number [] (number + 1) refl (omega arith))
no_bytes laws (b ∷ bs) number all short whole =
    let line : List ℕ = b ∷ bs in
    let e : lex_on (line_start (number + 1)) (line ++ []) ≡ line_with (words_of line) (number + 1) line (ends (Whole (number + 1 + 1))) =
    ap (lex_on (line_start (number + 1))) (append-nil line) ∙ laws.last_line (number + 1) line all short (omega arith)
    ∙ laws.line_feed (number + 1) line [] all short ∙ ap (line_with (words_of line) (number + 1) line) (nothing_more (number + 1 + 1)) in
    subst (IsLexed number (line ++ [])) (sym e)
    (subst (λ t. IsLexed number t (line_with (words_of line) (number + 1) line (ends (Whole (number + 1 + 1))))) (sym (append-nil line)) (last_alone number line (number + 1 + 1) all short))

feed_byte : LineLaws → (b : ℕ) (bs : List ℕ) → b ≡ 10 → LexesFrom bs → LexesFrom (b ∷ bs)
feed_byte laws b bs e on before number all short whole =
    line_lexed number before before bs (before ++ (b ∷ bs)) (ap (λ c. before ++ (c ∷ bs)) (sym e)) (line_feedless before all) short (omega arith)
    (ap (λ c. lex_on (line_start (number + 1)) (before ++ (c ∷ bs))) e ∙ laws.line_feed (number + 1) before bs all short) on whole

long_byte : LineLaws → (b : ℕ) (bs before : List ℕ) (number : ℕ) → (b == 10) ≡ false → list_all is_line_byte before ≡ true → length before ≡ 4096 → IsWhole (lex_on (line_start (number + 1)) (before ++ (b ∷ bs))).ending → ⊥
unfolding ends
long_byte laws b bs before number feed all long whole = subst (λ (l : Lexed). IsWhole l.ending) (laws.long_line (number + 1) before b bs all long feed) whole

line_byte : (b : ℕ) (bs before : List ℕ) (number : ℕ) → is_line_byte b ≡ true → list_all is_line_byte before ≡ true → length before < 4096 → LexesFrom bs
    → IsWhole (lex_on (line_start (number + 1)) (before ++ (b ∷ bs))).ending → IsLexed number (before ++ (b ∷ bs)) (lex_on (line_start (number + 1)) (before ++ (b ∷ bs)))
line_byte b bs before number is all short on =
    subst (λ (t : List ℕ). IsWhole (lex_on (line_start (number + 1)) t).ending → IsLexed number t (lex_on (line_start (number + 1)) t)) (append_assoc before (b ∷ []) bs)
    (on (before ++ (b ∷ [])) number (list_all-append is_line_byte before (b ∷ []) ∙ and_from _ _ all (and_from _ _ is refl)) (omega (arith, length-append before (b ∷ []))))

feed_begins : (bs : List ℕ) → begins_with 10 bs ≡ true → (cs : List ℕ) × (bs ≡ 10 ∷ cs)
unfolding begins_with
feed_begins [] h = absurd cc
feed_begins (c ∷ cs) h = (cs, ap (λ d. d ∷ cs) (eqb-true c 10 h))

returned_byte : LineLaws → (b : ℕ) (bs cs before : List ℕ) (number : ℕ) → b ≡ 13 → bs ≡ 10 ∷ cs → list_all is_line_byte before ≡ true → length before < 4096 → LexesFrom cs
    → IsWhole (lex_on (line_start (number + 1)) (before ++ (b ∷ bs))).ending → IsLexed number (before ++ (b ∷ bs)) (lex_on (line_start (number + 1)) (before ++ (b ∷ bs)))
returned_byte laws b bs cs before number e f all short on whole =
    let long : length (before ++ (13 ∷ [])) ≡ length before + 1 = length-append before (13 ∷ []) in
    let text : before ++ (13 ∷ 10 ∷ cs) ≡ before ++ (b ∷ bs) = ap (λ c. before ++ (c ∷ 10 ∷ cs)) (sym e) ∙ ap (λ (t : List ℕ). before ++ (b ∷ t)) (sym f) in
    line_lexed number (before ++ (13 ∷ [])) before cs (before ++ (b ∷ bs)) (append_assoc before (13 ∷ []) (10 ∷ cs) ∙ text) (returned_feedless before all) (omega arith) (omega arith)
    (ap (lex_on (line_start (number + 1))) (sym text) ∙ laws.returned (number + 1) before cs all short) on whole

bad_byte : LineLaws → (b : ℕ) (bs before : List ℕ) (number : ℕ) → (b == 10) ≡ false → is_line_byte b ≡ false → ((b == 13) && begins_with 10 bs) ≡ false → list_all is_line_byte before ≡ true → length before < 4096
    → IsWhole (lex_on (line_start (number + 1)) (before ++ (b ∷ bs))).ending → ⊥
unfolding ends
bad_byte laws b bs before number feed bad return all short whole = subst (λ (l : Lexed). IsWhole l.ending) (laws.bad_byte (number + 1) before b bs all short bad feed return) whole

-- any byte
next_byte : LineLaws → (b : ℕ) (bs : List ℕ) → LexesFrom bs → ((cs : List ℕ) → bs ≡ 10 ∷ cs → LexesFrom cs) → LexesFrom (b ∷ bs)
next_byte laws b bs on behind before number all short = by_feed (b == 10) refl where
  by_return : (return : Bool) → ((b == 13) && begins_with 10 bs) ≡ return → (b == 10) ≡ false → is_line_byte b ≡ false → length before < 4096
      → IsWhole (lex_on (line_start (number + 1)) (before ++ (b ∷ bs))).ending → IsLexed number (before ++ (b ∷ bs)) (lex_on (line_start (number + 1)) (before ++ (b ∷ bs)))
  by_return true e feed bad h =
      let tests = and_parts (b == 13) (begins_with 10 bs) e in
      let rest = feed_begins bs tests.1 in
      returned_byte laws b bs rest.0 before number (eqb-true b 13 tests.0) rest.1 all h (behind rest.0 rest.1)
  by_return false e feed bad h = λ whole. absurd (bad_byte laws b bs before number feed bad e all h whole)

  by_class : (line : Bool) → is_line_byte b ≡ line → (b == 10) ≡ false → length before < 4096
      → IsWhole (lex_on (line_start (number + 1)) (before ++ (b ∷ bs))).ending → IsLexed number (before ++ (b ∷ bs)) (lex_on (line_start (number + 1)) (before ++ (b ∷ bs)))
  by_class true e feed h = line_byte b bs before number e all h on
  by_class false e feed h = by_return ((b == 13) && begins_with 10 bs) refl feed e h

  by_room : (room : Bool) → nat_lt (length before) 4096 ≡ room → (b == 10) ≡ false
      → IsWhole (lex_on (line_start (number + 1)) (before ++ (b ∷ bs))).ending → IsLexed number (before ++ (b ∷ bs)) (lex_on (line_start (number + 1)) (before ++ (b ∷ bs)))
  by_room true e feed = by_class (is_line_byte b) refl feed (ltb-true (length before) 4096 e)
  by_room false e feed = λ whole. absurd (long_byte laws b bs before number feed all (omega (arith, ltb-false (length before) 4096 e)) whole)

  by_feed : (feed : Bool) → (b == 10) ≡ feed
      → IsWhole (lex_on (line_start (number + 1)) (before ++ (b ∷ bs))).ending → IsLexed number (before ++ (b ∷ bs)) (lex_on (line_start (number + 1)) (before ++ (b ∷ bs)))
  by_feed true e = feed_byte laws b bs (eqb-true b 10 e) on before number all short
  by_feed false e = by_room (nat_lt (length before) 4096) refl e

all_lex : LineLaws → (text : List ℕ) → LexesFrom text
all_lex laws [] = no_bytes laws
all_lex laws (b ∷ []) = next_byte laws b [] (no_bytes laws) (λ cs e. absurd (cc e))
all_lex laws (b ∷ c ∷ cs) = next_byte laws b (c ∷ cs) (all_lex laws (c ∷ cs)) (λ ds e. subst LexesFrom (cc e) (all_lex laws cs))

-- the whole text
pub text_lexed : LineLaws → (text : List ℕ) → IsWhole (lexed text).ending → IsLexed 0 text (lexed text)
unfolding lexed
text_lexed laws text whole = all_lex laws text [] 0 refl (omega arith) whole
