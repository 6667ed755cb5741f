-- A text cut into its lines, those that have words and those that have none; and what follows where each printed line is no
-- longer than the line of its number.
use Rattle.std.proofs.Common.{◌≡◌, ◌∙◌, refl, sym, ap, ℕ, zero, suc, ◌+◌, ◌-◌, ◌≤◌, true, not, ◌==◌, List, [], ◌∷◌, ◌++◌, length, arith, subst, All, length-append}
use Rattle.std.specs.Prelude.{cond, replicate}
use Rattle.std.specs.List.{list_all}
use Rattle.std.proofs.lemmas.Bool.{and_parts}
use Rattle.std.proofs.lemmas.List.Elements.{All-nil, All-cons}
use Rattle.script_model.specs.Lexing.{Line}
use Rattle.script_model.specs.Lines.{words_of, row_of}
use Rattle.script_text.specs.NumberedLines.{NumberedLine}
use Rattle.script_text.specs.ScriptText.{line_text, lines_text}
use Rattle.script_text.specs.WellFormed.{Rise, AreShort}
use Rattle.script_text.proofs.WordBytes.{not_true}
use Rattle.script_text.specs.LineOfText.{first_line, behind_feeds, line_numbered}

-- a line's bytes, and of a line with words the bytes before a carriage return
pub data TextLine : Type 0 where
  Wordless : (bytes : List ℕ) → TextLine
  Worded : (bytes line : List ℕ) → TextLine

abbrev pub bytes_of : TextLine → List ℕ
bytes_of (Wordless bytes) = bytes
bytes_of (Worded bytes line) = bytes

-- each line behind a line feed
abbrev pub fed : List TextLine → List ℕ
fed [] = []
fed (t ∷ ts) = 10 ∷ (bytes_of t ++ fed ts)

-- the lines that have words, behind the line of this number
abbrev pub lines_behind : ℕ → List TextLine → List Line
lines_behind number [] = []
lines_behind number (Wordless bytes ∷ ts) = lines_behind (number + 1) ts
lines_behind number (Worded bytes line ∷ ts) = record { number = number + 1; row = row_of (words_of line) line } ∷ lines_behind (number + 1) ts

abbrev pub AreFeedless : List ℕ → Type 0
AreFeedless bytes = list_all (λ b. not (b == 10)) bytes ≡ true

abbrev pub IsTextLine : TextLine → Type 0
IsTextLine (Wordless bytes) = AreFeedless bytes
IsTextLine (Worded bytes line) = AreFeedless bytes × (length bytes ≤ 4096) × (length line ≤ length bytes)

abbrev pub AreTextLines : List TextLine → Type 0
AreTextLines [] = Unit {0}
AreTextLines (t ∷ ts) = IsTextLine t × AreTextLines ts

-- for each line with words one is printed, with its number, and no longer
abbrev pub Prints : ℕ → List TextLine → List NumberedLine → Type 0
Prints number [] ls = ls ≡ []
Prints number (Wordless bytes ∷ ts) ls = Prints (number + 1) ts ls
Prints number (Worded bytes line ∷ ts) [] = ⊥
Prints number (Worded bytes line ∷ ts) (l ∷ ls) = (l.number ≡ number + 1) × (length (line_text l.words) ≤ length bytes) × Prints (number + 1) ts ls

-- Line numbers rise.

pub rise_from : (less number : ℕ) (ls : List NumberedLine) → less ≤ number → Rise number ls → Rise less ls
unfolding Rise
rise_from less number [] h rise = tt
rise_from less number (l ∷ ls) h rise = (omega (arith, rise.0), rise.1)

pub numbers_rise : (number : ℕ) (ts : List TextLine) (ls : List NumberedLine) → Prints number ts ls → Rise number ls
unfolding Rise
numbers_rise number [] [] prints = tt
numbers_rise number [] (l ∷ ls) prints = absurd (cc prints)
numbers_rise number (Wordless bytes ∷ ts) ls prints = rise_from number (number + 1) ls (omega arith) (numbers_rise (number + 1) ts ls prints)
numbers_rise number (Worded bytes line ∷ ts) [] prints = absurd prints
numbers_rise number (Worded bytes line ∷ ts) (l ∷ ls) prints =
    (omega (arith, prints.0), subst (λ n. Rise n ls) (sym prints.0) (numbers_rise (number + 1) ts ls prints.2))

-- Printed lines are short.

pub lines_short : (number : ℕ) (ts : List TextLine) (ls : List NumberedLine) → AreTextLines ts → Prints number ts ls → AreShort ls
unfolding AreShort
lines_short number [] [] are prints = tt
lines_short number [] (l ∷ ls) are prints = absurd (cc prints)
lines_short number (Wordless bytes ∷ ts) ls are prints = lines_short (number + 1) ts ls are.1 prints
lines_short number (Worded bytes line ∷ ts) [] are prints = absurd prints
lines_short number (Worded bytes line ∷ ts) (l ∷ ls) are prints = (omega (arith, are.0.1, prints.1), lines_short (number + 1) ts ls are.1 prints.2)

-- The printed text is short.

replicate_long : (n b : ℕ) → length (replicate n b) ≡ n
replicate_long zero b = refl
replicate_long (suc n) b = omega (arith, replicate_long n b)

lines_text_long : (at : ℕ) (l : NumberedLine) (ls : List NumberedLine)
    → length (lines_text at (l ∷ ls)) ≡ (l.number - at) + length (line_text l.words) + length (lines_text l.number ls)
unfolding lines_text
lines_text_long at l ls =
    omega (arith, length-append (replicate (l.number - at) 10) (line_text l.words ++ lines_text l.number ls), length-append (line_text l.words) (lines_text l.number ls), replicate_long (l.number - at) 10)

no_text : (at : ℕ) → length (lines_text at []) ≡ 0
unfolding lines_text
no_text at = refl

-- counted from an earlier line
later_long : (less number : ℕ) (ls : List NumberedLine) → less ≤ number → length (lines_text less ls) ≤ (number - less) + length (lines_text number ls)
later_long less number [] h = omega (arith, no_text less)
later_long less number (l ∷ ls) h = omega (arith, lines_text_long less l ls, lines_text_long number l ls)

text_short : (number : ℕ) (ts : List TextLine) (ls : List NumberedLine) → Prints number ts ls → (at : ℕ) → at ≤ number → length (lines_text at ls) ≤ (number - at) + length (fed ts)
text_short number [] [] prints at h = omega (arith, no_text at)
text_short number [] (l ∷ ls) prints at h = absurd (cc prints)
text_short number (Wordless bytes ∷ ts) ls prints at h =
    omega (arith, text_short (number + 1) ts ls prints at (omega arith), length-append bytes (fed ts))
text_short number (Worded bytes line ∷ ts) [] prints at h = absurd prints
text_short number (Worded bytes line ∷ ts) (l ∷ ls) prints at h =
    let behind : length (lines_text (number + 1) ls) ≤ (number + 1 - (number + 1)) + length (fed ts) = text_short (number + 1) ts ls prints.2 (number + 1) (omega arith) in
    let same : length (lines_text l.number ls) ≡ length (lines_text (number + 1) ls) = ap (λ n. length (lines_text n ls)) prints.0 in
    omega (arith, lines_text_long at l ls, behind, same, prints.0, prints.1, length-append bytes (fed ts))

-- behind a first line of 8 bytes
pub rest_short : (text : List ℕ) (ts : List TextLine) (l : NumberedLine) (ls : List NumberedLine) → fed ts ≡ 10 ∷ text → Prints 0 ts (l ∷ ls) → 8 ≤ length (line_text l.words) → 1 ≤ l.number
    → 8 + length (lines_text 1 ls) ≤ length text
rest_short text ts l ls is prints long h =
    omega (arith, later_long 1 l.number ls h, text_short 0 ts (l ∷ ls) prints 0 (omega arith), lines_text_long 0 l ls, ap length is, long, h)

-- Each printed line is no longer than the text's line of its number.

first_behind : (bytes : List ℕ) (ts : List TextLine) → AreFeedless bytes → first_line (bytes ++ fed ts) ≡ bytes
unfolding first_line
first_behind [] [] h = refl
first_behind [] (t ∷ ts) h = refl
first_behind (b ∷ bs) ts h =
    ap (λ feed. cond feed [] (b ∷ first_line (bs ++ fed ts))) (not_true (b == 10) (and_parts _ _ h).0)
    ∙ ap (λ (t : List ℕ). b ∷ t) (first_behind bs ts (and_parts _ _ h).1)

feedless_passed : (feeds : ℕ) (bytes rest : List ℕ) → AreFeedless bytes → behind_feeds (suc feeds) (bytes ++ rest) ≡ behind_feeds (suc feeds) rest
unfolding behind_feeds
feedless_passed feeds [] rest h = refl
feedless_passed feeds (b ∷ bs) rest h =
    ap (λ feed. cond feed (behind_feeds feeds (bs ++ rest)) (behind_feeds (suc feeds) (bs ++ rest))) (not_true (b == 10) (and_parts _ _ h).0)
    ∙ feedless_passed feeds bs rest (and_parts _ _ h).1

feed_passed : (feeds : ℕ) (rest : List ℕ) → behind_feeds (suc feeds) (10 ∷ rest) ≡ behind_feeds feeds rest
unfolding behind_feeds
feed_passed feeds rest = refl

no_feed : (text : List ℕ) → behind_feeds 0 text ≡ text
unfolding behind_feeds
no_feed text = refl

feedless : (t : TextLine) → IsTextLine t → AreFeedless (bytes_of t)
feedless (Wordless bytes) is = is
feedless (Worded bytes line) is = is.0

-- in a whole text, these lines stand behind the line of this number
abbrev StandBehind : List ℕ → ℕ → List TextLine → Type 0
StandBehind whole number ts = (feeds : ℕ) → behind_feeds (suc (number + feeds)) whole ≡ behind_feeds (suc feeds) (fed ts)

next_stand : (whole : List ℕ) (number : ℕ) (t : TextLine) (ts : List TextLine) → AreFeedless (bytes_of t) → StandBehind whole number (t ∷ ts) → StandBehind whole (number + 1) ts
next_stand whole number t ts is stand feeds =
    ap (λ n. behind_feeds n whole) (omega arith) ∙ stand (suc feeds) ∙ feed_passed (suc feeds) (bytes_of t ++ fed ts) ∙ feedless_passed feeds (bytes_of t) (fed ts) is

abbrev pub IsNoLonger : List ℕ → NumberedLine → Type 0
IsNoLonger text l = length (line_text l.words) ≤ length (line_numbered l.number text)

none_longer : (text : List ℕ) (number : ℕ) (ts : List TextLine) (ls : List NumberedLine) → AreTextLines ts → Prints number ts ls → StandBehind (10 ∷ text) number ts → All (IsNoLonger text) ls
unfolding line_numbered
none_longer text number [] [] are prints stand = All-nil (IsNoLonger text)
none_longer text number [] (l ∷ ls) are prints stand = absurd (cc prints)
none_longer text number (Wordless bytes ∷ ts) ls are prints stand = none_longer text (number + 1) ts ls are.1 prints (next_stand (10 ∷ text) number (Wordless bytes) ts are.0 stand)
none_longer text number (Worded bytes line ∷ ts) [] are prints stand = absurd prints
none_longer text number (Worded bytes line ∷ ts) (l ∷ ls) are prints stand =
    let here : behind_feeds (l.number - 1) text ≡ bytes ++ fed ts =
    ap (λ n. behind_feeds n text) (omega (arith, prints.0)) ∙ sym (feed_passed (number + 0) text) ∙ stand 0 ∙ feed_passed 0 (bytes ++ fed ts) ∙ no_feed (bytes ++ fed ts) in
    let same : first_line (behind_feeds (l.number - 1) text) ≡ bytes = ap first_line here ∙ first_behind bytes ts are.0.0 in
    All-cons (IsNoLonger text) l ls (omega (arith, prints.1, ap length same))
    (none_longer text (number + 1) ts ls are.1 prints.2 (next_stand (10 ∷ text) number (Worded bytes line) ts are.0.0 stand))

pub all_no_longer : (text : List ℕ) (ts : List TextLine) (ls : List NumberedLine) → fed ts ≡ 10 ∷ text → AreTextLines ts → Prints 0 ts ls → All (IsNoLonger text) ls
all_no_longer text ts ls is are prints =
    none_longer text 0 ts ls are prints (λ feeds. ap (λ n. behind_feeds n (10 ∷ text)) (omega arith) ∙ ap (behind_feeds (suc feeds)) (sym is))
