-- The items of a script that is read begin on rising lines of its text.
use Rattle.std.proofs.Common.{◌≡◌, refl, ap, subst, ℕ, zero, suc, ◌+◌, ◌-◌, ◌<◌, ◌≤◌, Bool, true, false, cond, List, [], ◌∷◌, ◌++◌, length, arith, length-append}
use Rattle.std.specs.Prelude.{◌==◌, Ok, Err, codes}
use Rattle.std.specs.List.{All, AllByRecursion, join_with_byte}
use Rattle.std.proofs.lemmas.List.Elements.{recursion_from_All}
use Rattle.text_io.specs.declared.kinds.Version.TheVariants.{Second}
use Rattle.script_model.specs.Syntax.{Simple, Each, When, Item, Outside, Tick, Handler, Script}
use Rattle.script_model.specs.Reading.{Reading, reading}
use Rattle.script_text.specs.NumberedLines.{NumberedLine, numbered, end_line, command_lines, block_lines, item_lines, items_lines}
use Rattle.script_text.specs.Phrases.{action_words, action_head, action_parts, condition_words}
use Rattle.script_text.specs.Parts.{all_words}
use Rattle.script_text.specs.ScriptText.{line_text}
use Rattle.script_text.specs.LineOfText.{first_line, behind_feeds, line_numbered}
use Rattle.script_text.specs.WellFormed.{Rise, IsWellFormed}
use Rattle.script_text.proofs.StatementsAgain.{action_word}
use Rattle.trace_judge.specs.Lines.{before_lines, lines_of}
use Rattle.trace_judge.proofs.Splits.{lines_by_first}
use Rattle.stream_runs.specs.PageRuns.{item_line}
use Rattle.stream_runs.proofs.Alone.{AreWithin, FitsIn}
use Rattle.script_text.proofs.LineWords.{word_long}
use Rattle.script_text.proofs.LinesHeld.{rise_from}

-- whatever is read is well formed
abbrev pub FormLaw : Type 0
FormLaw = (text : List ℕ) (script : Script) → reading text ≡ Ok script → IsWellFormed script

-- what is printed for a line is no longer than the line of its number
abbrev pub LengthLaw : Type 0
LengthLaw = (text : List ℕ) (script : Script) → reading text ≡ Ok script → All (λ l. length (line_text l.words) ≤ length (line_numbered l.number text)) (items_lines script.items)

-- ---- the first line of an item

joined-some : (word : List ℕ) (words : List (List ℕ)) → 0 < length word → 0 < length (line_text (word ∷ words))
unfolding line_text
joined-some word [] some = some
joined-some word (next ∷ words) some = let both = length-append word (32 ∷ join_with_byte 32 (next ∷ words)) in omega arith

record Begins (item : Item) : Type 0 where
  words : List (List ℕ)
  rest : List NumberedLine
  are : item_lines item ≡ numbered (item_line item) words ∷ rest
  some : 0 < length (line_text words)

begins : (item : Item) → Begins item
unfolding item_lines command_lines
begins (Outside (Simple line action)) = record {
  words = action_words action;
  rest = [];
  are = refl;
  some = joined-some (action_head Second action) (all_words (action_parts Second action)) (word_long (action_head Second action) (action_word Second action));
}
begins (Outside (Each line block last)) = record {
  words = codes "each" ∷ [];
  rest = block_lines block ++ (end_line last ∷ []);
  are = refl;
  some = joined-some (codes "each") [] (omega arith);
}
begins (Outside (When line condition block last)) = record {
  words = codes "when" ∷ condition_words condition;
  rest = block_lines block ++ (end_line last ∷ []);
  are = refl;
  some = joined-some (codes "when") (condition_words condition) (omega arith);
}
begins (Tick line time) = record { words = _; rest = []; are = refl; some = joined-some (codes "tick") _ (omega arith) }
begins (Handler line name block last) = record {
  words = codes "handler" ∷ name ∷ [];
  rest = block_lines block ++ (end_line last ∷ []);
  are = refl;
  some = joined-some (codes "handler") (name ∷ []) (omega arith);
}

-- ---- lines that rise

rise-behind : (number : ℕ) (front lines : List NumberedLine) → Rise number (front ++ lines) → Rise number lines
unfolding Rise
rise-behind number [] lines rise = rise
rise-behind number (l ∷ ls) lines rise = let above = rise.0 in rise_from number l.number lines (omega arith) (rise-behind l.number ls lines rise.1)

all-behind : (P : NumberedLine → Type 0) (front lines : List NumberedLine) → AllByRecursion P (front ++ lines) → AllByRecursion P lines
all-behind P [] lines all = all
all-behind P (l ∷ ls) lines all = all-behind P ls lines all.1

-- a line with words stands among so many
abbrev StandsIn : ℕ → NumberedLine → Type 0
StandsIn most l = 0 < length (line_text l.words) → l.number ≤ most

within : (k most : ℕ) (items : List Item) → Rise k (items_lines items) → AllByRecursion (StandsIn most) (items_lines items) → AreWithin k most items
unfolding items_lines Rise
within k most [] rise all = tt
within k most (item ∷ others) rise all =
    let it = begins item in
    let first : Rise k (numbered (item_line item) it.words ∷ (it.rest ++ items_lines others)) = subst (λ lines. Rise k (lines ++ items_lines others)) it.are rise in
    let each : AllByRecursion (StandsIn most) (numbered (item_line item) it.words ∷ (it.rest ++ items_lines others)) =
    subst (λ lines. AllByRecursion (StandsIn most) (lines ++ items_lines others)) it.are all in
    (first.0, each.0 it.some, within (item_line item) most others (rise-behind (item_line item) it.rest (items_lines others) first.1) (all-behind (StandsIn most) it.rest (items_lines others) each.1))

-- ---- lines of a text

before-more : (b : ℕ) (lines : List (List ℕ)) → length lines ≤ length (before_lines b lines)
before-more b [] = omega arith
before-more b (l ∷ ls) = omega arith

some-line : (text : List ℕ) → 0 < length text → 1 ≤ length (lines_of text)
some-line text some = let long = ap length (lines_by_first text some) in omega arith

feeds-at : (feed : Bool) (n b : ℕ) (later same : List ℕ) (lines : List (List ℕ)) → 0 < length (cond feed later same) → (0 < length later → n + 1 ≤ length lines)
    → (0 < length same → suc n + 1 ≤ length lines) → suc n + 1 ≤ length (cond feed ((b ∷ []) ∷ lines) (before_lines b lines))
feeds-at true n b later same lines some one two = let few = one some in omega arith
feeds-at false n b later same lines some one two = let few = two some in let more = before-more b lines in omega arith

feeds-few : (n : ℕ) (text : List ℕ) → 0 < length (behind_feeds n text) → n + 1 ≤ length (lines_of text)
unfolding behind_feeds lines_of
feeds-few zero text some = some-line text some
feeds-few (suc n) [] some = absurd (omega arith)
feeds-few (suc n) (b ∷ bs) some = feeds-at (b == 10) n b (behind_feeds n bs) (behind_feeds (suc n) bs) (lines_of bs) some (feeds-few n bs) (feeds-few (suc n) bs)

first-some : (text : List ℕ) → 0 < length (first_line text) → 0 < length text
unfolding first_line
first-some [] some = some
first-some (b ∷ bs) some = omega arith

-- a line with a byte is one of the text
line-inside : (number : ℕ) (text : List ℕ) → 0 < length (line_numbered number text) → number ≤ length (lines_of text)
unfolding line_numbered
line-inside number text some = let few = feeds-few (number - 1) text (first-some (behind_feeds (number - 1) text) some) in omega arith

stand-inside : (text : List ℕ) (most : ℕ) (lines : List NumberedLine) → length (lines_of text) ≤ most
    → AllByRecursion (λ l. length (line_text l.words) ≤ length (line_numbered l.number text)) lines → AllByRecursion (StandsIn most) lines
stand-inside text most [] few all = tt
stand-inside text most (l ∷ ls) few all = (
  λ some.
      let short = all.0 in
      let inside = line-inside l.number text (omega arith) in
      omega arith,
  stand-inside text most ls few all.1,
)

-- ---- scripts

by-read : FormLaw → LengthLaw → (text : List ℕ) (most : ℕ) → length (lines_of text) ≤ most → (read : Reading) → reading text ≡ read → FitsIn most read
by-read form long text most few (Ok script) is =
    within 0 most script.items (rise_from 0 1 (items_lines script.items) (omega arith) (form text script is).numbers_rise)
    (stand-inside text most (items_lines script.items) few (recursion_from_All (λ l. length (line_text l.words) ≤ length (line_numbered l.number text)) (items_lines script.items) (long text script is)))
by-read form long text most few (Err refusal) is = tt

pub items_fit : FormLaw → LengthLaw → (text : List ℕ) (most : ℕ) → length (lines_of text) ≤ most → FitsIn most (reading text)
items_fit form long text most few = by-read form long text most few (reading text) refl
