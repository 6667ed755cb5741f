-- Whatever is read is well formed, and no line printed for it is longer than the line that was read.
use Rattle.std.proofs.Common.{◌≡◌, ◌∙◌, refl, sym, ap, ℕ, ◌+◌, ◌<◌, ◌≤◌, Bool, true, false, nat_lt, List, ◌∷◌, length, arith, subst, append-nil, length-append, ltb-true, ltb-false, All}
use Rattle.std.specs.Prelude.{Ok, Err}
use Rattle.std.proofs.lemmas.List.Elements.{All-tail}
use Rattle.text_io.specs.declared.kinds.LimitKind.TheVariants as limits
use Rattle.text_io.specs.Limits.{common_limit}
use Rattle.text_io.specs.declared.kinds.Version.{Version}
use Rattle.script_model.specs.Syntax.{Script}
use Rattle.script_model.specs.Lexing.{Lexed, lexed}
use Rattle.script_model.specs.Reading.{LimitAt, last_line, read_lines, read_lexed, reading}
use Rattle.script_text.specs.NumberedLines.{NumberedLine, items_lines}
use Rattle.script_text.specs.ScriptText.{line_text, lines_text, script_text}
use Rattle.script_text.specs.WellFormed.{Rise, AreShort, IsWellFormed}
use Rattle.script_text.proofs.WholeText.{WithinLaw, script_text_is}
use Rattle.script_text.proofs.LinesHeld.{TextLine, fed, AreTextLines, Prints, rise_from, numbers_rise, lines_short, rest_short, IsNoLonger, all_no_longer}
use Rattle.script_text.proofs.StateKept.{IsKeptState, kept_lines, Differ}
use Rattle.script_text.proofs.StepsKept.{version_line, at_end, AreRead, first_text, read_whole, all_read}
use Rattle.script_text.proofs.Reversed.{IsInOrder, in_order}
use Rattle.script_text.proofs.LexedLines.{LineLaws, IsLexed, text_lexed}

-- a text beyond the limit isn't read
abbrev pub AboveLaw : Type 0
AboveLaw = (text : List ℕ) → common_limit limits.Script < length text → reading text ≡ Err (LimitAt limits.Script (last_line (common_limit limits.Script) text))

pub record ReadingLaws : Type 0 where
  pub lines : LineLaws
  pub within : WithinLaw
  pub above : AboveLaw

-- a text that is read, by its lines
pub record IsReadText (text : List ℕ) (script : Script) : Type 0 where
  pub short : length text ≤ 16777216
  pub lines : List TextLine
  pub text_is : fed lines ≡ 10 ∷ text
  pub good : AreTextLines lines
  pub read : AreRead 0 lines script

lexed_read : (lexed : Lexed) → read_lexed lexed ≡ read_lines lexed.lines lexed.ending
unfolding read_lexed
lexed_read lexed = refl

read_within : ReadingLaws → (text : List ℕ) (script : Script) → reading text ≡ Ok script → length text ≤ 16777216
read_within laws text script h = by_length (nat_lt 16777216 (length text)) refl where
  by_length : (long : Bool) → nat_lt 16777216 (length text) ≡ long → length text ≤ 16777216
  by_length true e = absurd (cc (sym h ∙ laws.above text (ltb-true 16777216 (length text) e)))
  by_length false e = ltb-false 16777216 (length text) e

pub text_read : ReadingLaws → (text : List ℕ) (script : Script) → reading text ≡ Ok script → IsReadText text script
text_read laws text script h =
    let short : length text ≤ 16777216 = read_within laws text script h in
    let l : Lexed = lexed text in
    let read : read_lines l.lines l.ending ≡ Ok script = sym (lexed_read l) ∙ sym (laws.within text short) ∙ h in
    let is : IsLexed 0 text l = text_lexed laws.lines text (read_whole l.lines l.ending script read) in
    record {
      short = short;
      lines = is.lines;
      text_is = is.text_is;
      good = is.good;
      read = all_read 0 is.lines l.ending script is.good (ap (λ ls. read_lines ls l.ending) (sym is.lines_are) ∙ read);
    }

-- what the machine kept, in order
kept_in_order : (text : List ℕ) (script : Script) → (is : IsReadText text script) → IsInOrder script.version is.read.kept script.items
kept_in_order text script is =
    let kept : IsKeptState (at_end script.version is.read.kept is.read.names) = is.read.follows.kept in
    in_order script.version is.read.kept script.items kept.items (subst Differ kept.names_are kept.differ) is.read.items_are

-- the first line and those of the items are printed for the lines of the text
all_printed : (text : List ℕ) (script : Script) → (is : IsReadText text script) → Prints 0 is.lines (version_line is.read.first script.version ∷ items_lines script.items)
all_printed text script is =
    let same : is.read.lines ≡ items_lines script.items =
    sym is.read.follows.lines ∙ append-nil (kept_lines is.read.kept) ∙ sym (kept_in_order text script is).lines in
    subst (λ ls. Prints 0 is.lines (version_line is.read.first script.version ∷ ls)) same is.read.prints

first_number : (number : ℕ) (l : NumberedLine) (ls : List NumberedLine) → Rise number (l ∷ ls) → (number < l.number) × Rise l.number ls
unfolding Rise
first_number number l ls rise = rise

others_short : (l : NumberedLine) (ls : List NumberedLine) → AreShort (l ∷ ls) → AreShort ls
unfolding AreShort
others_short l ls short = short.1

first_long : (number : ℕ) (version : Version) → length (line_text (version_line number version).words) ≡ 8
first_long number version = first_text version

script_long : (script : Script) → length (script_text script) ≡ 8 + length (lines_text 1 (items_lines script.items))
script_long script =
    let rest : List ℕ = lines_text 1 (items_lines script.items) in
    ap length (script_text_is script) ∙ length-append (line_text (version_line 1 script.version).words) rest ∙ ap (λ (n : ℕ). n + length rest) (first_long 1 script.version)

text_no_longer : (text : List ℕ) (script : Script) → IsReadText text script → length (script_text script) ≤ length text
text_no_longer text script is =
    let prints = all_printed text script is in
    let rise = first_number 0 (version_line is.read.first script.version) (items_lines script.items) (numbers_rise 0 is.lines _ prints) in
    let short = rest_short text is.lines (version_line is.read.first script.version) (items_lines script.items) is.text_is prints (omega (arith, first_long is.read.first script.version)) (omega (arith, rise.0)) in
    omega (arith, short, script_long script)

well_formed : (text : List ℕ) (script : Script) → IsReadText text script → IsWellFormed script
well_formed text script is =
    let order = kept_in_order text script is in
    let kept = is.read.follows.kept in
    let prints = all_printed text script is in
    let rise = first_number 0 (version_line is.read.first script.version) (items_lines script.items) (numbers_rise 0 is.lines _ prints) in
    record {
      operands = order.meant;
      nested = order.nested;
      few_handlers = omega (arith, order.count, ap length kept.names_are, kept.few);
      names_differ = order.new;
      numbers_rise = rise_from 1 is.read.first (items_lines script.items) (omega (arith, rise.0)) rise.1;
      short_lines = others_short (version_line is.read.first script.version) (items_lines script.items) (lines_short 0 is.lines _ is.good prints);
      short_text = omega (arith, is.short, text_no_longer text script is);
    }

pub read_well : ReadingLaws → (text : List ℕ) (script : Script) → reading text ≡ Ok script → IsWellFormed script
read_well laws text script h = well_formed text script (text_read laws text script h)

pub printed_no_longer : ReadingLaws → (text : List ℕ) (script : Script) → reading text ≡ Ok script → All (IsNoLonger text) (items_lines script.items)
printed_no_longer laws text script h =
    let is = text_read laws text script h in
    All-tail (IsNoLonger text) (version_line is.read.first script.version) (items_lines script.items) (all_no_longer text is.lines _ is.text_is is.good (all_printed text script is))

pub printed_text_no_longer : ReadingLaws → (text : List ℕ) (script : Script) → reading text ≡ Ok script → length (script_text script) ≤ length text
printed_text_no_longer laws text script h = text_no_longer text script (text_read laws text script h)
