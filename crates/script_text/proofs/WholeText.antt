-- A printed text is read as the script that was printed. What the lexer does at one line, and that a text within its limit
-- is read by its lines, are laws of the language, which stand here as premises.
use Rattle.std.proofs.Common.{◌≡◌, ◌∙◌, refl, sym, ap, ℕ, ◌+◌, ◌<◌, ◌≤◌, Bool, true, false, cond, nat_lt, List, [], ◌∷◌, ◌++◌, length, arith, append_assoc, append-nil, length-append}
use Rattle.std.specs.Prelude.{Some, map, reverse, Result, Ok, codes}
use Rattle.std.proofs.lemmas.Bool.{ltb-true}
use Rattle.text_io.specs.declared.kinds.LimitKind.TheVariants as limits
use Rattle.text_io.specs.Limits.{common_limit}
use Rattle.text_io.specs.declared.kinds.Version.{Version}
use Rattle.text_io.specs.declared.kinds.Version.TheVariants.{First, Second}
use Rattle.text_io.specs.Kinds.{version_word}
use Rattle.script_model.specs.Readers.{◌>>=◌, with_fault}
use Rattle.script_model.specs.Syntax.{Command, Simple, Each, When, Block, NoMore, Then, Item, Outside, Tick, Handler, Script}
use Rattle.script_model.specs.Lexing.{Word, Line, Ending, Whole, line_start, lex_on, lexed}
use Rattle.script_model.specs.Lines.{row_of}
use Rattle.script_model.specs.Keywords.{lookup}
use Rattle.script_model.specs.Words.{just, versions}
use Rattle.script_model.specs.Forms.{Taken, word_as, none_in, none_left}
use Rattle.script_model.specs.Statements.{version_as}
use Rattle.script_model.specs.Reading.{Refusal, SyntaxAt, State, nothing_read, steps, finished, read_lines, read_lexed, reading}
use Rattle.script_text.specs.NumberedLines.{NumberedLine, numbered, command_lines, block_lines, item_lines, items_lines}
use Rattle.script_text.specs.ScriptText.{line_text, lines_text, script_text, printed}
use Rattle.script_text.specs.WellFormed.{IsCommand, IsBlock, IsItem, AreItems, AreShort, IsWellFormed}
use Rattle.script_text.proofs.WordBytes.{IsWord, as_word}
use Rattle.script_text.proofs.PartsAgain.{words_at, row, word_read}
use Rattle.script_text.proofs.LineWords.{AreWords, words_are, is_line, IsLine, line_of}
use Rattle.script_text.proofs.LinesSay.{action_line, each_line, when_line, last_line, tick_line, handler_line}
use Rattle.script_text.proofs.TextLines.{LineFeedLaw, LastLineLaw, AreLines, last_of, lines_read}
use Rattle.script_text.proofs.Nesting.{AllRead, may_all, all_read}

-- a text within its limit is read by its lines
abbrev pub WithinLaw : Type 0
WithinLaw = (text : List ℕ) → length text ≤ common_limit limits.Script → reading text ≡ read_lexed (lexed text)

lines_joined : (ls ms : List NumberedLine) → AreLines ls → AreLines ms → AreLines (ls ++ ms)
unfolding AreLines
lines_joined [] ms h k = k
lines_joined (l ∷ ls) ms h k = (h.0, lines_joined ls ms h.1 k)

mutual
  unfolding command_lines block_lines IsCommand IsBlock AreLines

  command_good : (version : Version) (command : Command) → IsCommand version command → AreLines (command_lines command)
  command_good version (Simple line action) h = (action_line version action h.operands, tt)
  command_good version (Each line block last) h = (each_line, lines_joined (block_lines block) _ (block_good version block h) (last_line, tt))
  command_good version (When line condition block last) h = (when_line condition h.0, lines_joined (block_lines block) _ (block_good version block h.1) (last_line, tt))

  block_good : (version : Version) (block : Block) → IsBlock version block → AreLines (block_lines block)
  block_good version NoMore h = tt
  block_good version (Then command others) h = lines_joined (command_lines command) (block_lines others) (command_good version command h.0) (block_good version others h.1)

item_good : (version : Version) (item : Item) → IsItem version item → AreLines (item_lines item)
unfolding item_lines IsItem AreLines
item_good version (Outside command) h = command_good version command h
item_good version (Tick line time) h = (tick_line time h, tt)
item_good version (Handler line name block last) h = (handler_line name h.0, lines_joined (block_lines block) _ (block_good version block h.1) (last_line, tt))

items_good : (version : Version) (items : List Item) → AreItems version items → AreLines (items_lines items)
unfolding items_lines AreItems AreLines
items_good version [] h = tt
items_good version (i ∷ is) h = lines_joined (item_lines i) (items_lines is) (item_good version i h.0) (items_good version is h.1)

-- The first line.

abbrev version_words : Version → List (List ℕ)
version_words version = codes "script" ∷ version_word version ∷ []

abbrev first_line : Version → NumberedLine
first_line version = numbered 1 (version_words version)

version_is_word : (version : Version) → IsWord (version_word version)
version_is_word First = as_word _ refl
version_is_word Second = as_word _ refl

first_words : (version : Version) → AreWords (version_words version)
first_words version = (as_word _ refl, (version_is_word version, tt))

version_found : (version : Version) → lookup versions (version_word version) ≡ Some version
unfolding lookup
version_found First = refl
version_found Second = refl

script_found : just (codes "script") (codes "script") ≡ Some tt
unfolding just
script_found = refl

version_row : (version : Version) (after : ℕ) (bytes : List ℕ) → version_as (row (words_at 1 (version_words version)) after bytes) ≡ Ok version
unfolding version_as words_at none_left none_in
version_row version after bytes =
    ap (λ (r : Taken (Unit {0})). r >>= λ script. word_as (lookup versions) script.1 >>= λ version. none_left version.1 >>= λ end. Ok version.0)
    (word_read (just (codes "script")) tt 1 (codes "script") (words_at 8 (version_word version ∷ [])) script_found after bytes)
    ∙ ap (λ (r : Taken Version). r >>= λ version. none_left version.1 >>= λ end. Ok version.0)
    (word_read (lookup versions) version 8 (version_word version) [] (version_found version) after bytes)

version_read : (version : Version) → version_as (line_of (first_line version)).row ≡ Ok version
unfolding line_of row_of
version_read version =
    ap (λ (ws : List Word). version_as (row_of ws (line_text (version_words version)))) (words_are (codes "script") (version_word version ∷ []) (first_words version))
    ∙ version_row version _ _

-- The whole text.

finished_is : (version : Version) (items : List Item) (last : ℕ) → finished version [] items (Whole last) ≡ Ok (record { version = version; items = reverse items })
unfolding finished
finished_is version items last = refl

lines_again : (script : Script) (last : ℕ) → AllRead script.version script.items → read_lines (line_of (first_line script.version) ∷ map line_of (items_lines script.items)) (Whole last) ≡ Ok script
unfolding read_lines
lines_again script last all =
    let l : Line = line_of (first_line script.version) in
    let ls : List Line = map line_of (items_lines script.items) in
    ap (λ (r : Result Version ℕ). with_fault (SyntaxAt l.number) r >>= λ version. steps (nothing_read version) ls >>= λ s. finished s.version s.frames s.items (Whole last)) (version_read script.version)
    ∙ ap (λ (r : Result State Refusal). r >>= λ s. finished s.version s.frames s.items (Whole last)) all.read
    ∙ finished_is script.version all.reversed last ∙ ap (λ (is : List Item). Ok (record script { items = is })) all.same

text_begins : (version : Version) (rest : List ℕ) → codes "script " ++ version_word version ++ rest ≡ line_text (version_words version) ++ rest
unfolding line_text
text_begins First rest = refl
text_begins Second rest = refl

pub script_text_is : (script : Script) → script_text script ≡ line_text (version_words script.version) ++ lines_text 1 (items_lines script.items)
unfolding script_text
script_text_is script = text_begins script.version (lines_text 1 (items_lines script.items))

printed_is : (script : Script) → printed script ≡ cond (nat_lt (length (script_text script)) (common_limit limits.Script)) (script_text script ++ (10 ∷ [])) (script_text script)
unfolding printed
printed_is script = refl

lexed_is : (text : List ℕ) → lexed text ≡ lex_on (line_start 1) text
unfolding lexed
lexed_is text = refl

read_lexed_is : (lines : List Line) (ending : Ending) → read_lexed (record { lines = lines; ending = ending }) ≡ read_lines lines ending
unfolding read_lexed
read_lexed_is lines ending = refl

whole_line : (version : Version) → IsLine (line_text (version_words version))
whole_line version = is_line (codes "script") (version_word version ∷ []) (first_words version)

first_short : (version : Version) → length (line_text (version_words version)) ≤ 4096
unfolding line_text
first_short First = omega arith
first_short Second = omega arith

lines_are : (version : Version) (items : List Item) → AreItems version items → AreLines (first_line version ∷ items_lines items)
unfolding AreLines
lines_are version items h = (whole_line version, items_good version items h)

lines_short : (version : Version) (items : List Item) → AreShort (items_lines items) → AreShort (first_line version ∷ items_lines items)
unfolding AreShort
lines_short version items h = (first_short version, h)

text_read : LineFeedLaw → LastLineLaw → (fed : Bool) (script : Script) → IsWellFormed script → read_lexed (lexed (script_text script ++ cond fed (10 ∷ []) [])) ≡ Ok script
text_read law last fed script is =
    let version : Version = script.version in
    let items : List Item = script.items in
    let tail : List ℕ = cond fed (10 ∷ []) [] in
    let ls : List NumberedLine = items_lines items in
    let l : NumberedLine = first_line version in
    let text : script_text script ++ tail ≡ line_text l.words ++ (lines_text 1 ls ++ tail) =
    ap (λ (t : List ℕ). t ++ tail) (script_text_is script) ∙ append_assoc (line_text l.words) (lines_text 1 ls) tail in
    ap (λ (t : List ℕ). read_lexed (lexed t)) text
    ∙ ap read_lexed (lexed_is (line_text l.words ++ (lines_text 1 ls ++ tail))
    ∙ lines_read law last fed l ls (lines_are version items is.operands) (lines_short version items is.short_lines) is.numbers_rise)
    ∙ read_lexed_is (line_of l ∷ map line_of ls) (Whole (last_of l ls + 1))
    ∙ lines_again script (last_of l ls + 1) (all_read version items is.operands is.nested (may_all items [] is.names_differ (omega (arith, is.few_handlers))))

pub printed_again : LineFeedLaw → LastLineLaw → WithinLaw → (script : Script) → IsWellFormed script → reading (printed script) ≡ Ok script
printed_again law last within script is =
    let text : List ℕ = script_text script in
    let short : length text ≤ 16777216 = is.short_text in
    let more : length (text ++ (10 ∷ [])) ≡ length text + 1 = length-append text (10 ∷ []) in
    ap reading (printed_is script)
    ∙ elim (nat_lt (length text) (common_limit limits.Script)) as (λ fed. nat_lt (length text) (common_limit limits.Script) ≡ fed → reading (cond fed (text ++ (10 ∷ [])) text) ≡ Ok script) [
      | true ↦ λ e.
          let below : length text < 16777216 = ltb-true (length text) 16777216 e in
          within (text ++ (10 ∷ [])) (omega arith) ∙ text_read law last true script is
      | false ↦ λ e. within text short ∙ ap (λ (t : List ℕ). read_lexed (lexed t)) (sym (append-nil text)) ∙ text_read law last false script is
    ] refl
