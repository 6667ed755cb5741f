-- What the lines of a text make, line by line, and at its end.
use Rattle.std.proofs.Common.{◌≡◌, ◌∙◌, refl, sym, ap, ℕ, ◌+◌, ◌≤◌, List, [], ◌∷◌, ◌++◌, length, arith, subst, append_assoc, append-nil}
use Rattle.std.specs.Prelude.{reverse, Result, Ok, Err, codes}
use Rattle.script_model.specs.Readers.{◌>>=◌, with_fault}
use Rattle.text_io.specs.declared.kinds.Version.{Version}
use Rattle.text_io.specs.declared.kinds.Version.TheVariants.{First, Second}
use Rattle.text_io.specs.Kinds.{version_word}
use Rattle.script_model.specs.Syntax.{Item, Script}
use Rattle.script_model.specs.Lexing.{Line, Ending, Whole, BadByte, LongLine}
use Rattle.script_model.specs.Lines.{words_of, row_of}
use Rattle.script_model.specs.Statements.{Statement, statement_of, version_as}
use Rattle.script_model.specs.Reading.{SyntaxAt, Frame, State, nothing_read, placed, standing, step, steps, finished, read_lines}
use Rattle.script_model.proofs.Impossible.{bind_ok}
use Rattle.script_text.specs.NumberedLines.{NumberedLine, numbered}
use Rattle.script_text.specs.ScriptText.{line_text}
use Rattle.script_text.proofs.LinesHeld.{TextLine, Wordless, Worded, lines_behind, AreTextLines, Prints}
use Rattle.script_text.proofs.StateKept.{IsKeptState, state_lines, Follows, placed_follows}
use Rattle.script_text.proofs.ReadStatements.{statement_words, StatementRead, statement_read, version_long}

pub fault_ok : {A E F : Type 0} (seen : E → F) (r : Result A E) (x : A) → with_fault seen r ≡ Ok x → r ≡ Ok x
fault_ok seen (Ok y) x h = cc
fault_ok seen (Err e) x h = absurd cc

-- One line.

nothing_follows : (s : State) → IsKeptState s → Follows s [] s
nothing_follows s is = record { same = refl; kept = is; lines = sym (append-nil (state_lines s)) }

follow_on : (s t u : State) (l : NumberedLine) (ls : List NumberedLine) → Follows s (l ∷ []) t → Follows t ls u → Follows s (l ∷ ls) u
follow_on s t u l ls first others = record {
  same = others.same ∙ first.same;
  kept = others.kept;
  lines = others.lines ∙ ap (λ (ms : List NumberedLine). ms ++ ls) first.lines ∙ append_assoc (state_lines s) (l ∷ []) ls;
}

-- a line's statement, and the state behind it
pub record IsStepped (s : State) (number : ℕ) (line : List ℕ) (t : State) : Type 0 where
  pub statement : Statement
  pub short : length (line_text (statement_words statement)) ≤ length line
  pub follows : Follows s (numbered number (statement_words statement) ∷ []) t

stepped : (s : State) (number : ℕ) (line : List ℕ) (t : State) → step s (record { number = number; row = row_of (words_of line) line }) ≡ Ok t → IsKeptState s → IsStepped s number line t
unfolding step
stepped s number line t h is =
    let said : Result Statement ℕ = statement_of (standing s) (row_of (words_of line) line) in
    let b = bind_ok (with_fault (SyntaxAt number) said) (λ statement. placed number statement s) t h in
    let read : StatementRead (standing s) line b.0 = statement_read (standing s) line b.0 (fault_ok (SyntaxAt number) said b.0 b.1) in
    record { statement = b.0; short = read.short; follows = placed_follows s.version number b.0 s.frames s.items s.names t read.meant b.2 is }

-- All lines.

pub record AreStepped (s : State) (number : ℕ) (ts : List TextLine) (t : State) : Type 0 where
  pub lines : List NumberedLine
  pub prints : Prints number ts lines
  pub follows : Follows s lines t

no_steps : (s t : State) → steps s [] ≡ Ok t → s ≡ t
unfolding steps
no_steps s t h = cc

first_step : (s t : State) (l : Line) (ls : List Line) → steps s (l ∷ ls) ≡ Ok t → (next : State) × (step s l ≡ Ok next) × (steps next ls ≡ Ok t)
unfolding steps
first_step s t l ls h = bind_ok (step s l) (λ next. steps next ls) t h

pub all_stepped : (s : State) (number : ℕ) (ts : List TextLine) (t : State) → AreTextLines ts → steps s (lines_behind number ts) ≡ Ok t → IsKeptState s → AreStepped s number ts t
all_stepped s number [] t are h is = subst (AreStepped s number []) (no_steps s t h) (record { lines = []; prints = refl; follows = nothing_follows s is })
all_stepped s number (Wordless bytes ∷ ts) t are h is =
    let others = all_stepped s (number + 1) ts t are.1 h is in
    record { lines = others.lines; prints = others.prints; follows = others.follows }
all_stepped s number (Worded bytes line ∷ ts) t are h is =
    let first = first_step s t (record { number = number + 1; row = row_of (words_of line) line }) (lines_behind (number + 1) ts) h in
    let here : IsStepped s (number + 1) line first.0 = stepped s (number + 1) line first.0 first.1 is in
    let others = all_stepped first.0 (number + 1) ts t are.1 first.2 here.follows.kept in
    record {
      lines = numbered (number + 1) (statement_words here.statement) ∷ others.lines;
      prints = (refl, omega (arith, here.short, are.0.2), others.prints);
      follows = follow_on s first.0 t (numbered (number + 1) (statement_words here.statement)) others.lines here.follows others.follows;
    }

-- The end.

abbrev pub IsWhole : Ending → Type 0
IsWhole (Whole next_line) = Unit {0}
IsWhole (BadByte line column) = ⊥
IsWhole (LongLine line) = ⊥

-- nothing is open at the end of the whole text
pub record IsFinished (version : Version) (frames : List Frame) (items : List Item) (ending : Ending) (script : Script) : Type 0 where
  pub none_open : frames ≡ []
  pub whole : IsWhole ending
  pub script_is : ◌≡◌ {A = Script} (record { version = version; items = reverse items }) script

all_finished : (version : Version) (frames : List Frame) (items : List Item) (ending : Ending) (script : Script) → finished version frames items ending ≡ Ok script
    → IsFinished version frames items ending script
unfolding finished
all_finished version [] items (Whole next_line) script h = record { none_open = refl; whole = tt; script_is = cc }
all_finished version [] items (BadByte line column) script h = absurd cc
all_finished version [] items (LongLine line) script h = absurd cc
all_finished version (f ∷ fs) items ending script h = absurd cc

pub record IsReadFrom (l : Line) (ls : List Line) (ending : Ending) (script : Script) : Type 0 where
  pub version : Version
  pub version_is : version_as l.row ≡ Ok version
  pub last : State
  pub steps_are : steps (nothing_read version) ls ≡ Ok last
  pub finishes : IsFinished last.version last.frames last.items ending script

pub line_read : (l : Line) (ls : List Line) (ending : Ending) (script : Script) → read_lines (l ∷ ls) ending ≡ Ok script → IsReadFrom l ls ending script
unfolding read_lines
line_read l ls ending script h =
    let version = bind_ok (with_fault (SyntaxAt l.number) (version_as l.row)) (λ version. steps (nothing_read version) ls >>= λ s. finished s.version s.frames s.items ending) script h in
    let last = bind_ok (steps (nothing_read version.0) ls) (λ s. finished s.version s.frames s.items ending) script version.2 in
    record {
      version = version.0;
      version_is = fault_ok (SyntaxAt l.number) (version_as l.row) version.0 version.1;
      last = last.0;
      steps_are = last.1;
      finishes = all_finished last.0.version last.0.frames last.0.items ending script last.2;
    }

pub nothing_is_read : (ending : Ending) (script : Script) → read_lines [] ending ≡ Ok script → ⊥
unfolding read_lines
nothing_is_read ending script h = cc

-- a text that is read is whole
pub read_whole : (ls : List Line) (ending : Ending) (script : Script) → read_lines ls ending ≡ Ok script → IsWhole ending
read_whole [] ending script h = absurd (nothing_is_read ending script h)
read_whole (l ∷ ls) ending script h = (line_read l ls ending script h).finishes.whole

-- The first line with words, and those behind it.

-- the line that names a version
abbrev pub version_line : ℕ → Version → NumberedLine
version_line number version = numbered number (codes "script" ∷ version_word version ∷ [])

-- a state in which nothing is open
abbrev pub at_end : Version → List Item → List (List ℕ) → State
at_end version items names = record { version = version; frames = []; items = items; names = names }

pub record AreRead (number : ℕ) (ts : List TextLine) (script : Script) : Type 0 where
  pub first : ℕ
  pub lines : List NumberedLine
  pub kept : List Item
  pub names : List (List ℕ)
  pub prints : Prints number ts (version_line first script.version ∷ lines)
  pub follows : Follows (nothing_read script.version) lines (at_end script.version kept names)
  pub items_are : reverse kept ≡ script.items

pub first_text : (version : Version) → length (line_text (codes "script" ∷ version_word version ∷ [])) ≡ 8
unfolding line_text
first_text First = refl
first_text Second = refl

none_kept : (version : Version) → IsKeptState (nothing_read version)
none_kept version = record { frames = tt; items = tt; names_are = refl; differ = tt; few = omega arith }

last_is : (s : State) → s.frames ≡ [] → s ≡ at_end s.version s.items s.names
last_is s e = ap (λ (fs : List Frame). let t : State = record { version = s.version; frames = fs; items = s.items; names = s.names } in t) e

pub all_read : (number : ℕ) (ts : List TextLine) (ending : Ending) (script : Script) → AreTextLines ts → read_lines (lines_behind number ts) ending ≡ Ok script → AreRead number ts script
all_read number [] ending script are h = absurd (nothing_is_read ending script h)
all_read number (Wordless bytes ∷ ts) ending script are h =
    let read = all_read (number + 1) ts ending script are.1 h in
    record { first = read.first; lines = read.lines; kept = read.kept; names = read.names; prints = read.prints; follows = read.follows; items_are = read.items_are }
all_read number (Worded bytes line ∷ ts) ending script are h =
    let read = line_read (record { number = number + 1; row = row_of (words_of line) line }) (lines_behind (number + 1) ts) ending script h in
    let made = all_stepped (nothing_read read.version) (number + 1) ts read.last are.1 read.steps_are (none_kept read.version) in
    let ended : read.last.version ≡ script.version = ap (λ (s : Script). s.version) read.finishes.script_is in
    let begun : read.version ≡ script.version = sym made.follows.same ∙ ended in
    let kept : List Item = read.last.items in
    let names : List (List ℕ) = read.last.names in
    record {
      first = number + 1;
      lines = made.lines;
      kept = kept;
      names = names;
      prints = (refl, omega (arith, first_text script.version, version_long read.version line read.version_is, are.0.2), made.prints);
      follows = subst (λ (v : Version). Follows (nothing_read v) made.lines (at_end script.version kept names)) begun
          (subst (λ (v : Version). Follows (nothing_read read.version) made.lines (at_end v kept names)) ended
          (subst (Follows (nothing_read read.version) made.lines) (last_is read.last read.finishes.none_open) made.follows));
      items_are = ap (λ (s : Script). s.items) read.finishes.script_is;
    }
