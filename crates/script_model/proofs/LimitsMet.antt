-- The limits that a text meets are the same in each version.
use Rattle.std.proofs.Common.{◌≡◌, refl, subst, ℕ, Bool, true, false, List, [], ◌∷◌}
use Rattle.std.specs.Prelude.{cond, nat_lt, length, Result, Ok, Err}
use Rattle.text_io.specs.declared.kinds.Version.{Version}
use Rattle.text_io.specs.declared.kinds.LimitKind.{LimitKind}
use Rattle.text_io.specs.declared.kinds.LimitKind.TheVariants as limits
use Rattle.text_io.specs.Limits.{IsCommon, common_limit}
use Rattle.script_model.specs.Syntax.{Item, Script}
use Rattle.script_model.specs.Readers.{◌>>=◌, with_fault}
use Rattle.script_model.specs.Lexing.{Line, Ending, Whole, BadByte, LongLine, Lexed, lexed}
use Rattle.script_model.specs.Statements.{Statement, Does, Ticks, OpensEach, OpensWhen, OpensHandler, Ends}
use Rattle.script_model.specs.Reading.{Refusal, SyntaxAt, LimitAt, Frame, State, open_block, open_handler, placed, step, steps, finished, read_lines, last_line, read_lexed, reading}

abbrev pub MeetsCommon : {A : Type 0} → Result A Refusal → Type 0
MeetsCommon (Ok value) = Unit {0}
MeetsCommon (Err (SyntaxAt line column)) = Unit {0}
MeetsCommon (Err (LimitAt kind line)) = IsCommon kind

chosen : {A : Type 0} (room : Bool) (value : A) (refusal : Refusal) → MeetsCommon {A = A} (Err refusal) → MeetsCommon (cond room (Ok value) (Err refusal))
chosen true value refusal common = tt
chosen false value refusal common = common

bound : {A B : Type 0} (read : Result A Refusal) (next : A → Result B Refusal) → MeetsCommon read → ((value : A) → MeetsCommon (next value)) → MeetsCommon (read >>= next)
bound (Ok value) next common behind = behind value
bound (Err (SyntaxAt line column)) next common behind = tt
bound (Err (LimitAt kind line)) next common behind = common

at_column : {A : Type 0} (read : Result A ℕ) (line : ℕ) → MeetsCommon (with_fault (SyntaxAt line) read)
at_column (Ok value) line = tt
at_column (Err column) line = tt

placed_common : (statement : Statement) (line : ℕ) (s : State) → MeetsCommon (placed line statement s)
unfolding placed open_block open_handler
placed_common (Does action) line s = tt
placed_common (Ticks time) line s = tt
placed_common OpensEach line s = chosen _ _ _ refl
placed_common (OpensWhen condition) line s = chosen _ _ _ refl
placed_common (OpensHandler name) line s = chosen _ _ _ refl
placed_common Ends line s = tt

step_common : (s : State) (line : Line) → MeetsCommon (step s line)
unfolding step
step_common s line = bound _ _ (at_column _ line.number) (λ statement. placed_common statement line.number s)

steps_common : (lines : List Line) (s : State) → MeetsCommon (steps s lines)
unfolding steps
steps_common [] s = tt
steps_common (l ∷ ls) s = bound (step s l) _ (step_common s l) (steps_common ls)

finished_common : (version : Version) (frames : List Frame) (items : List Item) (ending : Ending) → MeetsCommon (finished version frames items ending)
unfolding finished
finished_common version [] items (Whole next_line) = tt
finished_common version [] items (BadByte line column) = tt
finished_common version [] items (LongLine line) = refl
finished_common version (f ∷ fs) items (Whole next_line) = tt
finished_common version (f ∷ fs) items (BadByte line column) = tt
finished_common version (f ∷ fs) items (LongLine line) = refl

lines_common : (lines : List Line) (ending : Ending) → MeetsCommon (read_lines lines ending)
unfolding read_lines
lines_common [] (Whole next_line) = tt
lines_common [] (BadByte line column) = tt
lines_common [] (LongLine line) = refl
lines_common (l ∷ ls) ending =
    bound _ _ (at_column _ l.number) (λ version. bound _ _ (steps_common ls _) (λ s. finished_common s.version s.frames s.items ending))

pub lexed_common : (text : Lexed) → MeetsCommon (read_lexed text)
unfolding read_lexed
lexed_common text = lines_common text.lines text.ending

chosen_long : (long : Bool) (line : ℕ) (read : Result Script Refusal) → MeetsCommon read → MeetsCommon (cond long (Err (LimitAt limits.Script line)) read)
chosen_long true line read common = refl
chosen_long false line read common = common

reading_common : (text : List ℕ) → MeetsCommon (reading text)
unfolding reading
reading_common text =
    chosen_long (nat_lt (common_limit limits.Script) (length text)) (last_line (common_limit limits.Script) text) (read_lexed (lexed text))
    (lexed_common (lexed text))

pub met_is_common : (text : List ℕ) (kind : LimitKind) (line : ℕ) → reading text ≡ Err (LimitAt kind line) → IsCommon kind
met_is_common text kind line met = subst MeetsCommon met (reading_common text)
