-- The reading of a text: the script that it is, or the first fault or limit in the order of its lines. Within a line the bytes are
-- checked first, then the words, then the limits on handlers and nested blocks. All of this is this project's own choice.
use Rattle.std.specs.Prelude.{ℕ, ◌+◌, Bool, true, false, cond, ◌==◌, nat_lt, List, [], ◌∷◌, length, take, reverse, count_by, Result, Ok, Err}
use Rattle.text_io.specs.declared.kinds.LimitKind.{LimitKind}
use Rattle.text_io.specs.declared.kinds.LimitKind.TheVariants as limits
use Rattle.text_io.specs.declared.kinds.Version.{Version}
use Rattle.text_io.specs.Limits.{common_limit}
use Rattle.script_model.specs.Syntax.{Condition, Command, Simple, Each, When, Block, NoMore, Then, Item, Outside, Tick, Handler, Script}
use Rattle.script_model.specs.TraceLines.{TraceLine, LimitLine, SyntaxLine}
use Rattle.script_model.specs.Readers.{◌>>=◌, with_fault, is_empty}
use Rattle.script_model.specs.Lexing.{Line, Ending, Whole, BadByte, LongLine, Lexed, lexed}
use Rattle.script_model.specs.Statements.{Statement, Does, Ticks, OpensEach, OpensWhen, OpensHandler, Ends, Standing, statement_of, version_as}

-- a fault at a column of a line, or a limit that a line meets
pub data Refusal : Type 0 where
  SyntaxAt : (line column : ℕ) → Refusal
  LimitAt : (limit : LimitKind) (line : ℕ) → Refusal

-- the trace of a text that is refused
abbrev pub refusal_line : Refusal → TraceLine
refusal_line (SyntaxAt line column) = SyntaxLine line column
refusal_line (LimitAt limit line) = LimitLine limit line (common_limit limit)

-- what a line opened and an `end` will close
pub data Opening : Type 0 where
  EachBlock : Opening
  WhenBlock : (condition : Condition) → Opening
  HandlerBlock : (name : List ℕ) → Opening

-- an open block or handler: its line, and the commands in it so far, in reverse order
pub record Frame : Type 0 where
  pub line : ℕ
  pub opening : Opening
  pub commands : List Command

-- what was read so far: the version; the open blocks and handlers, innermost first; the items, in reverse order; and the names of the
-- handlers
pub record State : Type 0 where
  pub version : Version
  pub frames : List Frame
  pub items : List Item
  pub names : List (List ℕ)

abbrev pub nothing_read : Version → State
nothing_read version = record { version = version; frames = []; items = []; names = [] }

unfoldable pub put_in : List Frame → Command → State → State
put_in [] command s = record s { items = Outside command ∷ s.items }
put_in (f ∷ fs) command s = record s { frames = record f { commands = command ∷ f.commands } ∷ fs }

-- a command belongs to the innermost block or handler that is open
unfoldable pub put : Command → State → State
unfolding put_in
put command s = put_in s.frames command s

-- these commands, which are in reverse order, put before those of a block
unfoldable pub block_before : List Command → Block → Block
block_before [] others = others
block_before (c ∷ cs) others = block_before cs (Then c others)

abbrev pub is_block : Opening → Bool
is_block EachBlock = true
is_block (WhenBlock condition) = true
is_block (HandlerBlock name) = false

unfoldable pub opened : ℕ → Opening → State → State
opened line opening s =
    record s { frames = record { line = line; opening = opening; commands = [] } ∷ s.frames }

-- opens a block, which may be nested in at most 15 others, not counting the handler
unfoldable pub open_block : ℕ → Opening → State → Result State Refusal
unfolding opened
open_block line opening s =
    cond (nat_lt (count_by (λ frame. is_block frame.opening) s.frames) (common_limit limits.Nesting))
    (Ok (opened line opening s)) (Err (LimitAt limits.Nesting line))

unfoldable pub open_handler : ℕ → List ℕ → State → Result State Refusal
unfolding opened
open_handler line name s =
    cond (nat_lt (length s.names) (common_limit limits.Handlers))
    (Ok (opened line (HandlerBlock name) (record s { names = name ∷ s.names })))
    (Err (LimitAt limits.Handlers line))

-- what an opening becomes once its block is closed: a command, or for a handler an item
unfoldable pub closed : Opening → ℕ → Block → ℕ → State → State
unfolding put
closed EachBlock line block end_line s = put (Each line block end_line) s
closed (WhenBlock condition) line block end_line s = put (When line condition block end_line) s
closed (HandlerBlock name) line block end_line s =
    record s { items = Handler line name block end_line ∷ s.items }

-- closes the innermost block or handler; an `end` is only read inside one
unfoldable pub close_in : List Frame → ℕ → State → State
unfolding closed block_before
close_in [] end_line s = s
close_in (f ∷ fs) end_line s =
    closed f.opening f.line (block_before f.commands NoMore) end_line (record s { frames = fs })

unfoldable pub placed : ℕ → Statement → State → Result State Refusal
unfolding put open_block open_handler close_in
placed line (Does action) s = Ok (put (Simple line action) s)
placed line (Ticks time) s = Ok (record s { items = Tick line time ∷ s.items })
placed line OpensEach s = open_block line EachBlock s
placed line (OpensWhen condition) s = open_block line (WhenBlock condition) s
placed line (OpensHandler name) s = open_handler line name s
placed line Ends s = Ok (close_in s.frames line s)

unfoldable pub standing : State → Standing
unfolding is_empty
standing s = record { version = s.version; outside = is_empty s.frames; names = s.names }

unfoldable pub step : State → Line → Result State Refusal
unfolding standing statement_of placed
step s line =
    with_fault (SyntaxAt line.number) (statement_of (standing s) line.row) >>= λ statement.
    placed line.number statement s

unfoldable pub steps : State → List Line → Result State Refusal
unfolding step
steps s [] = Ok s
steps s (l ∷ ls) = step s l >>= λ next. steps next ls

-- the refusal of a text that has no earlier fault but isn't a whole script at its ending
abbrev pub refused_at : Ending → Refusal
refused_at (Whole next_line) = SyntaxAt next_line 1
refused_at (BadByte line column) = SyntaxAt line column
refused_at (LongLine line) = LimitAt limits.Line line

-- nothing may be open at the end
unfoldable pub finished : Version → List Frame → List Item → Ending → Result Script Refusal
finished version [] items (Whole next_line) = Ok (record { version = version; items = reverse items })
finished version frames items ending = Err (refused_at ending)

-- the first line that has words is `script` and the version
unfoldable pub read_lines : List Line → Ending → Result Script Refusal
unfolding version_as steps finished
read_lines [] ending = Err (refused_at ending)
read_lines (l ∷ ls) ending =
    with_fault (SyntaxAt l.number) (version_as l.row) >>= λ version.
    steps (nothing_read version) ls >>= λ s. finished s.version s.frames s.items ending

unfoldable pub read_lexed : Lexed → Result Script Refusal
unfolding read_lines
read_lexed text = read_lines text.lines text.ending

-- the line of the first byte beyond the maximum length of a text
unfoldable pub last_line : ℕ → List ℕ → ℕ
last_line most text = 1 + count_by (λ byte. byte == 10) (take most text)

abbrev pub Reading : Type 0
Reading = Result Script Refusal

unfoldable pub reading : List ℕ → Reading
unfolding last_line read_lexed lexed
reading text =
    cond (nat_lt (common_limit limits.Script) (length text))
    (Err (LimitAt limits.Script (last_line (common_limit limits.Script) text))) (read_lexed (lexed text))
