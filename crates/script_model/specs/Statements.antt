-- What one line of a script says. That depends on where it is: `handler` and `tick` are allowed only outside handlers and blocks, `end`
-- only inside, no two handlers may have the same name, and each version of the language has its own commands. All of this is this
-- project's own choice.
use Rattle.std.specs.Prelude.{ℕ, Bool, true, false, cond, ◌&&◌, not, List, [], ◌∷◌, Option, Some, None, option_and_then, Result, Ok, bytes_eq, codes}
use Rattle.std.specs.List.{list_any}
use Rattle.word_model.specs.Names.{is_name}
use Rattle.text_io.specs.declared.kinds.Version.{Version}
use Rattle.script_model.specs.Syntax.{Action, Test, Condition}
use Rattle.script_model.specs.Readers.{◌>>=◌}
use Rattle.script_model.specs.Keywords.{lookup}
use Rattle.script_model.specs.Lexing.{Word, Row}
use Rattle.script_model.specs.Forms.{word_as, none_left, WholeForm, made}
use Rattle.script_model.specs.Commands.{TestShape, TestOf, tests, Head, ActionHead, TickHead, EachHead, WhenHead, HandlerHead, EndHead, heads_in}
use Rattle.script_model.specs.Words.{just, versions}

pub data Statement : Type 0 where
  Does : (action : Action) → Statement
  Ticks : (time : ℕ) → Statement
  OpensEach : Statement
  OpensWhen : (condition : Condition) → Statement
  OpensHandler : (name : List ℕ) → Statement
  Ends : Statement

-- the context of a line: the version of the script, whether the line is outside handlers and blocks, and the names of the handlers so far
pub record Standing : Type 0 where
  pub version : Version
  pub outside : Bool
  pub names : List (List ℕ)

-- the head, if it is allowed in a line that is outside (`true`) or inside (`false`)
unfoldable pub permitted : Bool → Head → Option Head
permitted true EndHead = None
permitted true head = Some head
permitted false TickHead = None
permitted false HandlerHead = None
permitted false head = Some head

unfoldable pub head_of : Version → Bool → List ℕ → Option Head
unfolding permitted lookup
head_of version outside text = option_and_then (permitted outside) (lookup (heads_in version) text)

-- a name, if no handler has it yet
unfoldable pub fresh_name_of : List (List ℕ) → List ℕ → Option (List ℕ)
fresh_name_of names text = cond (is_name text && not (list_any (bytes_eq text) names)) (Some text) None

-- whether `not` comes next, and the row after it
unfoldable pub negation_in : List Word → Row → Bool × Row
negation_in [] row = (false, row)
negation_in (w ∷ ws) row = cond (bytes_eq w.text (codes "not")) (true, record row { left = ws }) (false, row)

unfoldable pub test_in : TestShape → Row → Result Test ℕ
unfolding made
test_in (TestOf forms makes) row = made forms makes row

unfoldable pub condition_behind : Bool → Row → Result Condition ℕ
unfolding word_as lookup test_in
condition_behind negated row =
    word_as (lookup tests) row >>= λ test.
    test_in test.0 test.1 >>= λ asks. Ok (record { negated = negated; asks = asks })

unfoldable pub condition_as : Row → Result Condition ℕ
unfolding negation_in condition_behind
condition_as row = condition_behind (negation_in row.left row).0 (negation_in row.left row).1

unfoldable pub handler_as : List (List ℕ) → Row → Result Statement ℕ
unfolding word_as fresh_name_of none_left
handler_as names row =
    word_as (fresh_name_of names) row >>= λ name. none_left name.1 >>= λ end. Ok (OpensHandler name.0)

unfoldable pub operands_of : List (List ℕ) → Head → Row → Result Statement ℕ
unfolding made condition_as handler_as
operands_of names (ActionHead forms makes) row = made forms makes row >>= λ action. Ok (Does action)
operands_of names TickHead row = made (WholeForm ∷ []) Ticks row
operands_of names EachHead row = made [] OpensEach row
operands_of names WhenHead row = condition_as row >>= λ condition. Ok (OpensWhen condition)
operands_of names HandlerHead row = handler_as names row
operands_of names EndHead row = made [] Ends row

-- what a line says, or the column of its first fault
unfoldable pub statement_of : Standing → Row → Result Statement ℕ
unfolding word_as head_of operands_of
statement_of standing row =
    word_as (head_of standing.version standing.outside) row >>= λ head. operands_of standing.names head.0 head.1

-- the first line of a script, which gives its version
unfoldable pub version_as : Row → Result Version ℕ
unfolding word_as just lookup none_left
version_as row =
    word_as (just (codes "script")) row >>= λ script.
    word_as (lookup versions) script.1 >>= λ version. none_left version.1 >>= λ end. Ok version.0
