-- What a line says, in the terms of the definition, and the ranges of its numbers.
use Rattle.std.specs.Prelude.{◌≡◌, ℕ, List, false, bytes_eq}
use Rattle.std.specs.List.{list_any}
use Rattle.script_model.specs.Statements as model
use Rattle.script_syntax.specs.declared.statements.Statement.{Statement}
use Rattle.script_syntax.specs.declared.statements.Statement.TheVariants as statement
use Rattle.script_syntax.specs.Allowed.{ActionAllowed, IsTime, TestAllowed}
use Rattle.script_syntax.specs.Seen.{action_of, condition_of}

abbrev pub statement_of : Statement → model.Statement
statement_of (statement.Does action) = model.Does (action_of action)
statement_of (statement.Ticks time) = model.Ticks time
statement_of statement.OpensEach = model.OpensEach
statement_of (statement.OpensWhen condition) = model.OpensWhen (condition_of condition)
statement_of (statement.OpensHandler name) = model.OpensHandler name
statement_of statement.Ends = model.Ends

abbrev pub StatementAllowed : Statement → Type 0
StatementAllowed (statement.Does action) = ActionAllowed action
StatementAllowed (statement.Ticks time) = IsTime time
StatementAllowed statement.OpensEach = Unit {0}
StatementAllowed (statement.OpensWhen condition) = TestAllowed condition.asks
StatementAllowed (statement.OpensHandler name) = Unit {0}
StatementAllowed statement.Ends = Unit {0}

-- a handler that the statement opens has none of these names
abbrev pub IsFreshAmong : List (List ℕ) → Statement → Type 0
IsFreshAmong names (statement.OpensHandler name) = list_any (bytes_eq name) names ≡ false
IsFreshAmong names other = Unit {0}
