-- What a certificate promises for every run of every script that has these handlers, whatever else is in it (this project's own).
use Rattle.std.specs.Prelude.{◌≡◌, ℕ, false, List, Ok}
use Rattle.std.specs.List.{AllByRecursion}
use Rattle.text_io.specs.declared.kinds.Version.{Version}
use Rattle.script_model.specs.Syntax.{Item, Script}
use Rattle.script_model.specs.Scripts.{handlers_in}
use Rattle.script_model.specs.Reading.{reading}
use Rattle.page_model.specs.Outcome.{outcome}
use Rattle.loop_laws.specs.RunLoops.{loops_of_run}
use Rattle.loop_lint.specs.declared.kinds.Law.{Law}
use Rattle.loop_lint.specs.declared.kinds.Law.TheVariants as law
use Rattle.loop_lint.specs.LoopHandlers.{HasHandlersOf}
use Rattle.loop_lint.specs.RunLoops.{IsSteadyLoop, is_error_line}

-- every resize loop is steady
abbrev pub RunsSteadily : List Item → Type 0
RunsSteadily items =
    (version : Version) (other : List Item) → HasHandlersOf items other → AllByRecursion (IsSteadyLoop (handlers_in other)) (loops_of_run version other)

-- no line of a loop error is written
abbrev pub RunsQuietly : List Item → Type 0
RunsQuietly items =
    (text : List ℕ) (other : Script) → reading text ≡ Ok other → HasHandlersOf items (other.items) →
    AllByRecursion (λ line. is_error_line line ≡ false) (outcome text).lines

-- what is promised if the handlers of a script keep a law
abbrev pub Promises : Law → List Item → Type 0
Promises law.Steady items = RunsSteadily items
Promises law.Quiet items = RunsQuietly items
