-- How the results of a page's calls correspond to the steps of the definitions. A call that fails leaves the world unchanged.
use Rattle.std.specs.Prelude.{◌≡◌, ◌<◌, true, List, [], ◌∷◌, length, Result, Ok, Err, IfOk}
use Rattle.script_model.specs.TraceLines.{TraceLine, TakeLine}
use Rattle.page_model.specs.World.{World}
use Rattle.page_model.specs.EntryLines.{intersection_lines}
use Rattle.page_model.specs.Names.{intersection_observer_text}
use Rattle.page_model.specs.Operands.{Handlers}
use Rattle.page_model.specs.Steps.{Step, Did, Threw, Met, is_did, Effect as ModelEffect}
use Rattle.trace_text.specs.Seen.{seen_line}
use Rattle.trace_text.specs.Ranges.{HasReach}
use Rattle.page_state.specs.Views.{PageView}
use Rattle.intersection_update.specs.Watching.{AreWritten}
use Rattle.page_state.specs.declared.answers.Effect.{Effect}
use Rattle.page_state.specs.declared.answers.Effect.TheVariants.{Nothing, Line, Taken}
use Rattle.page_state.specs.declared.answers.PageFault.{PageFault}
use Rattle.page_state.specs.declared.answers.PageFault.TheVariants.{Throw, Limit, Memory}

abbrev pub lines_of : World → Effect → List TraceLine
lines_of world Nothing = []
lines_of world (Line line) = seen_line line ∷ []
lines_of world (Taken observer entries) =
    TakeLine (intersection_observer_text (world.names) observer.0) (length entries) ∷ intersection_lines (world.names) observer.0 entries

-- a value, or why there is none; memory is refused only if the step gives a value
abbrev pub Gives : {A : Type 0} → Result A PageFault → Step A → Type 0
Gives (Ok value) step = step ≡ Did value
Gives (Err (Throw kind)) step = step ≡ Threw kind
Gives (Err (Limit kind)) step = step ≡ Met kind
Gives (Err Memory) step = is_did step ≡ true

-- the effect of a command, or why there is none; memory is refused only if the command would have been done
abbrev pub Applied : Result Effect PageFault → World → World → Step ModelEffect → Type 0
Applied (Ok effect) old new step = step ≡ Did (record { world = new; lines = lines_of new effect })
Applied (Err (Throw kind)) old new step = (step ≡ Threw kind) × (new ≡ old)
Applied (Err (Limit kind)) old new step = (step ≡ Met kind) × (new ≡ old)
Applied (Err Memory) old new step = (is_did step ≡ true) × (new ≡ old)

-- the same for a step that needs no memory and writes nothing
abbrev pub Moved : Result (Unit {0}) PageFault → World → World → Step World → Type 0
Moved (Ok done) old new step = step ≡ Did new
Moved (Err (Throw kind)) old new step = (step ≡ Threw kind) × (new ≡ old)
Moved (Err (Limit kind)) old new step = (step ≡ Met kind) × (new ≡ old)
Moved (Err Memory) old new step = ⊥

-- the line or the entries that are handed out are in the range that can be written, and the observer of the entries exists
abbrev pub IsHanded : World → Effect → Type 0
IsHanded world Nothing = Unit {0}
IsHanded world (Line line) = HasReach (seen_line line)
IsHanded world (Taken observer entries) =
    (observer.0 < length world.intersection_observers.made) × AreWritten (length world.tree.elements) entries

-- what each command promises, where `step` is its step in the definitions
pub record Kept (old new : PageView) (result : Result Effect PageFault) (step : Step ModelEffect) : Type 0 where
  pub applied : Applied result old.world new.world step
  pub begun : new.begun ≡ old.begun
  pub handed : IfOk result (IsHanded new.world)

-- the same for a command that calls no handler: its step is the same for all handlers
pub record Keeps (old new : PageView) (result : Result Effect PageFault) (step : Handlers → Step ModelEffect) : Type 0 where
  pub applied : (handlers : Handlers) → Applied result old.world new.world (step handlers)
  pub begun : new.begun ≡ old.begun
  pub handed : IfOk result (IsHanded new.world)
