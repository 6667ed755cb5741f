-- A page that a host keeps, and what scripts and ticks do on it. All of this is this project's own choice.
use Rattle.std.specs.Prelude.{◌≡◌, ℕ, ◌<◌, List, [], ◌∷◌, length, codes, slice_get, Option, None, Some, option_map, Result, Ok, Err}
use Rattle.text_io.specs.declared.kinds.LimitKind.{LimitKind}
use Rattle.text_io.specs.declared.kinds.Version.{Version}
use Rattle.text_io.specs.declared.kinds.Version.TheVariants.{First, Second}
use Rattle.script_model.specs.Reading.{reading}
use Rattle.script_model.specs.Scripts.{NamedBlock, handlers_in}
use Rattle.script_model.specs.Syntax.{Script}
use Rattle.script_syntax.specs.Allowed.{IsTime}
use Rattle.script_syntax.specs.Parsing.{Parses}
use Rattle.page_model.specs.Outcome.{run_item, run_tick}
use Rattle.page_model.specs.Runs.{Said, caught, for_each}
use Rattle.page_model.specs.Steps.{Step, Did, Threw, Met}
use Rattle.page_model.specs.World.{World}
use Rattle.page_state.specs.Views.{PageView}
use Rattle.trace_runs.specs.Flows.{goes_on}
use Rattle.trace_runs.specs.Runs.{Runs}
use Rattle.trace_runs.specs.declared.faults.RunFault.{RunFault}
use Rattle.live_page.specs.declared.faults.LiveFault.{LiveFault}
use Rattle.live_page.specs.declared.faults.LiveFault.TheVariants.{Text, OtherVersion, OtherHandlers, Time, Stopped}

-- the handlers of a page, numbered from 0, and the page
pub record LiveView : Type 0 where
  pub handlers : List NamedBlock
  pub page : PageView

-- the handlers of a page once a further script was given: the script's own, or if it has none those that the page has
abbrev pub handlers_after : List NamedBlock → List NamedBlock → List NamedBlock
handlers_after known [] = known
handlers_after known (handler ∷ handlers) = handler ∷ handlers

abbrev pub name_at : List NamedBlock → ℕ → Option (List ℕ)
name_at handlers number = option_map (λ (it : NamedBlock). it.name) (slice_get handlers number)

-- each handler has the same name under its number, so what refers to it by number refers to the one of that name
abbrev pub KeepsNames : List NamedBlock → List NamedBlock → Type 0
KeepsNames known after = (number : ℕ) → number < length known → name_at after number ≡ name_at known number

-- the page, its handlers and the sink are as they were
abbrev pub Unchanged : LiveView → LiveView → Option (List ℕ) → Option (List ℕ) → ℕ → ℕ → Type 0
Unchanged old new before after faults faults_after = (new ≡ old) × (after ≡ before) × (faults_after ≡ faults)

-- a run on the page, to its end or to where it was cut off; the page has these handlers then
pub record LiveRuns {A : Type 0} (handlers : List NamedBlock) (result : Result A RunFault) (new : LiveView) (before after : Option (List ℕ)) (faults faults_after : ℕ)
    (said : Said World) : Type 0 where
  pub handlers_are : new.handlers ≡ handlers
  pub runs : Runs goes_on (new.page.world) result before after faults faults_after said

-- a tick that no line asks for
abbrev pub Ticked : {A : Type 0} → ℕ → Result A LiveFault → LiveView → LiveView → Option (List ℕ) → Option (List ℕ) → ℕ → ℕ → Type 0
Ticked time (Ok value) old new before after faults faults_after =
    IsTime time × LiveRuns (old.handlers) (Ok value) new before after faults faults_after (caught (run_tick (old.handlers) 0 time (old.page.world)))
Ticked {A = A} time (Err (Stopped fault)) old new before after faults faults_after =
    IsTime time × LiveRuns {A = A} (old.handlers) (Err fault) new before after faults faults_after (caught (run_tick (old.handlers) 0 time (old.page.world)))
Ticked time (Err Time) old new before after faults faults_after = (IsTime time → ⊥) × Unchanged old new before after faults faults_after
Ticked time (Err fault) old new before after faults faults_after = ⊥

-- what the items of a script do on a page, with the handlers that the page has once the script was given
abbrev pub said_further : Script → LiveView → Said World
said_further script old = for_each (run_item (handlers_after (old.handlers) (handlers_in (script.items)))) (script.items) (old.page.world)

-- a script can be run on a page: it is of its version, and each handler that the page has keeps its number
pub record GoesWith (script : Script) (old : LiveView) : Type 0 where
  pub version : script.version ≡ old.page.world.version
  pub names : KeepsNames old.handlers (handlers_after old.handlers (handlers_in script.items))

-- a further script on a page
abbrev pub Played : {A : Type 0} → Script → Result A LiveFault → LiveView → LiveView → Option (List ℕ) → Option (List ℕ) → ℕ → ℕ → Type 0
Played script (Ok value) old new before after faults faults_after =
    GoesWith script old × LiveRuns (handlers_after (old.handlers) (handlers_in (script.items))) (Ok value) new before after faults faults_after (said_further script old)
Played {A = A} script (Err (Stopped fault)) old new before after faults faults_after =
    GoesWith script old × LiveRuns {A = A} (handlers_after (old.handlers) (handlers_in (script.items))) (Err fault) new before after faults faults_after (said_further script old)
Played script (Err OtherVersion) old new before after faults faults_after =
    (script.version ≡ old.page.world.version → ⊥) × Unchanged old new before after faults faults_after
Played script (Err OtherHandlers) old new before after faults faults_after =
    (script.version ≡ old.page.world.version) × (KeepsNames old.handlers (handlers_after old.handlers (handlers_in script.items)) → ⊥)
    × Unchanged old new before after faults faults_after
Played script (Err fault) old new before after faults faults_after = ⊥

-- a text as a further script
abbrev pub RunsText : {A : Type 0} → List ℕ → Result A LiveFault → LiveView → LiveView → Option (List ℕ) → Option (List ℕ) → ℕ → ℕ → Type 0
RunsText text (Err (Text fault)) old new before after faults faults_after =
    Parses (Err fault) (reading text) × Unchanged old new before after faults faults_after
RunsText text result old new before after faults faults_after =
    (script : Script) × (reading text ≡ Ok script) × Played script result old new before after faults faults_after

-- the script of a version that has no items
abbrev pub empty_text : Version → List ℕ
empty_text First = codes "script 1\n"
empty_text Second = codes "script 2\n"

-- the limit that a step met
abbrev pub met_by : {A : Type 0} → Step A → Option LimitKind
met_by (Did value) = None
met_by (Threw kind) = None
met_by (Met kind) = Some kind
