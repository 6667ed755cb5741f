-- How a run goes on: what it writes, that its page stays ready, and that it holds the same borrows. This project's own choice.
use Rattle.std.specs.Prelude.{◌≡◌, ℕ, List, length, Option, Result}
use Rattle.script_model.specs.Scripts.{handlers_in}
use Rattle.page_model.specs.Callbacks.{Script}
use Rattle.page_model.specs.Runs.{Said, Flow}
use Rattle.page_model.specs.World.{World}
use Rattle.page_laws.specs.Ready.{IsReadyFor}
use Rattle.trace_runs.specs.declared.faults.RunFault.{RunFault}
use Rattle.trace_runs.specs.Runs.{Runs}
use Rattle.handlers.specs.declared.run.Run.{Run}

abbrev pub handlers_of : {K L : Type 0} → Run K L → Script
handlers_of run = handlers_in run.script.now.items

abbrev pub world_of : {K L : Type 0} → Run K L → World
world_of run = run.page.now.world

-- the ghost names of the borrows of the page and of the sink
abbrev pub loans_of : {K L : Type 0} → Run K L → ℕ × ℕ
loans_of run = (run.page.ghost_name, run.sink.ghost_name)

-- what the sink takes, how many writes fail and, at its end or at a limit, the world of the page are as the definition says
abbrev pub Carries : {K L A : Type 0} → (A → Flow) → (K → Option (List ℕ)) → (K → ℕ) → Run K L → Run K L → Result A RunFault → Said World → Type 0
Carries flow taken faults old new result said = Runs flow (world_of new) result (taken old.sink.now) (taken new.sink.now) (faults old.sink.now) (faults new.sink.now) said

-- a page that was ready for a tick of the script is still so
abbrev pub StaysReady : {K L : Type 0} → Run K L → Run K L → Type 0
StaysReady old new = IsReadyFor (length (handlers_of old)) (world_of old) → IsReadyFor (length (handlers_of old)) (world_of new)

-- the script is the same, and the page and the sink are those that were lent, so that the lender knows what became of them
pub record IsHeld {K L : Type 0} (old new : Run K L) : Type 0 where
  pub script : new.script ≡ old.script
  pub lent : loans_of new ≡ loans_of old
