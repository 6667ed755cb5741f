-- How a run goes on: what it writes, the state of its page afterwards, and that it holds the same borrows. This project's own
-- choice.
use Rattle.std.specs.Prelude.{◌≡◌, ℕ, List, Option, Result}
use Rattle.page_model.specs.Runs.{Said}
use Rattle.page_model.specs.World.{World}
use Rattle.trace_runs.specs.declared.faults.RunFault.{RunFault}
use Rattle.trace_runs.specs.Flows.{goes_on}
use Rattle.handlers.specs.Runs.{loans_of, world_of, Carries}
use Rattle.frame_update.specs.Ready.{IsPrepared}
use Rattle.handlers.specs.declared.run.Run.{Run}

-- the page is prepared for the run's next step
abbrev pub IsUnderWay : {K L : Type 0} → Run K L → Type 0
IsUnderWay run = IsPrepared run.script.now.items (world_of run)

-- a run before and after a step of the definitions: what the sink takes, how many writes fail and, at its end or at a limit, the world
-- of the page are as the definition says; the page is prepared for a next step, however this one ended; the script is the same; and the
-- page and the sink are those that were lent, so that the lender knows what became of them
pub record Goes {K L A : Type 0} (taken : K → Option (List ℕ)) (faults : K → ℕ) (old new : Run K L) (result : Result A RunFault) (said : Said World)
    : Type 0 where
  pub says : Carries goes_on taken faults old new result said
  pub ready : IsUnderWay new
  pub script : new.script ≡ old.script
  pub lent : loans_of new ≡ loans_of old
