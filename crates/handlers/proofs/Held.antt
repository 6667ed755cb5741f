-- A run that holds the script and the borrows that it had.
use Rattle.std.proofs.Common.{◌≡◌, ◌∙◌, ℕ, List, Option, length, refl, subst}
use Rattle.std.specs.Borrow.{Bor}
use Rattle.std.specs.Prelude.{Result}
use Rattle.script_model.specs.Scripts.{handlers_in}
use Rattle.script_model.specs.Syntax as syntax
use Rattle.page_model.specs.Callbacks.{Script}
use Rattle.page_model.specs.Runs.{Said, Flow}
use Rattle.page_model.specs.World.{World}
use Rattle.page_laws.specs.Ready.{IsReadyFor}
use Rattle.trace_runs.specs.declared.faults.RunFault.{RunFault}
use Rattle.trace_runs.specs.Runs.{Runs}
use Rattle.handlers.specs.Runs.{IsHeld}
use Rattle.handlers.specs.declared.run.Run.{Run}

-- nothing was done yet
pub held_first : {K L : Type 0} {run : Run K L} → IsHeld run run
held_first = record { script = refl; lent = refl }

-- one step after another
pub held_on : {K L : Type 0} {first now new : Run K L} → IsHeld first now → IsHeld now new → IsHeld first new
held_on here step = record { script = step.script ∙ here.script; lent = step.lent ∙ here.lent }

-- what was said over the script that a run has now was said over the one that it had, which is the same
pub over_first : {A S : Type 0} {flow : A → Flow} {state : S} {result : Result A RunFault} {before after : Option (List ℕ)} {f g : ℕ} {now first : Bor syntax.Script}
    (whole : Script → Said S) → now ≡ first
    → Runs flow state result before after f g (whole (handlers_in now.now.items)) → Runs flow state result before after f g (whole (handlers_in first.now.items))
over_first {flow = flow} {state} {result} {before} {after} {f} {g} whole same run =
    subst (λ (it : Bor syntax.Script). Runs flow state result before after f g (whole (handlers_in it.now.items))) same run

-- and the page is ready for that script
pub ready_first : (start before after : World) {now first : Bor syntax.Script} → now ≡ first
    → (IsReadyFor (length (handlers_in first.now.items)) start → IsReadyFor (length (handlers_in first.now.items)) before)
    → (IsReadyFor (length (handlers_in now.now.items)) before → IsReadyFor (length (handlers_in now.now.items)) after)
    → IsReadyFor (length (handlers_in first.now.items)) start → IsReadyFor (length (handlers_in first.now.items)) after
ready_first start before after same here step ready =
    subst
    (λ (it : Bor syntax.Script). IsReadyFor (length (handlers_in it.now.items)) before → IsReadyFor (length (handlers_in it.now.items)) after)
    same step (here ready)
