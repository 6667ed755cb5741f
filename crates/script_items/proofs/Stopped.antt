-- A step that was cut off, and the run of which it was one.
use Rattle.std.proofs.Common.{◌≡◌, ℕ, List, Option, subst, sym}
use Rattle.std.specs.Prelude.{Result, Ok, Err}
use Rattle.std.specs.Result.{IsErr, IsErrAnd}
use Rattle.page_model.specs.Runs.{Said, Flow}
use Rattle.trace_runs.specs.declared.faults.RunFault.{RunFault}
use Rattle.trace_runs.specs.Runs.{Runs}

-- the fault is that of the step
pub stopped_run : {A S : Type 0} {flow : A → Flow} {state : S} (result : Result A RunFault) (fault : RunFault) {before after : Option (List ℕ)} {f g : ℕ} {said : Said S}
    → IsErr result × IsErrAnd result (λ (it : RunFault). it ≡ fault) → Runs flow state (Err fault) before after f g said → Runs flow state result before after f g said
stopped_run (Ok value) fault is run = absurd (cc)
stopped_run {flow = flow} {state} (Err it) fault {before} {after} {f} {g} {said} is run = subst (λ (it : RunFault). Runs flow state (Err it) before after f g said) (sym is.1) run
