use Rattle.std.proofs.Common.{◌∙◌, ℕ, List, subst}
use Rattle.trace_runs.specs.Writes.{FailsWithin}
use Rattle.trace_runs.proofs.Writes.{part_taken}
use Rattle.trace_judge.proofs.judgement.Judgement.write_to.Goals as goal

pub returns-clause-wrote : goal.returns-clause-wrote
returns-clause-wrote g c =
    subst (λ (text : List ℕ). FailsWithin (g.K.Sink.taken c.args.sink.now) (g.K.Sink.taken c.write_all.new.sink) (g.K.Sink.faults c.args.sink.now) (g.K.Sink.faults c.write_all.new.sink) text)
    (c.deref.ensures.value ∙ c.in-Ok.ensures)
    (record { part = part_taken _ _ _ c.in-Err.ensures.part; rose = c.in-Err.ensures.failed })
