use Rattle.std.proofs.Common.{◌∙◌, ap}
use Rattle.trace_judge.specs.Judging.{judgement}
use Rattle.replay_run.proofs.Judged.{trace_judged}
use Rattle.replay_run.proofs.judging.judge_trace.Goals as goal

pub returns-clause-tells : goal.returns-clause-tells
returns-clause-tells g c =
    trace_judged c.write_to.result c.judge-judgement.result c.status_by.result c.status_of.result _ c.args.script _ _ _ _ _ (c.judge-judgement.ensures ∙ ap (λ t. judgement t c.args.recorded.now) c.taken.ensures) c.in-Ok.ensures.trace
    c.status_by.ensures c.status_of.ensures.status c.write_to.ensures.wrote
