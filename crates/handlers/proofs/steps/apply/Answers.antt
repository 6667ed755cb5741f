use Rattle.std.proofs.Common.{sym, ◌∙◌}
use Rattle.handlers.proofs.Answered.{applied_failed, refused_run, same_failed, target_same, told_run, untold_run}
use Rattle.handlers.proofs.steps.apply.Goals as goal

pub returns-in-Ok-tell-clause-says : goal.returns-in-Ok-tell-clause-says
returns-in-Ok-tell-clause-says g c =
    told_run _ _
    (sym (c.commands_read_the_target_alone.ensures _ _ _ _ _ (target_same c.args.subject.target c.args.subject.meets)) ∙ c.in-Ok.ensures.applied)
    c.in-Ok-tell.ensures

pub returns-in-Ok-clause-says : goal.returns-in-Ok-clause-says
returns-in-Ok-clause-says g c =
    untold_run c.in-Err-tell.fault _ _
    (sym (c.commands_read_the_target_alone.ensures _ _ _ _ _ (target_same c.args.subject.target c.args.subject.meets)) ∙ c.in-Ok.ensures.applied)
    c.in-Err-tell.ensures

pub returns-clause-says : goal.returns-clause-says
returns-clause-says g c =
    refused_run c.in-Err.fault _ c.refuse.result _ _ _ _ _ _ _ _ c.version.ensures
    (same_failed c.in-Err.fault _ _
    (c.commands_read_the_target_alone.ensures _ _ _ _ _ (target_same c.args.subject.target c.args.subject.meets))
    (applied_failed c.in-Err.fault _ _ _ c.in-Err.ensures.applied)) c.refuse.ensures
