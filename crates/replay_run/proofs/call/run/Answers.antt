use Rattle.std.proofs.Common.{◌∙◌, ap, inr, sym, Some}
use Rattle.run_replies.specs.declared.status.Status.TheVariants.{WriteFault}
use Rattle.run_replies.proofs.Telling.{unfailed}
use Rattle.run_replies.specs.declared.words.Words.TheVariants.{Script, Generated, Judge, Pages}
use Rattle.replay_run.proofs.Unread.{asked_memory, asked_refused, generated_left, generated_refused, judge_refused, pages_refused, script_refused}
use Rattle.replay_run.proofs.call.run.Goals as goal

-- nothing of the source is looked at
pub returns-in-Some-Generated-clause-read : goal.returns-in-Some-Generated-clause-read
returns-in-Some-Generated-clause-read g c =
    generated_left _ c.in-Some-Generated.job c.in-Some-Generated.number (sym c.read.ensures ∙ c.in-Some-Generated.is ∙ ap Some c.in-Some-Generated.field-0-is) c.perform_on_number.result.status
    (g.S.Source.left c.args.source.now)

pub returns-in-Some-Generated-clause-unfailed_write : goal.returns-in-Some-Generated-clause-unfailed_write
returns-in-Some-Generated-clause-unfailed_write g c = unfailed c.perform_on_number.result.status _ _ _ _ _ c.perform_on_number.ensures.tells

pub returns-in-Some-Script-clause-refused_steps : goal.returns-in-Some-Script-clause-refused_steps
returns-in-Some-Script-clause-refused_steps g c =
    asked_refused _ _ _ (Script c.in-Some-Script.job) _ (sym c.read.ensures ∙ c.in-Some-Script.is ∙ ap Some c.in-Some-Script.field-0-is)
    (script_refused _ _ c.in-Some-Script.job _ c.perform_on_source.ensures.refused_steps)

pub returns-in-Some-Generated-clause-refused_steps : goal.returns-in-Some-Generated-clause-refused_steps
returns-in-Some-Generated-clause-refused_steps g c =
    asked_refused _ _ _ (Generated c.in-Some-Generated.job c.in-Some-Generated.number) _ (sym c.read.ensures ∙ c.in-Some-Generated.is ∙ ap Some c.in-Some-Generated.field-0-is)
    (generated_refused _ _ c.in-Some-Generated.job c.in-Some-Generated.number _)

pub returns-in-Some-Judge-clause-refused_steps : goal.returns-in-Some-Judge-clause-refused_steps
returns-in-Some-Judge-clause-refused_steps g c =
    asked_refused _ _ _ Judge _ (sym c.read.ensures ∙ c.in-Some-Judge.is ∙ ap Some c.in-Some-Judge.field-0-is) (judge_refused _ _ _ c.judge_source.ensures.refused_steps)

pub returns-in-Some-Pages-clause-refused_steps : goal.returns-in-Some-Pages-clause-refused_steps
returns-in-Some-Pages-clause-refused_steps g c =
    asked_refused _ _ _ Pages _ (sym c.read.ensures ∙ c.in-Some-Pages.is ∙ ap Some c.in-Some-Pages.field-0-is) (pages_refused _ _ _)

pub returns-in-Some-Generated-clause-out_of_memory : goal.returns-in-Some-Generated-clause-out_of_memory
returns-in-Some-Generated-clause-out_of_memory g c =
    λ is. inr (generated_left _ c.in-Some-Generated.job c.in-Some-Generated.number (sym c.read.ensures ∙ c.in-Some-Generated.is ∙ ap Some c.in-Some-Generated.field-0-is) WriteFault
    (g.S.Source.left c.args.source.now))

pub returns-in-Some-Script-clause-out_of_memory : goal.returns-in-Some-Script-clause-out_of_memory
returns-in-Some-Script-clause-out_of_memory g c =
    λ is. asked_memory _ (Script c.in-Some-Script.job) _ _ (sym c.read.ensures ∙ c.in-Some-Script.is ∙ ap Some c.in-Some-Script.field-0-is) (c.perform_on_source.ensures.out_of_memory is)

pub returns-in-Some-Judge-clause-out_of_memory : goal.returns-in-Some-Judge-clause-out_of_memory
returns-in-Some-Judge-clause-out_of_memory g c =
    λ is. asked_memory _ Judge _ _ (sym c.read.ensures ∙ c.in-Some-Judge.is ∙ ap Some c.in-Some-Judge.field-0-is) (c.judge_source.ensures.out_of_memory is)

pub returns-in-Some-Pages-clause-out_of_memory : goal.returns-in-Some-Pages-clause-out_of_memory
returns-in-Some-Pages-clause-out_of_memory g c =
    λ is. asked_memory _ Pages _ _ (sym c.read.ensures ∙ c.in-Some-Pages.is ∙ ap Some c.in-Some-Pages.field-0-is) (c.run_pages.ensures.out_of_memory is)
