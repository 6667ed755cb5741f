use Rattle.std.proofs.Common.{◌≡◌, ◌∙◌, ap, refl, sym}
use Rattle.std.specs.Prelude.{Ok}
use Rattle.page_model.specs.Outcome.{opening_world, outcome_read}
use Rattle.page_state.specs.Views.{PageView}
use Rattle.trace_runs.proofs.Writes.{no_line}
use Rattle.run_replies.specs.Statuses.{is_done}
use Rattle.run_replies.proofs.Telling.{if_done}
use Rattle.run_replies.proofs.Endings.{memory_answers}
use Rattle.script_replay.proofs.script.run_script.Goals as goal

pub run_on-status-requires : goal.run_on-status-requires
run_on-status-requires g c = record { opening = ap (λ (page : PageView). page.world) c.in-Ok.ensures.opened ∙ ap opening_world c.version.ensures }

pub returns-in-Ok-clause-answers : goal.returns-in-Ok-clause-answers
returns-in-Ok-clause-answers g c = rw c.with_page.ensures.status c.run_on-status.ensures.answers

pub returns-in-Ok-clause-page : goal.returns-in-Ok-clause-page
returns-in-Ok-clause-page g c = c.with_page.ensures.page ∙ ap is_done (sym c.with_page.ensures.status)

pub returns-in-Ok-clause-world : goal.returns-in-Ok-clause-world
returns-in-Ok-clause-world g c =
    if_done (λ (page : PageView). page.world ≡ (outcome_read (Ok c.args.script.now)).world) c.run_on-status.result c.with_page.result.page _ c.with_page.ensures.page c.with_page.ensures.same
    c.run_on-status.ensures.world

pub returns-in-Err-clause-answers : goal.returns-in-Err-clause-answers
returns-in-Err-clause-answers g c = rw c.without_page.ensures (memory_answers _ _ refl _ _ _ (no_line _ _, refl))
