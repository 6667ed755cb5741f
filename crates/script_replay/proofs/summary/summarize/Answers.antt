use Rattle.std.proofs.Common.{◌≡◌, ◌∙◌, ap, sym}
use Rattle.std.specs.Prelude.{Ok}
use Rattle.page_model.specs.Outcome.{opening_world, outcome_read}
use Rattle.page_state.specs.Views.{PageView}
use Rattle.run_replies.specs.Statuses.{is_done}
use Rattle.run_replies.proofs.Telling.{if_done}
use Rattle.script_replay.proofs.summary.summarize.Goals as goal

pub summarize_on-status-requires : goal.summarize_on-status-requires
summarize_on-status-requires g c = record { opening = ap (λ (page : PageView). page.world) c.in-Ok.ensures.opened ∙ ap opening_world c.version.ensures }

pub returns-in-Ok-clause-tells : goal.returns-in-Ok-clause-tells
returns-in-Ok-clause-tells g c = rw c.with_page.ensures.status c.summarize_on-status.ensures.tells

pub returns-in-Ok-clause-page : goal.returns-in-Ok-clause-page
returns-in-Ok-clause-page g c = c.with_page.ensures.page ∙ ap is_done (sym c.with_page.ensures.status)

pub returns-in-Ok-clause-world : goal.returns-in-Ok-clause-world
returns-in-Ok-clause-world g c =
    if_done (λ (page : PageView). page.world ≡ (outcome_read (Ok c.args.script.now)).world) c.summarize_on-status.result c.with_page.result.page _ c.with_page.ensures.page c.with_page.ensures.same
    c.summarize_on-status.ensures.world
