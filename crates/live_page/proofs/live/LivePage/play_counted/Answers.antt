use Rattle.std.proofs.Common.{◌∙◌, ap, length, rules, subst, sym}
use Rattle.script_model.specs.Scripts.{handlers_in}
use Rattle.page_model.specs.Outcome.{run_item}
use Rattle.page_model.specs.Runs.{for_each}
use Rattle.trace_runs.proofs.Runs.{run_same}
use Rattle.frame_update.proofs.Ready.{ready_for_more}
use Rattle.live_page.specs.Lives.{handlers_after, KeepsNames, LiveView}
use Rattle.live_page.proofs.Naming.{further_more}
use Rattle.live_page.proofs.Running.{further_said}
use Rattle.live_page.proofs.live.LivePage.play_counted.Goals as goal

pub play-requires : goal.play-requires
play-requires g c =
    let given = handlers_in c.args.script.items in
    record {
      ready =
          ready_for_more (length (handlers_in c.self.inside.script.items)) (length given) c.self.inside.page.world
          (further_more (handlers_in c.self.inside.script.items) given (λ none. c.if-handlers-eq0.false (c.handlers.ensures ∙ none))
          (subst (λ (live : LiveView). KeepsNames live.handlers (handlers_after live.handlers given)) (sym c.self.view_is) c.requires.kept))
          c.self.invariant;
    }

pub returns-clause-says : goal.returns-clause-says
returns-clause-says g c =
    let given = handlers_in c.args.script.items in
    let says =
    run_same
    (further_said c.args.script.items (handlers_in c.self.inside.script.items) c.self.inside.page.world (λ none. c.if-handlers-eq0.false (c.handlers.ensures ∙ none))
    ∙ ap (λ (live : LiveView). for_each (run_item (handlers_after (live.handlers) given)) c.args.script.items (live.page.world)) c.self.view_is)
    c.play.ensures.says in
    search (rules, says)
