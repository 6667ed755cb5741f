use Rattle.std.proofs.Common.{refl, sym}
use Rattle.text_io.specs.declared.kinds.EventKind.TheVariants as events
use Rattle.script_model.specs.Scripts.{handlers_in}
use Rattle.script_model.specs.TraceLines.{FiredScroll}
use Rattle.page_model.specs.Callbacks.{fire}
use Rattle.page_model.specs.Names.{container_text}
use Rattle.page_model.specs.Ticks.{event_target_of}
use Rattle.container_model.specs.Seen.{seen_container}
use Rattle.trace_runs.proofs.Runs.{only_if_false, run_same, silent_run}
use Rattle.frame_update.proofs.Going.{arrived}
use Rattle.frame_update.proofs.steps.scroll_step.Goals as goal

pub returns-then-not-is_active : goal.returns-then-not-is_active
returns-then-not-is_active g c =
    arrived refl refl c.requires.ready
    (run_same
    (sym
    (only_if_false
    (λ now. fire (handlers_in c.args.run.now.script.now.items) (FiredScroll (container_text (now.names) (seen_container c.args.target))) (event_target_of (seen_container c.args.target)) events.Scroll now)
    c.args.run.now.page.now.world (sym c.if-not-is_active.ensures)))
    (silent_run refl))
