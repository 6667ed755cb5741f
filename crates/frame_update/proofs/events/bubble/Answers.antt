use Rattle.std.proofs.Common.{refl, sym}
use Rattle.script_model.specs.Scripts.{handlers_in}
use Rattle.trace_runs.proofs.Runs.{run_same, silent_run}
use Rattle.frame_update.proofs.Going.{arrived}
use Rattle.frame_update.proofs.Firing.{other_event, other_target}
use Rattle.frame_update.proofs.events.bubble.Goals as goal

pub returns-in_default : goal.returns-in_default
returns-in_default g c =
    arrived refl refl c.requires.ready
    (run_same (sym (other_event (handlers_in c.args.run.now.script.now.items) c.args.event c.args.run.now.page.now.world c.args.target c.in_default.not-Scroll-1)) (silent_run refl))

pub returns-in_default-2 : goal.returns-in_default-2
returns-in_default-2 g c =
    arrived refl refl c.requires.ready
    (run_same (sym (other_target (handlers_in c.args.run.now.script.now.items) c.args.event c.args.run.now.page.now.world c.args.target c.in_default.not-Document-0)) (silent_run refl))
