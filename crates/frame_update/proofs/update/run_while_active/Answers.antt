use Rattle.std.proofs.Common.{refl, sym}
use Rattle.script_model.specs.Scripts.{handlers_in}
use Rattle.trace_runs.proofs.Runs.{run_same, silent_run}
use Rattle.frame_update.specs.Parts.{part_of}
use Rattle.frame_update.proofs.Going.{arrived, passed_on}
use Rattle.frame_update.proofs.Rendering.{while_active_rests, while_active_runs}
use Rattle.frame_update.proofs.update.run_while_active.Goals as goal

pub returns-then-not-is_active : goal.returns-then-not-is_active
returns-then-not-is_active g c =
    arrived refl refl c.requires.ready
    (run_same
    (sym
    (while_active_rests c.args.document.0 (part_of (handlers_in c.args.run.now.script.now.items) c.args.part c.args.document.0) c.args.run.now.page.now.world (sym c.if-not-is_active.ensures)))
    (silent_run refl))

pub returns : goal.returns
returns g c =
    passed_on c.run_part.ensures refl refl
    (run_same
    (sym
    (while_active_runs c.args.document.0 (part_of (handlers_in c.args.run.now.script.now.items) c.args.part c.args.document.0) c.args.run.now.page.now.world (sym c.if-not-is_active.ensures)))
    c.run_part.ensures.says)
