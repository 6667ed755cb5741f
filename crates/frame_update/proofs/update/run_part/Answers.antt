use Rattle.std.proofs.Common.{◌∙◌, ap, refl, sym}
use Rattle.script_model.specs.Scripts.{handlers_in}
use Rattle.page_model.specs.Runs.{silent}
use Rattle.page_state.specs.Views.{PageView}
use Rattle.trace_runs.proofs.Runs.{memory_run, run_same, silent_run}
use Rattle.frame_update.specs.Parts.{part_of}
use Rattle.frame_update.proofs.Going.{arrived, cut_short}
use Rattle.frame_update.proofs.Ready.{still_prepared}
use Rattle.frame_update.proofs.update.run_part.Goals as goal

pub returns-in-Ok : goal.returns-in-Ok
returns-in-Ok g c =
    arrived refl refl (still_prepared c.args.run.now.script.now.items c.args.run.now.page.now.world c.update_intersections.new.self.world c.update_intersections.ensures.ready c.requires.ready)
    (run_same
    (ap (λ (page : PageView). silent (page.world)) c.in-Ok.ensures.updated
    ∙ ap (λ part. part_of (handlers_in c.args.run.now.script.now.items) part c.args.document.0 c.args.run.now.page.now.world) (sym c.in-Intersections.is))
    (silent_run refl))

pub returns-in-Err : goal.returns-in-Err
returns-in-Err g c =
    cut_short refl refl
    (still_prepared c.args.run.now.script.now.items c.args.run.now.page.now.world c.update_intersections.new.self.world c.update_intersections.ensures.ready c.requires.ready)
    (memory_run (part_of (handlers_in c.args.run.now.script.now.items) c.args.part c.args.document.0 c.args.run.now.page.now.world))
