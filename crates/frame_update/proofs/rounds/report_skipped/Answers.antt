use Rattle.std.proofs.Common.{refl, sym}
use Rattle.script_model.specs.Scripts.{handlers_in}
use Rattle.page_laws.proofs.Changes.{active-in}
use Rattle.trace_runs.proofs.Runs.{run_same, silent_run}
use Rattle.frame_update.proofs.Going.{arrived}
use Rattle.frame_update.proofs.Turns.{unreported_left, unreported_none}
use Rattle.frame_update.proofs.rounds.report_skipped.Goals as goal
use Rattle.frame_update.proofs.rounds.report_skipped.Goals.{then-not-is_active-via-then-not-is_active, then-not-is_active-via-else-not-is_active+then-not-has_skipped}

pub returns-then-not-is_active : goal.returns-then-not-is_active
returns-then-not-is_active g c =
    arrived refl refl c.requires.ready
    (run_same
    (elim c.then-not-is_active.branch [
      | then-not-is_active-via-then-not-is_active w ↦ unreported_left (handlers_in c.args.run.now.script.now.items) c.args.document.0 c.args.run.now.page.now.world (sym w.if-not-is_active.ensures)
      | then-not-is_active-via-else-not-is_active+then-not-has_skipped w ↦ unreported_none (handlers_in c.args.run.now.script.now.items) c.args.document.0 c.args.run.now.page.now.world (sym w.if-not-has_skipped.ensures)
    ])
    (silent_run refl))

pub label-requires : goal.label-requires
label-requires g c = active-in c.args.run.now.page.now.world.tree c.args.document.0 (sym c.if-not-is_active.ensures)
