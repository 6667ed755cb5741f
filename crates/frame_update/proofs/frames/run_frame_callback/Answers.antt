use Rattle.std.proofs.Common.{ap, refl}
use Rattle.std.specs.Prelude.{Some}
use Rattle.script_model.specs.TraceLines.{FrameLine}
use Rattle.page_laws.proofs.Changes.{active-in}
use Rattle.frame_update.proofs.Called.{told_run, untold_run}
use Rattle.frame_update.proofs.Going.{passed_on, stopped}
use Rattle.frame_update.proofs.frames.run_frame_callback.Goals as goal

pub label-name-requires : goal.label-name-requires
label-name-requires g c = active-in (c.args.run.now.page.now.world.tree) c.args.document.0 c.requires.active

pub returns-in_err-write_one : goal.returns-in_err-write_one
returns-in_err-write_one g c =
    stopped c.from_residual.result c.in_err-write_one.field-0.0 c.from_residual.ensures refl refl c.requires.ready
    (untold_run _ c.args.document.0 (Some c.args.handler.0) c.args.run.now.page.now.world (ap (λ name. FrameLine name c.args.key) c.label-name.ensures) c.in_err-write_one.field-0.0
    c.in_err-write_one.ensures.told)

pub returns : goal.returns
returns g c =
    passed_on c.call_handler.ensures refl refl
    (told_run _ c.args.document.0 (Some c.args.handler.0) c.args.run.now.page.now.world (ap (λ name. FrameLine name c.args.key) c.label-name.ensures) c.call_handler.result
    c.in_ok-write_one.ensures.told c.call_handler.ensures.says)
