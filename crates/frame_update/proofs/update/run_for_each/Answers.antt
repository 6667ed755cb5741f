use Rattle.std.proofs.Common.{◌+◌, drop, refl, sym}
use Rattle.std.proofs.lemmas.List.{get_or_default}
use Rattle.element_tree.specs.declared.document.DocumentId.{DocumentId}
use Rattle.script_model.specs.Scripts.{handlers_in}
use Rattle.page_model.specs.Callbacks.{while_active, Script}
use Rattle.trace_runs.proofs.Loops.{each_more, each_none}
use Rattle.frame_update.specs.Parts.{part_of}
use Rattle.frame_update.proofs.Rendering.{over_each, over_same}
use Rattle.frame_update.proofs.Going.{run_begins, run_goes_on, run_is_cut, run_is_done}
use Rattle.frame_update.proofs.update.run_for_each.Goals as goal

pub loop-document-init : goal.loop-document-init
loop-document-init g c =
    run_begins refl c.requires.ready
    (sym (over_same (handlers_in c.args.run.now.script.now.items) c.args.documents.now c.args.part c.args.run.now.page.now.world))

pub loop-document-preserved : goal.loop-document-preserved
loop-document-preserved g c =
    run_goes_on c.loop-document.invariant c.in_ok-run_while_active.ensures refl (λ (script : Script). over_each script (drop (c.loop-document.document-index + 1) c.args.documents.now) c.args.part)
    (each_more (λ (document : DocumentId). while_active document.0 (part_of (handlers_in c.loop-document.run.script.now.items) c.args.part document.0)) c.args.documents.now c.loop-document.document-index _
    c.loop-document.run.page.now.world c.loop-document-test.true (get_or_default c.args.documents.now c.loop-document.document-index (record { 0 = 0 }) _ c.loop-document-test.true))

pub returns-in_err-run_while_active : goal.returns-in_err-run_while_active
returns-in_err-run_while_active g c =
    run_is_cut c.loop-document.invariant c.in_err-run_while_active.ensures refl (λ (script : Script). over_each script (drop (c.loop-document.document-index + 1) c.args.documents.now) c.args.part)
    (each_more (λ (document : DocumentId). while_active document.0 (part_of (handlers_in c.loop-document.run.script.now.items) c.args.part document.0)) c.args.documents.now c.loop-document.document-index _
    c.loop-document.run.page.now.world c.loop-document-test.true (get_or_default c.args.documents.now c.loop-document.document-index (record { 0 = 0 }) _ c.loop-document-test.true))
    c.from_residual.result c.from_residual.ensures

pub returns : goal.returns
returns g c =
    run_is_done c.loop-document.invariant refl c.loop-document.invariant.ready
    (each_none (λ (document : DocumentId). while_active document.0 (part_of (handlers_in c.loop-document.run.script.now.items) c.args.part document.0)) c.args.documents.now c.loop-document.document-index c.loop-document.run.page.now.world c.loop-document-test.false)
