use Rattle.std.proofs.Common.{◌+◌, ap, drop, get_or, refl, sym, ◌∙◌, List, ℕ}
use Rattle.std.proofs.lemmas.List.{get_or_default}
use Rattle.element_tree.specs.declared.document.DocumentId.{DocumentId}
use Rattle.element_tree.specs.Documents.{document_numbers}
use Rattle.script_model.specs.Scripts.{handlers_in}
use Rattle.page_model.specs.Runs.{for_each, ◌followed_by◌}
use Rattle.page_model.specs.Callbacks.{Script}
use Rattle.trace_runs.proofs.Loops.{each_more, each_none}
use Rattle.frame_update.specs.declared.update.Part.TheVariants.{Resizes}
use Rattle.frame_update.proofs.Rendering.{all_parts, over, update_all}
use Rattle.frame_update.proofs.Going.{run_begins, run_goes_on, run_is_cut, run_is_done}
use Rattle.frame_update.proofs.update.update_rendering.Goals as goal

pub loop-part-init : goal.loop-part-init
loop-part-init g c =
    run_begins refl c.requires.ready
    (update_all (handlers_in c.args.run.now.script.now.items) c.args.run.now.page.now.world
    ∙ ap (λ (documents : List ℕ). for_each (over (handlers_in c.args.run.now.script.now.items) documents) all_parts c.args.run.now.page.now.world) (sym c.in-Ok.ensures))

pub loop-part-preserved : goal.loop-part-preserved
loop-part-preserved g c =
    run_goes_on c.loop-part.invariant c.in_ok-run_for_each.ensures refl (λ (script : Script). for_each (over script (document_numbers c.in-Ok.documents.items)) (drop (c.loop-part.part-index + 1) all_parts))
    (each_more (over (handlers_in c.loop-part.run.script.now.items) (document_numbers c.in-Ok.documents.items)) all_parts c.loop-part.part-index _ c.loop-part.run.page.now.world c.loop-part-test.true (get_or_default all_parts c.loop-part.part-index Resizes _ c.loop-part-test.true)
    ∙ ap (λ (documents : List DocumentId). over (handlers_in c.loop-part.run.script.now.items) (document_numbers documents) (get_or all_parts c.loop-part.part-index Resizes) c.loop-part.run.page.now.world followed_by for_each (over (handlers_in c.loop-part.run.script.now.items) (document_numbers c.in-Ok.documents.items)) (drop (c.loop-part.part-index + 1) all_parts))
    (sym c.deref.ensures.value))

pub returns-in_err-run_for_each : goal.returns-in_err-run_for_each
returns-in_err-run_for_each g c =
    run_is_cut c.loop-part.invariant c.in_err-run_for_each.ensures refl (λ (script : Script). for_each (over script (document_numbers c.in-Ok.documents.items)) (drop (c.loop-part.part-index + 1) all_parts))
    (each_more (over (handlers_in c.loop-part.run.script.now.items) (document_numbers c.in-Ok.documents.items)) all_parts c.loop-part.part-index _ c.loop-part.run.page.now.world c.loop-part-test.true (get_or_default all_parts c.loop-part.part-index Resizes _ c.loop-part-test.true)
    ∙ ap (λ (documents : List DocumentId). over (handlers_in c.loop-part.run.script.now.items) (document_numbers documents) (get_or all_parts c.loop-part.part-index Resizes) c.loop-part.run.page.now.world followed_by for_each (over (handlers_in c.loop-part.run.script.now.items) (document_numbers c.in-Ok.documents.items)) (drop (c.loop-part.part-index + 1) all_parts))
    (sym c.deref.ensures.value))
    c.from_residual.result c.from_residual.ensures

pub returns : goal.returns
returns g c =
    run_is_done c.loop-part.invariant refl c.loop-part.invariant.ready
    (each_none (over (handlers_in c.loop-part.run.script.now.items) (document_numbers c.in-Ok.documents.items)) all_parts c.loop-part.part-index c.loop-part.run.page.now.world c.loop-part-test.false)
