use Rattle.std.proofs.Common.{drop}
use Rattle.element_tree.specs.Documents.{document_numbers}
use Rattle.page_model.specs.Callbacks.{Script}
use Rattle.frame_update.proofs.Going.{IsOnItsWay}
use Rattle.frame_update.proofs.Rendering.{over, over_each}
use Rattle.frame_update.proofs.update.run_for_each.Given as goal

-- the part was run for the documents up to here, and those from here on follow
abbrev pub invariant-loop-document : goal.invariant-loop-document
invariant-loop-document g l =
    IsOnItsWay g.K.Sink.taken g.K.Sink.faults l.fn.run l.run (λ (script : Script). over script (document_numbers l.documents) l.part l.fn.run.page.now.world)
    (λ (script : Script). over_each script (drop l.document-index l.documents) l.part l.run.page.now.world)
