use Rattle.std.proofs.Common.{drop}
use Rattle.element_tree.specs.Documents.{document_numbers}
use Rattle.page_model.specs.Callbacks.{Script}
use Rattle.page_model.specs.Runs.{for_each}
use Rattle.page_model.specs.Ticks.{update_rendering}
use Rattle.frame_update.proofs.Going.{IsOnItsWay}
use Rattle.frame_update.proofs.Rendering.{all_parts, over}
use Rattle.frame_update.proofs.update.update_rendering.Given as goal

-- the parts up to here were run, and those from here on follow
abbrev pub invariant-loop-part : goal.invariant-loop-part
invariant-loop-part g l =
    IsOnItsWay g.K.Sink.taken g.K.Sink.faults l.fn.run l.run (λ (script : Script). update_rendering script l.fn.run.page.now.world)
    (λ (script : Script). for_each (over script (document_numbers l.documents.items)) (drop l.part-index all_parts) l.run.page.now.world)
