use Rattle.std.proofs.Common.{ap, ◌∙◌}
use Rattle.layout_model.specs.Boxes.{child_inputs}
use Rattle.block_layout.specs.Seen.{seen_inputs, seen_item}
use Rattle.block_layout.proofs.Parts.{item_same}
use Rattle.block_layout.proofs.boxes.child_inputs.Goals as goal

pub returns-clause-value : goal.returns-clause-value
returns-clause-value g c =
    c.handed_down.ensures.value
    ∙ ap (child_inputs (seen_item c.style.result.now c.kind.result)) c.unsigned.ensures
    ∙ ap (λ item. child_inputs item (seen_inputs c.args.inputs)) (item_same _ _ _ _ c.style.ensures.value c.kind.ensures)
