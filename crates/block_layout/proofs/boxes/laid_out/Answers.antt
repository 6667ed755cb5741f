use Rattle.block_layout.specs.Around.{seen_given}
use Rattle.block_layout.specs.Seen.{seen_item}
use Rattle.block_layout.proofs.Parts.{box_is}
use Rattle.block_layout.proofs.boxes.laid_out.Goals as goal

pub returns-clause-value : goal.returns-clause-value
returns-clause-value c =
    box_is (seen_item c.args.style.now c.args.kind) (seen_given c.args.inputs) c.args.inside _ _ _ _ _
    c.used_width.ensures.value c.used_height.ensures.value
    c.around_content-around.ensures.margin c.around_content-around.ensures.border c.around_content-around.ensures.padding
