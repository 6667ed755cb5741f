use Rattle.std.proofs.Common.{ap, sym, ◌∙◌}
use Rattle.std.specs.Prelude.{not, ◌&&◌}
use Rattle.layout_model.specs.Clips.{is_block}
use Rattle.layout_model.proofs.Inputs.{box_child, box_top, is_some_inputs}
use Rattle.layout_model.proofs.laws.boxes_go_down.Goals as goal

pub returns-clause-root : goal.returns-clause-root
returns-clause-root c at root viewport n top = is_some_inputs at root viewport n ∙ box_top at root n top

pub returns-clause-child : goal.returns-clause-child
returns-clause-child c at root viewport n p is short =
    is_some_inputs at root viewport n
    ∙ box_child at root n p is short
    ∙ ap (λ boxed. not ((at n).item.style.hidden) && (is_block ((at p).item.kind) && boxed)) (sym (is_some_inputs at root viewport p))
