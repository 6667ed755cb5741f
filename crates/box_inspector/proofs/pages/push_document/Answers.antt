use Rattle.std.proofs.Common.{◌++◌, map, ap, ◌∙◌}
use Rattle.std.proofs.lemmas.Result.{on_ok_weaker}
use Rattle.element_tree.specs.declared.node.NodeId.{NodeId}
use Rattle.page_model.specs.Shown.{Shown}
use Rattle.box_inspector.specs.Boxes.{box_line, boxed_elements}
use Rattle.box_inspector.proofs.Told.{by_number}
use Rattle.box_inspector.proofs.pages.push_document.Goals as goal

pub returns-clause-pushed : goal.returns-clause-pushed
returns-clause-pushed c =
    let world = c.args.page.now.world in
    let each = ap (map (λ (node : NodeId). box_line world (node.0))) c.deref.ensures.value
    ∙ by_number (box_line world) c.in_ok-nodes.nodes.items
    ∙ ap (map (box_line world)) (c.in_ok-nodes.ensures.list ∙ ap (λ (it : Shown). boxed_elements it c.args.document.0) c.requires.shown) in
    on_ok_weaker c.push_boxes.result (λ pushed. pushed ∙ ap (λ lines. c.args.lines.now.items ++ lines) each) c.push_boxes.ensures.pushed
