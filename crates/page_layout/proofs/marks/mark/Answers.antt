use Rattle.std.proofs.Common.{Option, option_map, sym, subst}
use Rattle.element_tree.specs.declared.node.NodeId.{NodeId}
use Rattle.element_tree.specs.Links.{number}
use Rattle.block_layout.specs.Trees.{layout_tree}
use Rattle.page_tree.specs.Items.{style_in, kind_in}
use Rattle.page_layout.specs.Marks.{is_over, MarksOnly, Mends}
use Rattle.page_layout.proofs.Marking.{marks_over, mends_over}
use Rattle.page_layout.proofs.marks.mark.Goals as goal

pub returns-in-Some-clause-mended : goal.returns-in-Some-clause-mended
returns-in-Some-clause-mended c =
    subst (λ (node : Option NodeId). Mends c.args.page.now.tree (option_map number node) c.args.boxes.now c.mark.new.self) (sym c.in-Some.is)
    (mends_over c.args.page.now.tree c.tree.ensures.framed.trees c.args.boxes.now c.mark.new.self (c.in-Some.named.0) (c.requires.made c.in-Some.named c.in-Some.is)
    c.requires.slots (layout_tree style_in kind_in c.tree.result.now.nodes) c.tree.ensures.nodes c.mark.ensures.slots c.mark.ensures.marks c.mark.ensures.mended)

pub returns-in-Some-clause-marks : goal.returns-in-Some-clause-marks
returns-in-Some-clause-marks c =
    subst (λ (node : Option NodeId). MarksOnly (is_over c.args.page.now.tree (option_map number node)) c.args.boxes.now c.mark.new.self) (sym c.in-Some.is)
    (marks_over c.args.page.now.tree c.tree.ensures.framed.trees c.args.boxes.now c.mark.new.self (c.in-Some.named.0) (c.requires.made c.in-Some.named c.in-Some.is)
    c.requires.slots (layout_tree style_in kind_in c.tree.result.now.nodes) c.tree.ensures.nodes c.mark.ensures.slots c.mark.ensures.marks)

pub returns-in_default-clause-mended : goal.returns-in_default-clause-mended
returns-in_default-clause-mended c =
    subst (λ (node : Option NodeId). Mends c.args.page.now.tree (option_map number node) c.args.boxes.now c.args.boxes.now) (sym c.in_default.is) (λ others was. was)
