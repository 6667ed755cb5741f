use Rattle.block_layout.proofs.Forests.{linked, shallow}
use Rattle.block_layout.specs.Trees.{layout_tree}
use Rattle.kept_layout.proofs.Shapes.{shaped}
use Rattle.page_tree.specs.Items.{style_in, kind_in}
use Rattle.page_boxes.proofs.Undue.{exact_here, fresh_here}
use Rattle.page_boxes.proofs.exact.undue_boxes_are_exact.Goals as goal

pub returns-clause-exact : goal.returns-clause-exact
returns-clause-exact c screen = exact_here c.args.page.now.tree screen c.args.boxes.now style_in kind_in c.holds.ensures.forest c.tree.ensures.nodes c.requires

pub returns-clause-fresh : goal.returns-clause-fresh
returns-clause-fresh c screen none =
    fresh_here c.args.page.now.tree c.tree.ensures.framed screen c.args.boxes.now none
    (layout_tree style_in kind_in c.tree.result.now.nodes) c.tree.ensures.nodes
    (shaped style_in kind_in c.holds.ensures.forest) (linked style_in kind_in c.holds.ensures.forest) (shallow style_in kind_in c.holds.ensures.forest) c.requires
