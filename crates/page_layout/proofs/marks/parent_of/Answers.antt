use Rattle.std.proofs.Common.{option_map, ap, sym, ◌∙◌}
use Rattle.element_tree.specs.Forest.{parent_of}
use Rattle.element_tree.specs.Links.{number}
use Rattle.element_tree.proofs.Walks.{back_numbers}
use Rattle.block_layout.proofs.Nodes.{parent_is}
use Rattle.page_tree.specs.Items.{style_in, kind_in}
use Rattle.page_layout.proofs.Paths.{parent_is_made}
use Rattle.page_layout.proofs.marks.parent_of.Goals as goal

pub returns-clause-made : goal.returns-clause-made
returns-clause-made c =
    parent_is_made c.args.page.now.tree c.tree.ensures.framed.trees (c.args.node.0) c.parent.result
    (ap (option_map number) c.parent.ensures.value
    ∙ back_numbers (parent_of c.tree.result.now.nodes (c.args.node.0))
    ∙ sym (parent_is style_in kind_in c.tree.result.now.nodes (c.args.node.0))
    ∙ sym (ap (λ at. (at (c.args.node.0)).parent) c.tree.ensures.nodes))
