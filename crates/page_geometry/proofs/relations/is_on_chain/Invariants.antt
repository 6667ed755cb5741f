use Rattle.std.proofs.Common.{◌≡◌, ◌<◌, length}
use Rattle.layout_model.specs.Nodes.{held, is_in_path}
use Rattle.block_layout.specs.Trees.{layout_tree}
use Rattle.positioned_layout.specs.Seen.{seen_holder, IfElement}
use Rattle.kept_layout.proofs.Held.{levels_from}
use Rattle.page_tree.specs.Items.{style_in, kind_in}
use Rattle.page_geometry.proofs.Ancestors.{is_from}
use Rattle.page_geometry.proofs.relations.is_on_chain.Given as goal

abbrev pub invariant-loop-held : goal.invariant-loop-held
invariant-loop-held l = record {
  within : IfElement l.held (λ element. element < length l.tree.nodes);
  on : is_from (layout_tree style_in kind_in l.tree.nodes) (l.fn.element.0) (seen_holder l.held)
      ≡ is_in_path (held (layout_tree style_in kind_in l.tree.nodes)) (l.fn.element.0) (l.fn.target.0);
}

abbrev pub decreases-loop-held : goal.decreases-loop-held
decreases-loop-held l = levels_from l.tree.nodes l.held
