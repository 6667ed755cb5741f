use Rattle.std.proofs.Common.{ap, sym, ◌∙◌}
use Rattle.layout_model.specs.Boxes.{inner_children}
use Rattle.layout_model.specs.Clips.{is_block}
use Rattle.element_tree.specs.Forest.{first_of, children_of}
use Rattle.element_tree.specs.Links.{node_ids}
use Rattle.block_layout.specs.Seen.{seen_kind}
use Rattle.block_layout.proofs.Nodes.{kids_is, kids_leaf, no_block}
use Rattle.block_layout.proofs.trees.first_inner.Goals as goal

pub returns-in-Block-clause-value : goal.returns-in-Block-clause-value
returns-in-Block-clause-value g c =
    c.first_child.ensures.value
    ∙ ap
    (λ xs. node_ids (first_of xs))
    (sym
    (kids_is g.P.Styled.style g.P.Styled.kind c.args.tree.now.nodes (c.args.node.0) _ c.payload.ensures.value
    ∙ ap (λ k. inner_children k (children_of c.args.tree.now.nodes (c.args.node.0))) (sym c.kind.ensures ∙ ap seen_kind c.in-Block.is)))

pub returns-in-Image : goal.returns-in-Image
returns-in-Image g c =
    record {
      value = sym
          (ap
          (λ xs. node_ids (first_of xs))
          (kids_leaf g.P.Styled.style g.P.Styled.kind c.args.tree.now.nodes (c.args.node.0) _ c.payload.ensures.value
          (ap is_block (sym c.kind.ensures) ∙ no_block _ c.in-Image.is)));
      forest = c.payload.ensures.forest;
    }
