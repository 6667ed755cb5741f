use Rattle.std.proofs.Common.{ap, sym, ◌∙◌}
use Rattle.layout_model.specs.Clips.{is_block}
use Rattle.block_layout.specs.Seen.{seen_kind}
use Rattle.block_layout.proofs.Nodes.{item_is, no_block}
use Rattle.block_layout.proofs.trees.is_block.Goals as goal

pub returns-in-Block-clause-value : goal.returns-in-Block-clause-value
returns-in-Block-clause-value g c =
    sym
    (ap (λ item. is_block (item.kind)) (item_is g.P.Styled.style g.P.Styled.kind c.args.tree.now.nodes (c.args.node.0) _ c.payload.ensures.value)
    ∙ ap is_block (sym c.kind.ensures) ∙ ap (λ k. is_block (seen_kind k)) c.in-Block.is)

pub returns-in-Image : goal.returns-in-Image
returns-in-Image g c =
    record {
      value = sym
          (ap (λ item. is_block (item.kind)) (item_is g.P.Styled.style g.P.Styled.kind c.args.tree.now.nodes (c.args.node.0) _ c.payload.ensures.value)
          ∙ ap is_block (sym c.kind.ensures) ∙ no_block _ c.in-Image.is);
      forest = c.payload.ensures.forest;
    }
