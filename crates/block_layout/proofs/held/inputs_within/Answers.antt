use Rattle.std.proofs.Common.{Some, option_map, ap, sym, ◌∙◌}
use Rattle.layout_model.specs.Clips.{is_block}
use Rattle.block_layout.specs.Seen.{seen_inputs, seen_kind}
use Rattle.block_layout.proofs.Nodes.{handed_block, handed_leaf, no_block}
use Rattle.block_layout.proofs.held.inputs_within.Goals as goal

pub returns-in-Some-clause-value : goal.returns-in-Some-clause-value
returns-in-Some-clause-value g c =
    ap Some c.child_inputs.ensures.value
    ∙ handed_block g.P.Styled.style g.P.Styled.kind c.args.tree.now.nodes (c.args.node.0) _ c.payload-item.ensures.value (sym c.kind.ensures ∙ ap seen_kind c.in-Block.is) _ _ (ap (option_map seen_inputs) c.in-Some.is)

pub returns-in-Image : goal.returns-in-Image
returns-in-Image g c =
    record {
      value = handed_leaf g.P.Styled.style g.P.Styled.kind c.args.tree.now.nodes (c.args.node.0) _ c.payload-item.ensures.value
          (ap is_block (sym c.kind.ensures) ∙ no_block _ c.in-Image.is) _;
      forest = c.payload-item.ensures.forest;
    }
