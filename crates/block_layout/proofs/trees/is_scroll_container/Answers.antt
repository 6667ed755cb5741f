use Rattle.std.proofs.Common.{false, ap, sym, ◌∙◌}
use Rattle.layout_model.specs.Clips.{is_block}
use Rattle.block_layout.specs.Seen.{seen_kind}
use Rattle.block_layout.proofs.Nodes.{no_block}
use Rattle.block_layout.proofs.Scrollers.{scroller_block, scroller_shut, scroller_leaf}
use Rattle.block_layout.proofs.trees.is_scroll_container.Goals as goal

pub returns-then-is_scrollable-clause-value : goal.returns-then-is_scrollable-clause-value
returns-then-is_scrollable-clause-value g c =
    scroller_block g.P.Styled.style g.P.Styled.kind c.args.tree.now.nodes (c.args.node.0) _ c.payload-item.ensures.value
    (sym c.kind.ensures ∙ ap seen_kind c.in-Block.is) c.style.result.now c.style.ensures.value (sym c.is_scrollable.ensures ∙ c.if-is_scrollable.true)
    c.parent.result c.parent.ensures.value c.is_some.result c.is_some.ensures

pub returns-else-is_scrollable-clause-value : goal.returns-else-is_scrollable-clause-value
returns-else-is_scrollable-clause-value g c =
    c.if-is_scrollable.false
    ∙ scroller_shut g.P.Styled.style g.P.Styled.kind c.args.tree.now.nodes (c.args.node.0) _ c.payload-item.ensures.value
    (sym c.kind.ensures ∙ ap seen_kind c.in-Block.is) c.style.result.now c.style.ensures.value (sym c.is_scrollable.ensures ∙ c.if-is_scrollable.false)

pub returns-in-Image : goal.returns-in-Image
returns-in-Image g c =
    record {
      value = scroller_leaf g.P.Styled.style g.P.Styled.kind c.args.tree.now.nodes (c.args.node.0) _ c.payload-item.ensures.value
          (ap is_block (sym c.kind.ensures) ∙ no_block _ c.in-Image.is);
      forest = c.payload-item.ensures.forest;
    }
