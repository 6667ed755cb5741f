use Rattle.std.proofs.Common.{false, refl, ap, sym, ◌∙◌}
use Rattle.std.specs.Prelude.{◌&&◌, not, is_some}
use Rattle.layout_model.specs.Clips.{is_block, is_visible}
use Rattle.element_tree.specs.Forest.{parent_of}
use Rattle.element_tree.specs.Links.{node_ids}
use Rattle.block_layout.specs.Seen.{seen_kind}
use Rattle.block_layout.proofs.Nodes.{some_ids, clips_block, clips_leaf, no_block}
use Rattle.block_layout.proofs.trees.is_clipping.Goals as goal

pub returns-then-is_cut-clause-value : goal.returns-then-is_cut-clause-value
returns-then-is_cut-clause-value g c =
    sym (ap (λ cut. cut && c.is_some.result) c.if-is_cut.true)
    ∙ clips_block g.P.Styled.style g.P.Styled.kind c.args.tree.now.nodes (c.args.node.0) _ c.payload-item.ensures.value
    (sym c.kind.ensures ∙ ap seen_kind c.in-Block.is) c.is_cut.result c.is_some.result
    (c.is_cut.ensures ∙ ap (λ style. not (is_visible (style.overflow))) c.style.ensures.value) c.parent.result c.parent.ensures.value c.is_some.ensures

pub returns-else-is_cut-clause-value : goal.returns-else-is_cut-clause-value
returns-else-is_cut-clause-value g c =
    c.if-is_cut.false
    ∙ sym (ap (λ cut. cut && is_some (parent_of c.args.tree.now.nodes (c.args.node.0))) c.if-is_cut.false)
    ∙ clips_block g.P.Styled.style g.P.Styled.kind c.args.tree.now.nodes (c.args.node.0) _ c.payload-item.ensures.value
    (sym c.kind.ensures ∙ ap seen_kind c.in-Block.is) c.is_cut.result _
    (c.is_cut.ensures ∙ ap (λ style. not (is_visible (style.overflow))) c.style.ensures.value) (node_ids (parent_of c.args.tree.now.nodes (c.args.node.0))) refl
    (sym (some_ids _))

pub returns-in-Image : goal.returns-in-Image
returns-in-Image g c =
    record {
      value = clips_leaf g.P.Styled.style g.P.Styled.kind c.args.tree.now.nodes (c.args.node.0) _ c.payload-item.ensures.value
          (ap is_block (sym c.kind.ensures) ∙ no_block _ c.in-Image.is);
      forest = c.payload-item.ensures.forest;
    }
