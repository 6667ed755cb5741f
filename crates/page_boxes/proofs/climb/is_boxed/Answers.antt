use Rattle.std.proofs.Common.{◌≡◌, Some, None, ap, sym, ◌∙◌}
use Rattle.std.specs.Prelude.{◌&&◌, not}
use Rattle.page_model.specs.Documents.{is_number}
use Rattle.element_tree.specs.Forest.{parent_of}
use Rattle.element_tree.proofs.Depths.{some_of_ids, none_of_ids}
use Rattle.element_tree.proofs.Facts.{parent_in_range}
use Rattle.block_layout.specs.Trees.{layout_tree}
use Rattle.block_layout.proofs.Nodes.{parent_is}
use Rattle.block_layout.proofs.Forests.{shallow}
use Rattle.page_boxes.proofs.Boxed.{boxed_stops, boxed_goes, boxed_top}
use Rattle.page_boxes.proofs.climb.is_boxed.Goals as goal

pub takes_part-requires-clause-parent : goal.takes_part-requires-clause-parent
takes_part-requires-clause-parent g c =
    parent_in_range c.parent.ensures.forest (c.loop-parent.at.0) (c.in-Some.parent.0) (some_of_ids _ c.in-Some.parent (sym c.parent.ensures.value ∙ c.in-Some.is))

pub returns-then-not-takes_part : goal.returns-then-not-takes_part
returns-then-not-takes_part g c view root =
    let up : parent_of c.args.tree.now.nodes (c.loop-parent.at.0) ≡ Some (c.in-Some.parent.0) = some_of_ids _ c.in-Some.parent (sym c.parent.ensures.value ∙ c.in-Some.is) in
    sym
    (sym (c.loop-parent.invariant.same view root)
    ∙ boxed_stops (layout_tree g.P.Styled.style g.P.Styled.kind c.args.tree.now.nodes) view (c.loop-parent.at.0) (c.in-Some.parent.0)
    (parent_is g.P.Styled.style g.P.Styled.kind c.args.tree.now.nodes (c.loop-parent.at.0) ∙ up)
    (shallow g.P.Styled.style g.P.Styled.kind c.parent.ensures.forest (c.in-Some.parent.0))
    c.takes_part.result c.takes_part.ensures c.if-not-takes_part.true)

pub loop-parent-preserved : goal.loop-parent-preserved
loop-parent-preserved g c =
    let up : parent_of c.args.tree.now.nodes (c.loop-parent.at.0) ≡ Some (c.in-Some.parent.0) = some_of_ids _ c.in-Some.parent (sym c.parent.ensures.value ∙ c.in-Some.is) in
    record {
      inside = parent_in_range c.parent.ensures.forest (c.loop-parent.at.0) (c.in-Some.parent.0) up;
      same = λ view root.
          boxed_goes (layout_tree g.P.Styled.style g.P.Styled.kind c.args.tree.now.nodes) view (c.loop-parent.at.0) (c.in-Some.parent.0)
          (parent_is g.P.Styled.style g.P.Styled.kind c.args.tree.now.nodes (c.loop-parent.at.0) ∙ up)
          (shallow g.P.Styled.style g.P.Styled.kind c.parent.ensures.forest (c.in-Some.parent.0))
          c.takes_part.result c.takes_part.ensures c.if-not-takes_part.false
          ∙ c.loop-parent.invariant.same view root;
    }

pub returns : goal.returns
returns g c view root =
    let up : parent_of c.args.tree.now.nodes (c.loop-parent.at.0) ≡ None = none_of_ids _ (sym c.in_default.ensures.value) in
    c.tops.ensures
    ∙ ap (λ r. not (layout_tree g.P.Styled.style g.P.Styled.kind c.args.tree.now.nodes (c.loop-parent.at.0)).item.style.hidden && is_number r (c.loop-parent.at.0)) (sym root)
    ∙ sym
    (boxed_top (layout_tree g.P.Styled.style g.P.Styled.kind c.args.tree.now.nodes) view (c.loop-parent.at.0)
    (parent_is g.P.Styled.style g.P.Styled.kind c.args.tree.now.nodes (c.loop-parent.at.0) ∙ up))
    ∙ c.loop-parent.invariant.same view root
