use Rattle.std.proofs.Common.{◌≡◌, ap, sym, ◌∙◌}
use Rattle.std.specs.Prelude.{not}
use Rattle.layout_model.specs.Boxes.{box_in, kids_of, padding_size, padding_corner}
use Rattle.layout_model.specs.Points.{larger, minus, capped}
use Rattle.block_layout.specs.Around.{seen_extent}
use Rattle.block_layout.specs.Far.{far_in, open_kids}
use Rattle.block_layout.specs.Seen.{as_size}
use Rattle.block_layout.specs.Trees.{layout_tree}
use Rattle.block_layout.proofs.Ancestors.{in_self}
use Rattle.block_layout.proofs.FlowReach.{container_reach}
use Rattle.block_layout.proofs.Forests.{linked, listed, shallow, once}
use Rattle.block_layout.proofs.Reaching.{some_same, some_none}
use Rattle.block_layout.proofs.reach.container_reach.Goals as goal

pub returns-in-Some-clause-value : goal.returns-in-Some-clause-value
returns-in-Some-clause-value g c still document inputs found holds =
    let at = layout_tree g.P.Styled.style g.P.Styled.kind c.args.tree.now.nodes in
    let node = c.args.node.0 in
    let forest = c.is_clipping.ensures.forest in
    let boxed : c.in-Some.own ≡ box_in at inputs node = some_same _ _ (sym c.in-Some.is ∙ c.box_of.ensures ∙ holds node inputs (in_self at node) found) in
    c.size.ensures
    ∙ ap
    as_size
    (c.capped.ensures.value
    ∙ ap
    capped
    (c.larger.ensures
    ∙ ap (λ own. larger own (seen_extent c.minus-inside.result)) (c.padding_extent.ensures.value ∙ ap padding_size boxed)
    ∙ ap
    (larger (padding_size (box_in at inputs node)))
    (c.minus-inside.ensures
    ∙ ap (minus (seen_extent c.far_inside-far.result)) (c.padding_offset.ensures.value ∙ ap padding_corner boxed)
    ∙ ap
    (λ far. minus far (padding_corner (box_in at inputs node)))
    (c.far_inside-far.ensures still document inputs found holds boxed
    ∙ ap (λ closed. far_in at node inputs (0, 0) (open_kids (not closed) (kids_of (at node)))) c.is_clipping.ensures.value)))
    ∙ sym
    (container_reach at (linked g.P.Styled.style g.P.Styled.kind forest) (listed g.P.Styled.style g.P.Styled.kind forest) (shallow g.P.Styled.style g.P.Styled.kind forest)
    (once g.P.Styled.style g.P.Styled.kind forest) document node still inputs found))

pub returns-in-None-clause-value : goal.returns-in-None-clause-value
returns-in-None-clause-value g c still document inputs found holds =
    let at = layout_tree g.P.Styled.style g.P.Styled.kind c.args.tree.now.nodes in
    absurd (some_none (box_in at inputs (c.args.node.0)) (sym c.in-None.is ∙ c.box_of.ensures ∙ holds (c.args.node.0) inputs (in_self at (c.args.node.0)) found))
