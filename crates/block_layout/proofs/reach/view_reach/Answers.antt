use Rattle.std.proofs.Common.{◌≡◌, ◌≤◌, ap, sym, ◌∙◌, arith}
use Rattle.layout_model.specs.Boxes.{Inputs, box_in, kids_of, border_size}
use Rattle.layout_model.specs.Nodes.{levels}
use Rattle.layout_model.specs.Points.{larger, plus, capped}
use Rattle.layout_model.specs.Views.{view_inputs}
use Rattle.layout_model.specs.FlatPlaces.{margin_corner}
use Rattle.block_layout.specs.Far.{far_down, open_kids}
use Rattle.element_tree.proofs.Depths.{depth_positive}
use Rattle.block_layout.specs.Around.{seen_extent}
use Rattle.block_layout.specs.Far.{far_in}
use Rattle.block_layout.specs.Seen.{as_size}
use Rattle.block_layout.specs.Trees.{layout_tree}
use Rattle.block_layout.proofs.Ancestors.{in_self}
use Rattle.block_layout.proofs.Far.{pair_same, far_of}
use Rattle.block_layout.proofs.FlowReach.{hidden_reach, shown_reach}
use Rattle.block_layout.proofs.Forests.{linked, listed, shallow, once}
use Rattle.block_layout.proofs.Handed.{view_top}
use Rattle.block_layout.proofs.Reaching.{some_same, shown_some, hidden_none, margin_is}
use Rattle.block_layout.proofs.reach.view_reach.Goals as goal

pub far_inside-deeper-requires-clause-across : goal.far_inside-deeper-requires-clause-across
far_inside-deeper-requires-clause-across g c =
    let across : c.margin_offset-corner.result.across ≡ c.in-Some.own.margin.left = ap (λ p. p.0) c.margin_offset-corner.ensures.value in
    let low : c.in-Some.own.margin.left ≤ 2147483647 = c.margin_offset-corner.ensures.range.margin.left in
    omega (arith, depth_positive c.args.tree.now.nodes (c.args.root.0))

pub far_inside-deeper-requires-clause-down : goal.far_inside-deeper-requires-clause-down
far_inside-deeper-requires-clause-down g c =
    let down : c.margin_offset-corner.result.down ≡ c.in-Some.own.margin.top = ap (λ p. p.1) c.margin_offset-corner.ensures.value in
    let low : c.in-Some.own.margin.top ≤ 2147483647 = c.margin_offset-corner.ensures.range.margin.top in
    omega (arith, depth_positive c.args.tree.now.nodes (c.args.root.0))

pub returns-in-Some-clause-value : goal.returns-in-Some-clause-value
returns-in-Some-clause-value g c still top document is wide tall holds =
    let at = layout_tree g.P.Styled.style g.P.Styled.kind c.args.tree.now.nodes in
    let root = c.args.root.0 in
    let forest = c.shown_box.ensures.forest in
    let viewport : Inputs = view_inputs document in
    let parts = shown_some _ (g.B.Boxes.held c.args.boxes.now root) c.in-Some.own (sym c.shown_box.ensures.value ∙ c.in-Some.is) in
    let found = view_top at document root is top parts.0 in
    let boxed : c.in-Some.own ≡ box_in at viewport root = some_same _ _ (sym parts.1 ∙ holds root viewport (in_self at root) found) in
    let corner = seen_extent c.margin_offset-corner.result in
    let edge : seen_extent c.far_edge.result ≡ far_down levels at viewport corner root
    = c.far_edge.ensures
    ∙ ap (λ own. larger (plus corner (border_size own)) (seen_extent c.far_inside-deeper.result)) boxed
    ∙ ap
    (larger (plus corner (border_size (box_in at viewport root))))
    (c.far_inside-deeper.ensures still document viewport found holds boxed
    ∙ ap (λ closed. far_in at root viewport corner (open_kids closed (kids_of (at root)))) c.is_clipping.ensures.value)
    ∙ far_of at (linked g.P.Styled.style g.P.Styled.kind forest) (shallow g.P.Styled.style g.P.Styled.kind forest) viewport corner root in
    let moved = c.margin_offset-corner.ensures.value
    ∙ margin_is at (linked g.P.Styled.style g.P.Styled.kind forest) (shallow g.P.Styled.style g.P.Styled.kind forest) viewport root c.in-Some.own boxed c.margin_offset-corner.ensures.range.margin.left c.margin_offset-corner.ensures.range.margin.top in
    c.size.ensures
    ∙ ap
    as_size
    (c.capped.ensures.value
    ∙ ap
    capped
    (c.larger.ensures
    ∙ ap (larger (seen_extent c.args.size)) (edge ∙ ap (λ place. far_down levels at viewport place root) moved)
    ∙ ap (λ own. larger own (far_down levels at viewport (margin_corner viewport ((at root).item)) root)) (sym (pair_same _ _ _ _ wide tall)))
    ∙ sym
    (shown_reach at (linked g.P.Styled.style g.P.Styled.kind forest) (listed g.P.Styled.style g.P.Styled.kind forest) (shallow g.P.Styled.style g.P.Styled.kind forest)
    (once g.P.Styled.style g.P.Styled.kind forest) document root is top still parts.0))

pub returns-in-None-clause-value : goal.returns-in-None-clause-value
returns-in-None-clause-value g c still top document is wide tall holds =
    let at = layout_tree g.P.Styled.style g.P.Styled.kind c.args.tree.now.nodes in
    let root = c.args.root.0 in
    let hidden = hidden_none _ (g.B.Boxes.held c.args.boxes.now root) (box_in at (view_inputs document) root) (sym c.shown_box.ensures.value ∙ c.in-None.is)
    (λ shown. holds root (view_inputs document) (in_self at root) (view_top at document root is top shown)) in
    let forest = c.shown_box.ensures.forest in
    c.size-in-None.ensures
    ∙ ap
    as_size
    (c.capped-in-None.ensures.value ∙ ap capped (sym (pair_same _ _ _ _ wide tall))
    ∙ sym
    (hidden_reach at (linked g.P.Styled.style g.P.Styled.kind forest) (listed g.P.Styled.style g.P.Styled.kind forest) (shallow g.P.Styled.style g.P.Styled.kind forest)
    (once g.P.Styled.style g.P.Styled.kind forest) document root is top hidden))
