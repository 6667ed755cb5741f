use Rattle.std.proofs.Common.{◌∙◌, sym}
use Rattle.layout_model.specs.Views.{inputs_in_view}
use Rattle.element_tree.proofs.Levels.{kid_parent}
use Rattle.layout_model.specs.Nodes.{IsListed}
use Rattle.block_layout.specs.Trees.{layout_tree}
use Rattle.block_layout.proofs.Forests.{shallow, has_contains}
use Rattle.block_layout.proofs.Nodes.{parent_is}
use Rattle.kept_layout.proofs.Shapes.{shaped}
use Rattle.page_boxes.proofs.Parents.{some_found}
use Rattle.page_boxes.proofs.Edges.{nothing_within, kid_boxed, child_within}
use Rattle.page_boxes.proofs.least.range_to.Goals as goal

pub returns-then-is_hidden-clause-within : goal.returns-then-is_hidden-clause-within
returns-then-is_hidden-clause-within g c view holds boxed = nothing_within _

pub returns-then-not-is_static-clause-within : goal.returns-then-not-is_static-clause-within
returns-then-not-is_static-clause-within g c view holds boxed = nothing_within _

pub returns-in_default-clause-within : goal.returns-in_default-clause-within
returns-in_default-clause-within g c view holds boxed = nothing_within _

pub returns-in_default-box_of-clause-within : goal.returns-in_default-box_of-clause-within
returns-in_default-box_of-clause-within g c view holds boxed = nothing_within _

pub returns-clause-within : goal.returns-clause-within
returns-clause-within g c view holds boxed =
    let nodes = c.args.tree.now.nodes in
    let at = layout_tree g.P.Styled.style g.P.Styled.kind nodes in
    let forest = c.shift-corner.ensures.forest in
    let shape = shaped g.P.Styled.style g.P.Styled.kind forest in
    let listed : IsListed at = λ d p over. has_contains (at p).children d (shape.listed d p over) in
    let low = shallow g.P.Styled.style g.P.Styled.kind forest in
    let n = c.args.node.0 in
    let child = c.args.child.0 in
    let found = some_found (inputs_in_view at view n) boxed in
    let up = parent_is g.P.Styled.style g.P.Styled.kind nodes child ∙ kid_parent forest n child c.requires.listed in
    let hidden = sym c.is_hidden.ensures.value ∙ c.if-is_hidden.false in
    let still = sym c.is_static.ensures ∙ c.if-not-is_static.false in
    let kept = c.args.boxes.now in
    let there = kid_boxed at view kept holds listed low n child up c.requires.scroller hidden still found.0 found.1 in
    child_within at view kept holds listed low n child up c.requires.scroller hidden still found.0 found.1
    c.in-Some.outer c.in-Some-box_of.own c.in-Some.ensures c.in-Some-box_of.ensures (c.shift-corner.result.across, c.shift-corner.result.down)
    (c.shift-corner.ensures.value view (record { boxed = there; path = λ m inputs inside is. holds.boxes m inputs is }))
    c.padding_corner.result c.padding_corner.ensures.value c.edges-reach.result c.padding_size.result c.range_between.result c.edges-reach.ensures c.padding_size.ensures.value c.range_between.ensures.value
