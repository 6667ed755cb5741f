use Rattle.std.proofs.Common.{◌∙◌, sym, refl}
use Rattle.layout_model.specs.Nodes.{IsListed}
use Rattle.block_layout.specs.Trees.{layout_tree}
use Rattle.block_layout.proofs.Forests.{shallow, has_contains}
use Rattle.kept_layout.proofs.Shapes.{shaped}
use Rattle.page_boxes.specs.Pages.{seen_pair}
use Rattle.page_boxes.proofs.Edges.{nothing_within, root_boxed, root_within}
use Rattle.page_boxes.proofs.least.root_range.Goals as goal

pub returns-then-is_hidden-clause-within : goal.returns-then-is_hidden-clause-within
returns-then-is_hidden-clause-within g c top view is holds = nothing_within _

pub returns-in_default-clause-within : goal.returns-in_default-clause-within
returns-in_default-clause-within g c top view is holds = nothing_within _

pub returns-clause-within : goal.returns-clause-within
returns-clause-within g c top view is holds =
    let at = layout_tree g.P.Styled.style g.P.Styled.kind c.args.tree.now.nodes in
    let root = c.args.shown.root.0 in
    let hidden = sym c.is_hidden.ensures.value ∙ c.if-is_hidden.false in
    let pair = seen_pair c.args.shown.size in
    let forest = c.shift-corner.ensures.forest in
    let shape = shaped g.P.Styled.style g.P.Styled.kind forest in
    let listed : IsListed at = λ d p over. has_contains (at p).children d (shape.listed d p over) in
    let low = shallow g.P.Styled.style g.P.Styled.kind forest in
    let boxed = root_boxed at view c.args.boxes.now holds listed low root top hidden pair is in
    root_within at view c.args.boxes.now holds listed low root top hidden pair is
    c.in-Some.own c.in-Some.ensures (c.shift-corner.result.across, c.shift-corner.result.down)
    (c.shift-corner.ensures.value view (record { boxed = boxed; path = λ m inputs inside found. holds.boxes m inputs found }))
    c.edges.result c.args.shown.size c.range_between.result c.edges.ensures refl c.range_between.ensures.value
