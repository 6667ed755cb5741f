use Rattle.std.proofs.Common.{◌∙◌, sym, subst, cond}
use Rattle.layout_model.specs.Points.{IsWithin}
use Rattle.layout_model.specs.Reach.{range_of}
use Rattle.element_tree.specs.Forest.{last_of, children_of}
use Rattle.element_tree.proofs.Depths.{some_of_ids}
use Rattle.element_tree.proofs.Facts.{child_in_range}
use Rattle.element_tree.proofs.Levels.{some_names}
use Rattle.element_tree.proofs.Lists.{last_has}
use Rattle.block_layout.specs.Trees.{layout_tree}
use Rattle.page_boxes.specs.Pages.{seen_pair}
use Rattle.page_boxes.proofs.Edges.{nothing_within}
use Rattle.page_boxes.proofs.least.last_range.Goals as goal

pub returns-then-not-is_scroll_container-clause-within : goal.returns-then-not-is_scroll_container-clause-within
returns-then-not-is_scroll_container-clause-within g c view holds boxed = nothing_within _

pub range_to-requires-clause-listed : goal.range_to-requires-clause-listed
range_to-requires-clause-listed g c =
    let children = children_of c.args.tree.now.nodes (c.args.node.0) in
    last_has (c.in-Some.child.0) children (some_names (last_of children) (c.in-Some.child.0) (some_of_ids (last_of children) c.in-Some.child (sym c.in-Some.ensures.value)))

pub range_to-requires-clause-child : goal.range_to-requires-clause-child
range_to-requires-clause-child g c =
    child_in_range c.in-Some.ensures.forest (c.args.node.0) (c.in-Some.child.0) (range_to-requires-clause-listed g c)

pub range_to-requires-clause-scroller : goal.range_to-requires-clause-scroller
range_to-requires-clause-scroller g c = sym c.is_scroll_container.ensures.value ∙ c.if-not-is_scroll_container.false

pub returns-in-Some-clause-within : goal.returns-in-Some-clause-within
returns-in-Some-clause-within g c view holds boxed =
    let at = layout_tree g.P.Styled.style g.P.Styled.kind c.args.tree.now.nodes in
    subst (λ b. IsWithin (seen_pair c.range_to.result) (cond b (range_of at view (c.args.node.0)) (0, 0))) (sym c.if-not-is_scroll_container.false ∙ c.is_scroll_container.ensures.value) (c.range_to.ensures.within view holds boxed)

pub returns-in-None-clause-within : goal.returns-in-None-clause-within
returns-in-None-clause-within g c view holds boxed = nothing_within _
