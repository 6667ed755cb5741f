use Rattle.std.proofs.Common.{◌≡◌, ◌+◌, ◌++◌, None, cond, length, take, drop, ap, ◌∙◌, sym, arith}
use Rattle.std.proofs.lemmas.Grind.{common_steps}
use Rattle.layout_model.specs.Boxes.{Inputs, box_of_node, inputs_in}
use Rattle.block_layout.specs.Counts.{box_count}
use Rattle.block_layout.specs.Filling.{box_with, steps_of}
use Rattle.block_layout.specs.Held.{held_in}
use Rattle.block_layout.specs.Seen.{seen_inputs}
use Rattle.block_layout.specs.Trees.{layout_tree}
use Rattle.block_layout.proofs.Filled.{paid_as}
use Rattle.block_layout.proofs.Forests.{shallow}
use Rattle.block_layout.proofs.Handed.{wanted_inputs, wanted_down, wanted_at_root}
use Rattle.block_layout.proofs.held.FreshBoxes.fill.Goals as goal

pub returns-clause-under : goal.returns-clause-under
returns-clause-under g c still wanted down own n low inside =
    let same : take c.self.inside.places.len (c.fill_below-height.new.places ++ drop (length c.fill_below-height.new.places) c.self.inside.places.items) ≡ c.fill_below-height.new.places = grind (arith, common_steps) in
    let count : length c.self.inside.places.items ≡ length c.args.self.now = ap length c.self.view_is in
    ap (λ places. held_in places n) same ∙ c.fill_below-height.ensures.under still wanted down (own ∙ sym c.inputs_of_child-shown.ensures.value) n inside (omega arith)

pub returns-clause-boxes : goal.returns-clause-boxes
unfolding box_of_node
returns-clause-boxes g c still flow top n low inside =
    let at = layout_tree g.P.Styled.style g.P.Styled.kind c.args.tree.now.nodes in
    let whole = shallow g.P.Styled.style g.P.Styled.kind c.inputs_of_child-shown.ensures.forest in
    let viewport : Inputs = seen_inputs c.args.inputs in
    let root = c.args.root.0 in
    returns-clause-under g c still (wanted_inputs at root viewport) (wanted_down at whole root viewport still top _) (wanted_at_root at root viewport flow top) n low inside
    ∙ ap (λ under. box_with at (cond under (inputs_in at root viewport n) None) n) inside

pub returns-clause-ticks : goal.returns-clause-ticks
returns-clause-ticks g c still =
    let at = layout_tree g.P.Styled.style g.P.Styled.kind c.args.tree.now.nodes in
    let root = c.args.root.0 in
    c.fill_below-height.ensures.ticks still
    ∙ ap (λ own. c.args.steps.now + steps_of own (box_count at root)) c.inputs_of_child-shown.ensures.value
    ∙ ap (λ count. c.args.steps.now + count) (paid_as at (seen_inputs c.args.inputs) (box_count at root) ((at root).item.style.hidden))
