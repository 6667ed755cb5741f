use Rattle.std.proofs.Common.{◌≡◌, ℕ, ℤ, to_z, of_z, option_map, ap, sym, ◌∙◌}
use Rattle.std.specs.Prelude.{pos, ◌+ℤ◌}
use mir.Syntax.{w64}
use Rattle.layout_model.specs.Nodes.{Node, holder, HeldByElement}
use Rattle.layout_model.specs.Views.{View}
use Rattle.layout_model.specs.FlatPlaces.{border_corner, corner_of, flat_place}
use Rattle.layout_model.proofs.Holders.{holder_above}
use Rattle.block_layout.specs.Ranges.{IsLength}
use Rattle.positioned_layout.specs.declared.insets.Axis.{Axis}
use Rattle.positioned_layout.specs.declared.insets.Axis.TheVariants.{Across, Down}
use Rattle.positioned_layout.specs.Along.{part}
use Rattle.positioned_layout.specs.Measured.{IsMeasureOf}
use Rattle.positioned_layout.specs.Seen.{seen_holder, seen_measure, IsReach}
use Rattle.positioned_layout.proofs.Nodes.{shallow}
use Rattle.positioned_layout.proofs.Numbers.{step_again, length_span}
use Rattle.positioned_layout.proofs.Placing.{part_moved, boxed_above, each_axis}
use Rattle.positioned_layout.proofs.places.from_holder.Goals as goal

from_corner : (at : ℕ → Node) (view : View) (n e : ℕ) → holder at n ≡ HeldByElement e → (axis : Axis) (by more : ℤ) → more ≡ pos (part axis (border_corner ((at e).item))) → IsReach by → IsLength more
    → part axis (corner_of at (flat_place at view) (holder at n)) +ℤ by ≡ part axis (flat_place at view e) +ℤ to_z w64 (of_z w64 (to_z w64 (of_z w64 by) +ℤ to_z w64 (of_z w64 more)))
from_corner at view n e held axis by more is reach length =
    ap (λ h. part axis (corner_of at (flat_place at view) h) +ℤ by) held
    ∙ ap (λ x. x +ℤ by) (part_moved axis (flat_place at view e) (border_corner ((at e).item)))
    ∙ ap (λ x. part axis (flat_place at view e) +ℤ x +ℤ by) (sym is)
    ∙ step_again (part axis (flat_place at view e)) by more reach (length_span _ length)

pub returns-in-Node-clause-value : goal.returns-in-Node-clause-value
returns-in-Node-clause-value g c at view are up boxed =
    let n = c.args.node.0 in
    let e = c.in-Node.element.0 in
    let low = shallow g.P.Placed.placed c.args.tree.now.nodes at are c.holder_of.ensures.forest in
    let held = sym (c.holder_of.ensures.value at are) ∙ ap seen_holder c.in-Node.is in
    let inside = holder_above at low n e held in
    let of : IsMeasureOf at view e (option_map seen_measure c.measure-outer.result) = c.measure-outer.ensures.value ∙ up e inside in
    let on = boxed_above at low view e n inside boxed in
    each_axis _
    (from_corner at view n e held Across c.args.left c.corner.result (c.corner.ensures.value at view e of on) c.requires.left c.corner.ensures.range)
    (from_corner at view n e held Down c.args.top c.corner-in-Node.result (c.corner-in-Node.ensures.value at view e of on) c.requires.top c.corner-in-Node.ensures.range)

pub returns-in-Node-clause-inside : goal.returns-in-Node-clause-inside
returns-in-Node-clause-inside g c at are =
    holder_above at (shallow g.P.Placed.placed c.args.tree.now.nodes at are c.holder_of.ensures.forest) (c.args.node.0) (c.in-Node.element.0) (sym (c.holder_of.ensures.value at are) ∙ ap seen_holder c.in-Node.is)
