use Rattle.std.proofs.Common.{◌≡◌, ℤ, cond, ap, sym, ◌∙◌}
use Rattle.std.specs.Prelude.{◌+ℤ◌}
use Rattle.layout_model.specs.Nodes.{holder}
use Rattle.layout_model.specs.Points.{moved}
use Rattle.layout_model.specs.FlatPlaces.{offset_of, corner_of, above_of, flat_place}
use Rattle.positioned_layout.specs.Along.{part}
use Rattle.positioned_layout.proofs.Placing.{pair_again}
use Rattle.positioned_layout.proofs.places.outwards.Goals as goal

pub returns-then-held-clause-value : goal.returns-then-held-clause-value
returns-then-held-clause-value g c at view are up boxed own_is axis =
    let n = c.args.node.0 in
    ap (λ h. cond h (part axis (corner_of at (flat_place at view) (holder at n))) (part axis (moved (above_of (flat_place at view) (at n).parent) (offset_of at view n))) +ℤ part axis (c.args.left, c.args.top)) c.if-held.true
    ∙ ap (λ (q : ℤ × ℤ). part axis (corner_of at (flat_place at view) (holder at n)) +ℤ part axis q) (sym (pair_again c.args.left c.args.top c.requires.left c.requires.top))
    ∙ c.from_holder.ensures.value at view are up boxed axis

pub returns-else-held-clause-value : goal.returns-else-held-clause-value
returns-else-held-clause-value g c at view are up boxed own_is axis =
    let n = c.args.node.0 in
    ap (λ h. cond h (part axis (corner_of at (flat_place at view) (holder at n))) (part axis (moved (above_of (flat_place at view) (at n).parent) (offset_of at view n))) +ℤ part axis (c.args.left, c.args.top)) c.if-held.false
    ∙ ap (λ (q : ℤ × ℤ). part axis (moved (above_of (flat_place at view) (at n).parent) (offset_of at view n)) +ℤ part axis q) (sym (pair_again c.args.left c.args.top c.requires.left c.requires.top))
    ∙ c.from_flow.ensures.value at view are up boxed own_is axis
