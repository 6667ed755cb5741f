use Rattle.std.proofs.Common.{subst, ap, sym, ◌∙◌}
use Rattle.px_units.specs.declared.Point.{Point}
use Rattle.layout_model.specs.FlatPlaces.{corner_of, flat_place}
use Rattle.positioned_layout.specs.Seen.{as_place}
use Rattle.positioned_layout.specs.Walked.{opens_in, IsHeld}
use Rattle.positioned_layout.proofs.Opening.{outer_closed}
use Rattle.positioned_layout.proofs.Walking.{absolute_self, absolute_outer}
use Rattle.positioned_layout.proofs.reaches.absolute_holder.Goals as goal

pub returns-then-positioned-clause-value : goal.returns-then-positioned-clause-value
returns-then-positioned-clause-value g c at view are low up is boxed own =
    let n = c.args.node.0 in
    subst (λ by. IsHeld at view (opens_in at n) by c.args.own) (sym (absolute_self at low n (sym is ∙ c.if-positioned.true))) own

pub returns-else-positioned-clause-value : goal.returns-else-positioned-clause-value
returns-else-positioned-clause-value g c at view are low up is boxed own =
    let n = c.args.node.0 in
    let outer = absolute_outer at low n (sym is ∙ c.if-positioned.false) in
    record {
      corner = c.outer_holder.ensures.value at view are up boxed ∙ ap {B = Point} (λ by. as_place (corner_of at (flat_place at view) by)) (sym outer);
      opened = c.outer_holder.ensures.closed ∙ sym (ap (opens_in at n) outer ∙ outer_closed at low n);
    }
