use Rattle.std.proofs.Common.{◌≡◌, inl, inr, true, ap, sym, ◌∙◌}
use Rattle.std.proofs.lemmas.Bool.{false≢true}
use Rattle.layout_model.specs.Nodes.{is_flow}
use Rattle.style_values.specs.Seen.{seen_position}
use Rattle.positioned_layout.proofs.Numbers.{corner_near}
use Rattle.positioned_layout.proofs.Walking.{held_in_flow, held_absolute, held_fixed}
use Rattle.positioned_layout.proofs.reaches.Around.holding.Goals as goal

pub returns-in-Static-clause-value : goal.returns-in-Static-clause-value
returns-in-Static-clause-value c at view opens p n shallow up is known =
    let flow : is_flow (seen_position c.args.position) ≡ true = elim c.in-Static.is [ inl e ↦ ap (λ q. is_flow (seen_position q)) e | inr e ↦ ap (λ q. is_flow (seen_position q)) e ] in
    let in_flow = ap is_flow (sym is) ∙ flow in
    (held_in_flow at view opens p n shallow up c.args.self known in_flow, λ out. absurd (false≢true (sym out ∙ in_flow)))

pub returns-in-Static-clause-range : goal.returns-in-Static-clause-range
returns-in-Static-clause-range c boxes near = (corner_near boxes c.args.self.place.left near.place.0, corner_near boxes c.args.self.place.top near.place.1)

pub returns-in-Absolute-clause-value : goal.returns-in-Absolute-clause-value
returns-in-Absolute-clause-value c at view opens p n shallow up is known =
    held_absolute at view opens p n shallow up c.args.self known (sym is ∙ ap seen_position c.in-Absolute.is)

pub returns-in-Fixed-clause-value : goal.returns-in-Fixed-clause-value
returns-in-Fixed-clause-value c at view opens p n shallow up is known =
    held_fixed at view opens p n shallow up c.args.self known (sym is ∙ ap seen_position c.in-Fixed.is)
