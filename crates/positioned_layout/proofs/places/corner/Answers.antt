use Rattle.std.proofs.Common.{Option, subst, refl, ap, sym, ◌∙◌}
use Rattle.std.specs.Prelude.{pos, unsigned_abs, IfSome}
use Rattle.positioned_layout.specs.declared.Measure.{Measure}
use Rattle.positioned_layout.specs.Seen.{IsMeasure, IsSpan}
use Rattle.positioned_layout.proofs.Numbers.{pos_abs, span_again, length_span}
use Rattle.positioned_layout.proofs.Placing.{part_span, corner_is, measured_at}
use Rattle.positioned_layout.proofs.places.corner.Goals as goal

pub returns-in-Some-clause-value : goal.returns-in-Some-clause-value
returns-in-Some-clause-value c at view n of boxed =
    let range : IsMeasure c.in-Some.measure = subst (λ (o : Option Measure). IfSome o IsMeasure) c.in-Some.is c.requires in
    let is = measured_at at view n _ of boxed c.args.outer c.in-Some.measure refl c.in-Some.is in
    let span : IsSpan c.along.result = subst (λ x. IsSpan x) (sym c.along.ensures) (part_span c.args.axis _ _ (length_span _ range.corner.0) (length_span _ range.corner.1)) in
    span_again c.along.result span ∙ sym (pos_abs c.along.result span.0) ∙ ap pos (ap unsigned_abs c.along.ensures ∙ corner_is at view n c.in-Some.measure is c.args.axis)
