use Rattle.std.proofs.Common.{subst, ap, sym, ◌∙◌}
use Rattle.std.specs.Prelude.{pos, unsigned_abs}
use Rattle.px_units.specs.Lengths.{cap}
use Rattle.positioned_layout.specs.Seen.{IsSpan}
use Rattle.positioned_layout.proofs.Numbers.{reach_again, span_again}
use Rattle.positioned_layout.proofs.Placing.{part_span, top_is}
use Rattle.positioned_layout.proofs.places.top_offset.Goals as goal

pub returns-clause-value : goal.returns-clause-value
returns-clause-value c at view n top is =
    let margin : IsSpan c.along.result = subst (λ x. IsSpan x) (sym c.along.ensures) (part_span c.args.axis _ _ c.requires.margin.0 c.requires.margin.1) in
    reach_again c.cut.result c.cut.ensures.range
    ∙ c.cut.ensures.value
    ∙ ap pos (ap (λ x. cap (unsigned_abs x)) (span_again c.along.result margin ∙ c.along.ensures) ∙ top_is at view n c.args.own.now is top c.args.axis)
