use Rattle.std.proofs.Common.{subst, ap, sym, ◌∙◌, arith}
use Rattle.std.proofs.lemmas.Int.{ints}
use Rattle.std.specs.Prelude.{pos, ◌+ℤ◌}
use Rattle.positioned_layout.specs.Along.{part}
use Rattle.positioned_layout.specs.Seen.{IsSpan}
use Rattle.positioned_layout.proofs.Numbers.{reach_again, three_again}
use Rattle.positioned_layout.proofs.Placing.{part_span, offset_is}
use Rattle.positioned_layout.proofs.places.offset.Goals as goal

pub overflow_add-along-2 : goal.overflow_add-along-2
overflow_add-along-2 c =
    let inner : IsSpan c.along.result = subst (λ x. IsSpan x) (sym c.along.ensures) (part_span c.args.axis _ _ c.requires.parent.inner.0 c.requires.parent.inner.1) in
    let above : IsSpan c.above.result = subst (λ x. IsSpan x) (sym c.above.ensures) (part_span c.args.axis _ _ (omega (arith, ints), omega (arith, ints)) c.requires.own.above) in
    let margin : IsSpan c.along-2.result = subst (λ x. IsSpan x) (sym c.along-2.ensures) (part_span c.args.axis _ _ c.requires.own.margin.0 c.requires.own.margin.1) in
    omega (arith, ints, inner, above, margin)

pub returns-clause-value : goal.returns-clause-value
returns-clause-value c at view n p up outer_is own_is =
    let inner : IsSpan c.along.result = subst (λ x. IsSpan x) (sym c.along.ensures) (part_span c.args.axis _ _ c.requires.parent.inner.0 c.requires.parent.inner.1) in
    let above : IsSpan c.above.result = subst (λ x. IsSpan x) (sym c.above.ensures) (part_span c.args.axis _ _ (omega (arith, ints), omega (arith, ints)) c.requires.own.above) in
    let margin : IsSpan c.along-2.result = subst (λ x. IsSpan x) (sym c.along-2.ensures) (part_span c.args.axis _ _ c.requires.own.margin.0 c.requires.own.margin.1) in
    reach_again c.cut.result c.cut.ensures.range
    ∙ c.cut.ensures.value
    ∙ ap pos
    (offset_is at view n p up c.args.parent.now c.args.own.now outer_is own_is c.requires.parent c.requires.own c.args.axis _
    (three_again c.along.result c.above.result c.along-2.result inner above margin
    ∙ ap (λ x. x +ℤ c.above.result +ℤ c.along-2.result) c.along.ensures
    ∙ ap (λ x. part c.args.axis (c.args.parent.now.inner.left, c.args.parent.now.inner.top) +ℤ x +ℤ c.along-2.result) c.above.ensures
    ∙ ap (λ x. part c.args.axis (c.args.parent.now.inner.left, c.args.parent.now.inner.top) +ℤ part c.args.axis (pos 0, c.args.own.now.above) +ℤ x) c.along-2.ensures))
