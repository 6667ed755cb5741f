use Rattle.std.proofs.Common.{arith, ap, ◌∙◌}
use Rattle.std.proofs.lemmas.Int.{ints, clamps}
use Rattle.px_units.specs.Lengths.{clamped}
use Rattle.block_layout.proofs.Signed.{part_again, clamped_again}
use Rattle.block_layout.proofs.numbers.signed_part.Goals as goal

pub overflow_cast-result : goal.overflow_cast-result
overflow_cast-result c = omega (arith, ints, clamps)

pub returns : goal.returns
returns c =
    clamped_again _ c.max.result c.from-largest.result c.min.result (record { sfits = c.max.type_inv }) c.from-largest.ensures c.max.ensures.value c.min.ensures.value
    ∙ ap clamped (part_again c.args.basis c.args.hundredths c.from.result c.from-2.result c.ranges.basis.fits c.ranges.hundredths c.from.ensures c.from-2.ensures)
