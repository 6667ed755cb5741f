use Rattle.std.specs.Prelude.{◌*ℤ◌, int_div, pos}
use Rattle.std.specs.Int.{w64}
use Rattle.std.proofs.lemmas.Int.{to_z-of_z}
use Rattle.thresholds.proofs.Widths.{product_fits, part_fits, part_low, part_high}
use Rattle.thresholds.proofs.parts.part_of_width.Goals as goal

pub overflow_mul-result : goal.overflow_mul-result
overflow_mul-result c =
    let w = c.requires.width in
    rw (to_z-of_z w64 c.args.width c.ranges.width, to_z-of_z w64 c.args.hundredths c.ranges.hundredths)
    (product_fits c.args.width c.args.hundredths w.low w.high c.requires.low c.requires.high)

pub returns-clause-value : goal.returns-clause-value
returns-clause-value c =
    let w = c.requires.width in
    rw (to_z-of_z w64 c.args.width c.ranges.width, to_z-of_z w64 c.args.hundredths c.ranges.hundredths, to_z-of_z w64 (c.args.width *ℤ c.args.hundredths) (product_fits c.args.width c.args.hundredths w.low w.high c.requires.low c.requires.high), to_z-of_z w64 (int_div (c.args.width *ℤ c.args.hundredths) (pos 10000)) (part_fits c.args.width c.args.hundredths w.low w.high c.requires.low c.requires.high))

pub returns-clause-low : goal.returns-clause-low
returns-clause-low c =
    let w = c.requires.width in
    rw (returns-clause-value c) (part_low c.args.width c.args.hundredths w.low w.high c.requires.low c.requires.high)

pub returns-clause-high : goal.returns-clause-high
returns-clause-high c =
    let w = c.requires.width in
    rw (returns-clause-value c) (part_high c.args.width c.args.hundredths w.low w.high c.requires.low c.requires.high)
