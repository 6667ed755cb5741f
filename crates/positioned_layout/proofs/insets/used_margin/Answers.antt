use Rattle.std.proofs.Common.{subst, ap, sym, ◌∙◌, arith}
use Rattle.std.proofs.lemmas.Int.{ints}
use Rattle.std.specs.Prelude.{pos, unsigned_abs}
use Rattle.px_units.specs.Lengths.{clamped, seen_length}
use Rattle.layout_model.specs.Boxes.{used_side}
use Rattle.style_values.specs.Ranges.{IsSize}
use Rattle.positioned_layout.proofs.Numbers.{reach_again, part_again, margin_cut}
use Rattle.positioned_layout.proofs.insets.used_margin.Goals as goal

pub returns-in-Percent-clause-value : goal.returns-in-Percent-clause-value
returns-in-Percent-clause-value c =
    let range = subst (λ m. IsSize m) c.in-Percent.is c.requires.margin in
    reach_again c.clamped-in-Percent.result c.clamped-in-Percent.ensures.range
    ∙ c.clamped-in-Percent.ensures.value
    ∙ ap clamped (part_again c.args.width c.in-Percent.percent.0 c.from.result c.requires.width (omega (arith, ints, range)) range.1 c.from.ensures)
    ∙ margin_cut (unsigned_abs c.args.width) c.in-Percent.percent.0 range.0
    ∙ sym (ap (λ m. pos (used_side (unsigned_abs c.args.width) (seen_length m))) c.in-Percent.is)

pub returns-in-Percent-clause-range : goal.returns-in-Percent-clause-range
returns-in-Percent-clause-range c =
    let range = subst (λ m. IsSize m) c.in-Percent.is c.requires.margin in
    let same = reach_again c.clamped-in-Percent.result c.clamped-in-Percent.ensures.range
    ∙ c.clamped-in-Percent.ensures.value
    ∙ ap clamped (part_again c.args.width c.in-Percent.percent.0 c.from.result c.requires.width (omega (arith, ints, range)) range.1 c.from.ensures)
    ∙ margin_cut (unsigned_abs c.args.width) c.in-Percent.percent.0 range.0 in
    (omega (arith, ints, same), omega (arith, ints, same))
