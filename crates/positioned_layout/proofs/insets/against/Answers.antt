use Rattle.std.proofs.Common.{Some, subst, ap, sym, ◌∙◌}
use Rattle.std.specs.Prelude.{IfSome, option_map, unsigned_abs}
use Rattle.px_units.specs.Lengths.{InsetPercentage, inset_against, seen_inset, clamped}
use Rattle.px_units.specs.declared.Length.{Length}
use Rattle.style_values.specs.Ranges.{IsInset}
use Rattle.positioned_layout.specs.Seen.{IsSpan}
use Rattle.positioned_layout.proofs.Numbers.{reach_again, part_again}
use Rattle.positioned_layout.proofs.insets.against.Goals as goal

pub returns-in_ok-part-in-Percent-clause-value : goal.returns-in_ok-part-in-Percent-clause-value
returns-in_ok-part-in-Percent-clause-value c =
    let basis = c.in_ok-part-in-Percent.was in
    let range = subst (λ (inset : Length). IsInset inset) c.in-Percent.is c.requires.inset in
    let span : IsSpan c.in_ok-part-in-Percent.field-0 = subst (λ o. IfSome o IsSpan) basis c.requires.basis in
    ap Some
    (reach_again c.clamped.result c.clamped.ensures.range
    ∙ c.clamped.ensures.value
    ∙ ap clamped (part_again c.in_ok-part-in-Percent.field-0 c.in-Percent.percent.0 c.from.result span range.0 range.1 c.from.ensures))
    ∙ sym
    (ap (λ (inset : Length). inset_against (seen_inset inset) (option_map unsigned_abs c.args.basis)) c.in-Percent.is
    ∙ ap (λ o. inset_against (InsetPercentage c.in-Percent.percent.0) (option_map unsigned_abs o)) basis)
