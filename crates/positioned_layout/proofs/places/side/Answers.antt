use Rattle.std.proofs.Common.{◌≡◌, Some, subst, ap, sym, ◌∙◌, arith}
use Rattle.std.proofs.lemmas.Int.{ints}
use Rattle.std.specs.Prelude.{unsigned_abs}
use Rattle.px_units.specs.Lengths.{inset_against, seen_inset, seen_length}
use Rattle.layout_model.specs.Boxes.{used_side, used_insets, box_in}
use Rattle.layout_model.specs.Views.{inputs_under}
use Rattle.style_values.specs.Seen.{seen_style}
use Rattle.positioned_layout.specs.Along.{along, far_side}
use Rattle.positioned_layout.specs.Seen.{IsSpan}
use Rattle.positioned_layout.proofs.Numbers.{cut_again, span_again, unwrap_abs, unwrap_span}
use Rattle.positioned_layout.proofs.Placing.{side_across, side_down}
use Rattle.positioned_layout.proofs.places.side.Goals as goal

pub returns-in-Across-clause-value : goal.returns-in-Across-clause-value
returns-in-Across-clause-value c at view n styled is =
    let range = c.requires.measure in
    let margin = c.used_margin-far_margin in
    let width = span_again c.args.measure.now.width range.width in
    let far : seen_length c.far_side.result ≡ seen_length c.args.style.now.margin_right = c.far_side.ensures.value ∙ ap (λ a. far_side a (seen_style c.args.style.now).margin) c.in-Across.is in
    side_across at view n c.args.style.now c.args.measure.now styled is _ _ _ _ _ _
    (ap unsigned_abs width)
    (c.against.ensures.value ∙ ap (λ w. inset_against (seen_inset c.args.style.now.left) (Some (unsigned_abs w))) width)
    (c.against-in-Across.ensures.value ∙ ap (λ w. inset_against (seen_inset c.args.style.now.right) (Some (unsigned_abs w))) width)
    (ap unsigned_abs (span_again c.args.measure.now.margin.left range.margin.0))
    (ap unsigned_abs (cut_again c.used_margin-far_margin.result c.used_margin-far_margin.ensures.range ∙ c.used_margin-far_margin.ensures.value)
    ∙ ap (λ w. used_side (unsigned_abs w) (seen_length c.far_side.result)) width
    ∙ ap (λ l. used_side (unsigned_abs c.args.measure.now.width) l) far)
    (ap unsigned_abs (span_again c.args.measure.now.border.width range.border.0))
    ∙ ap (λ a. along a (inputs_under at view n) (used_insets (at n).item.style.inset (inputs_under at view n)) (box_in at (inputs_under at view n) n)) (sym c.in-Across.is)

pub returns-in-Down-clause-value : goal.returns-in-Down-clause-value
returns-in-Down-clause-value c at view n styled is =
    let range = c.requires.measure in
    let width = span_again c.args.measure.now.width range.width in
    let height : IsSpan c.unwrap_or.result = subst (λ x. IsSpan x) (sym c.unwrap_or.ensures) (unwrap_span c.args.measure.now.height range.height) in
    let far : seen_length c.far_side.result ≡ seen_length c.args.style.now.margin_bottom = c.far_side.ensures.value ∙ ap (λ a. far_side a (seen_style c.args.style.now).margin) c.in-Down.is in
    side_down at view n c.args.style.now c.args.measure.now styled is _ _ _ _ _ _
    (ap unsigned_abs (span_again c.unwrap_or.result height ∙ c.unwrap_or.ensures) ∙ unwrap_abs c.args.measure.now.height)
    c.against-in-Down.ensures.value
    c.against-in-Down-2.ensures.value
    (ap unsigned_abs (span_again c.args.measure.now.margin.top range.margin.1))
    (ap unsigned_abs (cut_again c.used_margin-far_margin.result c.used_margin-far_margin.ensures.range ∙ c.used_margin-far_margin.ensures.value)
    ∙ ap (λ w. used_side (unsigned_abs w) (seen_length c.far_side.result)) width
    ∙ ap (λ l. used_side (unsigned_abs c.args.measure.now.width) l) far)
    (ap unsigned_abs (span_again c.args.measure.now.border.height range.border.1))
    ∙ ap (λ a. along a (inputs_under at view n) (used_insets (at n).item.style.inset (inputs_under at view n)) (box_in at (inputs_under at view n) n)) (sym c.in-Down.is)

pub returns-in-Down-clause-range : goal.returns-in-Down-clause-range
returns-in-Down-clause-range c =
    let range = c.requires.measure in
    let height : IsSpan c.unwrap_or.result = subst (λ x. IsSpan x) (sym c.unwrap_or.ensures) (unwrap_span c.args.measure.now.height range.height) in
    let cut = c.used_margin-far_margin.ensures.range in
    record {
      containing = subst (λ x. IsSpan x) (sym (span_again c.unwrap_or.result height)) height;
      near = c.against-in-Down.ensures.range;
      far = c.against-in-Down-2.ensures.range;
      near_margin = subst (λ x. IsSpan x) (sym (span_again c.args.measure.now.margin.top range.margin.1)) range.margin.1;
      far_margin = subst (λ x. IsSpan x) (sym (cut_again c.used_margin-far_margin.result cut)) (cut.0, omega (arith, ints, cut));
      border = subst (λ x. IsSpan x) (sym (span_again c.args.measure.now.border.height range.border.1)) range.border.1;
    }
