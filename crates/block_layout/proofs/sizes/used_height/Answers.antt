use Rattle.std.proofs.Common.{◌+◌, option_map, arith, ap, ◌∙◌}
use Rattle.px_units.specs.Lengths.{seen_length, cap}
use Rattle.layout_model.specs.Boxes.{automatic_height, used_insets}
use Rattle.style_values.specs.Seen.{seen_style, seen_box_sizing}
use Rattle.block_layout.specs.Around.{seen_given}
use Rattle.block_layout.specs.Seen.{seen_kind}
use Rattle.block_layout.proofs.Limited.{used_same}
use Rattle.block_layout.proofs.sizes.used_height.Goals as goal

pub returns-clause-value : goal.returns-clause-value
returns-clause-value c =
    let around = c.args.around in
    let style = c.args.style.now in
    c.used.ensures.value
    ∙ used_same
    (seen_box_sizing style.box_sizing)
    (around.border.top + around.padding.top + around.padding.bottom + around.border.bottom)
    c.args.inputs.height
    (seen_length style.height)
    (seen_length style.min_height)
    (option_map seen_length style.max_height)
    c.automatic_height.result
    (automatic_height (seen_kind c.args.kind) (seen_given c.args.inputs) (used_insets ((seen_style style).inset) (seen_given c.args.inputs)) c.args.inside (around.margin.top + around.border.top + around.padding.top + around.padding.bottom + around.border.bottom + around.margin.bottom))
    (c.automatic_height.ensures
    ∙ ap
    (λ edges. cap (automatic_height (seen_kind c.args.kind) (seen_given c.args.inputs) (used_insets ((seen_style style).inset) (seen_given c.args.inputs)) c.args.inside edges))
    (omega arith))
