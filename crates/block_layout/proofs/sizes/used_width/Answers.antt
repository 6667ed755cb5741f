use Rattle.std.proofs.Common.{◌+◌, Some, option_map, arith, ap, ◌∙◌}
use Rattle.px_units.specs.Lengths.{seen_length, cap}
use Rattle.layout_model.specs.Boxes.{automatic_width, used_insets}
use Rattle.style_values.specs.Seen.{seen_style, seen_box_sizing}
use Rattle.block_layout.specs.Around.{seen_given}
use Rattle.block_layout.specs.Seen.{seen_kind}
use Rattle.block_layout.proofs.Limited.{used_same}
use Rattle.block_layout.proofs.sizes.used_width.Goals as goal

pub returns-clause-value : goal.returns-clause-value
returns-clause-value c =
    let around = c.args.around in
    let style = c.args.style.now in
    c.used.ensures.value
    ∙ used_same
    (seen_box_sizing style.box_sizing)
    (around.border.left + around.padding.left + around.padding.right + around.border.right)
    (Some c.args.inputs.width)
    (seen_length style.width)
    (seen_length style.min_width)
    (option_map seen_length style.max_width)
    c.automatic_width.result
    (automatic_width (seen_kind c.args.kind) (seen_given c.args.inputs) (used_insets ((seen_style style).inset) (seen_given c.args.inputs)) (around.margin.left + around.border.left + around.padding.left + around.padding.right + around.border.right + around.margin.right))
    (c.automatic_width.ensures
    ∙ ap
    (λ edges. cap (automatic_width (seen_kind c.args.kind) (seen_given c.args.inputs) (used_insets ((seen_style style).inset) (seen_given c.args.inputs)) edges))
    (omega arith))
