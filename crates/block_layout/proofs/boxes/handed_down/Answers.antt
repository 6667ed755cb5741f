use Rattle.std.proofs.Common.{option_map, refl, ap, ◌∙◌}
use Rattle.std.specs.Prelude.{unsigned_abs}
use Rattle.block_layout.specs.Around.{seen_given}
use Rattle.block_layout.specs.Seen.{seen_item}
use Rattle.block_layout.proofs.Parts.{inputs_are, inputs_with, unsigned_again, unsigned_if}
use Rattle.block_layout.proofs.boxes.handed_down.Goals as goal

pub returns-clause-value : goal.returns-clause-value
returns-clause-value c =
    inputs_with _ _ _ _ (unsigned_again c.signed.result _ c.whole.invariant.width c.signed.ensures)
    (ap (option_map unsigned_abs) (c.definite_height.ensures.value (seen_item c.args.style.now c.args.kind) refl) ∙ unsigned_if _ _)
    ∙ inputs_are (seen_item c.args.style.now c.args.kind) (seen_given c.args.inputs) _ (c.whole.view_is ∙ c.laid_out-whole.ensures.value)
