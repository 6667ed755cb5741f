use Rattle.std.proofs.Common.{◌≡◌, arith, ap, ◌∙◌}
use Rattle.std.proofs.lemmas.Int.{ints}
use Rattle.std.specs.Prelude.{unsigned_abs}
use mir.Syntax.{w64}
use mir.Val.{of_z, to_z}
use Rattle.layout_model.specs.Boxes.{computed}
use Rattle.block_layout.specs.Seen.{seen_inputs, seen_item}
use Rattle.block_layout.proofs.Parts.{item_same}
use Rattle.block_layout.proofs.boxes.compute_box.Goals as goal

pub returns-clause-value : goal.returns-clause-value
returns-clause-value g c =
    let same : to_z w64 (of_z w64 c.args.inside) ≡ c.args.inside = omega (arith, ints) in
    c.laid_out.ensures.value
    ∙ ap (λ inputs. computed (seen_item c.style.result.now c.kind.result) inputs c.unsigned_abs.result) c.unsigned.ensures
    ∙ ap (λ item. computed item (seen_inputs c.args.inputs) c.unsigned_abs.result) (item_same _ _ _ _ c.style.ensures.value c.kind.ensures)
    ∙ ap (computed _ (seen_inputs c.args.inputs)) (c.unsigned_abs.ensures.value ∙ ap unsigned_abs same)
