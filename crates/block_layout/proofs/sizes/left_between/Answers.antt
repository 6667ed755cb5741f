use Rattle.std.proofs.Common.{◌≡◌, ℤ, pos, ◌-ℤ◌, min, arith, ap, sym, subst, ◌∙◌}
use Rattle.std.proofs.lemmas.Int.{ints, clamps}
use Rattle.std.specs.Int.{int_max}
use Rattle.std.specs.Prelude.{unsigned_abs, unwrap_or}
use mir.Syntax.{w128}
use mir.Val.{of_z, to_z}
use lib.Dec.{T}
use lib.Signed.{non_neg}
use Rattle.px_units.specs.Lengths.{cap, at_least_zero}
use Rattle.block_layout.proofs.Signed.{at_least_is, capped_again, left_again}
use Rattle.block_layout.proofs.sizes.left_between.Goals as goal

pub overflow_sub-left-2 : goal.overflow_sub-left-2
overflow_sub-left-2 c = omega (arith, ints)

left : (c : goal.After-min) → to_z w128 (of_z w128 c.min.result) ≡ pos (min (at_least_zero (pos c.args.containing -ℤ c.unwrap_or.result -ℤ c.unwrap_or-2.result -ℤ pos c.args.around)) 2147483647)
left c =
    capped_again _ c.max.result c.from-5.result c.min.result (record { sfits = c.max.type_inv })
    (c.max.ensures.value
    ∙ ap (λ z. int_max z (pos 0)) (left_again c.args.containing c.args.around c.unwrap_or.result c.unwrap_or-2.result c.from.result c.from-2.result c.from-3.result c.from-4.result
    c.ranges.containing.fits c.ranges.around.fits (record { sfits = c.unwrap_or.type_inv }) (record { sfits = c.unwrap_or-2.type_inv }) c.from.ensures c.from-2.ensures c.from-3.ensures c.from-4.ensures)
    ∙ at_least_is (pos c.args.containing -ℤ c.unwrap_or.result -ℤ c.unwrap_or-2.result -ℤ pos c.args.around))
    c.from-5.ensures c.min.ensures.value

pub overflow_cast-result : goal.overflow_cast-result
overflow_cast-result c = (subst (λ (z : ℤ). T (non_neg z)) (sym (left c)) tt, omega (arith, ints, clamps))

pub returns : goal.returns
returns c =
    ap unsigned_abs (left c)
    ∙ ap (λ one. cap (at_least_zero (pos c.args.containing -ℤ one -ℤ c.unwrap_or-2.result -ℤ pos c.args.around))) c.unwrap_or.ensures
    ∙ ap (λ other. cap (at_least_zero (pos c.args.containing -ℤ unwrap_or c.args.one (pos 0) -ℤ other -ℤ pos c.args.around))) c.unwrap_or-2.ensures
