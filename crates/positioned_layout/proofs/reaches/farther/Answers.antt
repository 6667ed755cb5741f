use Rattle.std.proofs.Common.{◌≡◌, ap, ◌∙◌, arith}
use Rattle.std.proofs.lemmas.Int.{ints, clamps, to_z-of_z}
use Rattle.std.specs.Int.{int_max}
use Rattle.std.specs.Prelude.{◌+ℤ◌, ◌-ℤ◌, unsigned_abs}
use mir.Val.{to_z, of_z}
use mir.Syntax.{w64}
use Rattle.positioned_layout.proofs.Numbers.{edge_again, max_again}
use Rattle.positioned_layout.proofs.reaches.farther.Goals as goal

pub returns-clause-value : goal.returns-clause-value
returns-clause-value c =
    let edge : to_z w64 (of_z w64 c.args.edge) ≡ c.args.edge = omega (arith, ints, c.requires.edge) in
    ap unsigned_abs
    (to_z-of_z w64 c.max.result (record { sfits = c.max.type_inv })
    ∙ c.max.ensures.value
    ∙ ap (λ x. int_max x (to_z w64 (of_z w64 (to_z w64 (of_z w64 (to_z w64 (of_z w64 c.args.place) +ℤ to_z w64 (of_z w64 c.args.border))) -ℤ to_z w64 (of_z w64 c.args.corner))))) edge
    ∙ ap (int_max c.args.edge) (edge_again c.args.place c.args.border c.args.corner c.requires.place c.requires.border c.requires.corner))
    ∙ max_again c.args.edge (c.args.place +ℤ c.args.border -ℤ c.args.corner) c.requires.edge.0

pub returns-clause-range : goal.returns-clause-range
returns-clause-range c =
    let edge : to_z w64 (of_z w64 c.args.edge) ≡ c.args.edge = omega (arith, ints, c.requires.edge) in
    let whole = to_z-of_z w64 c.max.result (record { sfits = c.max.type_inv })
    ∙ c.max.ensures.value
    ∙ ap (λ x. int_max x (to_z w64 (of_z w64 (to_z w64 (of_z w64 (to_z w64 (of_z w64 c.args.place) +ℤ to_z w64 (of_z w64 c.args.border))) -ℤ to_z w64 (of_z w64 c.args.corner))))) edge
    ∙ ap (int_max c.args.edge) (edge_again c.args.place c.args.border c.args.corner c.requires.place c.requires.border c.requires.corner) in
    (omega (arith, ints, clamps, whole, c.requires.edge), omega (arith, ints, clamps, whole, c.requires.edge, c.requires.place, c.requires.border, c.requires.corner))
