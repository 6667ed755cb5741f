-- Bounds on lengths and points.
use Rattle.std.proofs.Common.{◌≤◌, ℕ, zero, suc, Bool, true, false, arith}
use Rattle.std.specs.Prelude.{⊤}
use Rattle.px_units.specs.Lengths.{cap}
use Rattle.layout_model.specs.Points.{IsWithin}
use Rattle.layout_model.specs.Reach.{in_force, force_if}

pub cap_most : (size : ℕ) → cap size ≤ 2147483647
cap_most size = omega arith

pub force_within : (x y : ℕ) (range : ⊤ → ℕ × ℕ) → IsWithin (in_force x y range) (range tt)
force_within zero zero range = (omega arith, omega arith)
force_within zero (suc y) range = (omega arith, omega arith)
force_within (suc x) y range = (omega arith, omega arith)

pub force_if_within : (scrolls : Bool) (stored : ℕ × ℕ) (range : ⊤ → ℕ × ℕ) → IsWithin (force_if scrolls stored range) (range tt)
force_if_within true stored range = force_within (stored.0) (stored.1) range
force_if_within false stored range = (omega arith, omega arith)
