-- Edges moved by margins, and their differences, fit 64 bits.
use Rattle.std.proofs.Common.{◌≡◌, arith}
use Rattle.std.specs.Prelude.{ℤ, ◌+ℤ◌, ◌-ℤ◌}
use Rattle.std.specs.Int.{w64, cast_signed, cast_unsigned}
use Rattle.std.proofs.lemmas.Int.{ints}
use Rattle.thresholds.specs.Roots.{IsRootEdge, IsMargin}

pub less : (a b : ℤ) → IsRootEdge a → IsMargin b → cast_signed w64 (cast_unsigned w64 (cast_signed w64 (cast_unsigned w64 a) -ℤ cast_signed w64 (cast_unsigned w64 b))) ≡ a -ℤ b
less a b h g = omega (arith, ints)

pub more : (a b : ℤ) → IsRootEdge a → IsMargin b → cast_signed w64 (cast_unsigned w64 (cast_signed w64 (cast_unsigned w64 a) +ℤ cast_signed w64 (cast_unsigned w64 b))) ≡ a +ℤ b
more a b h g = omega (arith, ints)

pub margin_fits : (a : ℤ) → IsMargin a → cast_signed w64 (cast_unsigned w64 a) ≡ a
margin_fits a h = omega (arith, ints)

pub width_fits : (a b : ℤ) → IsRootEdge a → IsRootEdge b → cast_signed w64 (cast_unsigned w64 (cast_signed w64 (cast_unsigned w64 a) -ℤ cast_signed w64 (cast_unsigned w64 b))) ≡ a -ℤ b
width_fits a b h g = omega (arith, ints)

-- how far an edge is moved
pub lessened : (a b m : ℤ) → a ≡ b -ℤ m → IsMargin m → IsMargin (a -ℤ b)
lessened a b m is it = record { low = omega (arith, ints); high = omega (arith, ints) }

pub increased : (a b m : ℤ) → a ≡ b +ℤ m → IsMargin m → IsMargin (a -ℤ b)
increased a b m is it = record { low = omega (arith, ints); high = omega (arith, ints) }
