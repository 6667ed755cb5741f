-- Sums and parts that the code computes with a sign, in numbers that are wide enough for them.
use Rattle.std.proofs.Common.{◌≡◌, ◌<◌, ◌≤◌, ◌^◌, ℕ, ℤ, pos, negsuc, ◌+ℤ◌, ◌-ℤ◌, ◌*ℤ◌, min, ap, ◌∙◌, arith}
use Rattle.std.proofs.lemmas.Int.{ints, clamps, to_z-of_z, fits_signed_mul, quot_fits}
use Rattle.std.specs.Int.{int_max, int_min}
use Rattle.std.specs.Prelude.{int_div, unsigned_abs}
use mir.Syntax.{w32, w64, w128}
use mir.Val.{of_z, to_z, SFits}
use Rattle.px_units.specs.Lengths.{at_least_zero, clamped, signed_part}

pub at_least_is : (z : ℤ) → int_max z (pos 0) ≡ pos (at_least_zero z)
at_least_is (pos n) = omega (arith, ints, clamps)
at_least_is (negsuc n) = omega (arith, ints, clamps)

pub capped_again : (k : ℕ) (m l r : ℤ) → SFits w128 m → m ≡ pos k → l ≡ pos 2147483647 → r ≡ int_min (to_z w128 (of_z w128 m)) (to_z w128 (of_z w128 l)) → to_z w128 (of_z w128 r) ≡ pos (min k 2147483647)
capped_again k m l r fits is largest least = omega (arith, ints, clamps)

pub left_again : (containing around : ℕ) (u v x y p q : ℤ) → containing < 2 ^ 64 → around < 2 ^ 64 → SFits w64 u → SFits w64 v
    → x ≡ to_z w64 (of_z w64 u) → y ≡ to_z w64 (of_z w64 v) → p ≡ pos containing → q ≡ pos around
    → to_z w128 (of_z w128 (to_z w128 (of_z w128 (to_z w128 (of_z w128 p) -ℤ to_z w128 (of_z w128 (to_z w128 (of_z w128 x) +ℤ to_z w128 (of_z w128 y))))) -ℤ to_z w128 (of_z w128 q)))
    ≡ pos containing -ℤ u -ℤ v -ℤ pos around
left_again containing around u v x y p q low near fits fits_too first second third fourth = omega (arith, ints)

pub clamped_again : (part m l r : ℤ) → SFits w128 m → l ≡ pos 2147483647 → m ≡ int_max part (to_z w128 (of_z w128 (pos 0 -ℤ to_z w128 (of_z w128 l))))
    → r ≡ int_min (to_z w128 (of_z w128 m)) (to_z w128 (of_z w128 l)) → to_z w64 (of_z w64 (to_z w128 (of_z w128 r))) ≡ clamped part
clamped_again part m l r fits largest most least = omega (arith, ints, clamps)

pub part_again : (basis : ℕ) (hundredths x y : ℤ) → basis < 2 ^ 64 → SFits w32 hundredths → x ≡ pos basis → y ≡ to_z w32 (of_z w32 hundredths)
    → to_z w128 (of_z w128 (int_div (to_z w128 (of_z w128 (to_z w128 (of_z w128 x) *ℤ to_z w128 (of_z w128 y)))) (pos 10000))) ≡ signed_part hundredths basis
part_again basis hundredths x y low fits first second =
    let left : to_z w128 (of_z w128 x) ≡ pos basis = omega (arith, ints) in
    let right : to_z w128 (of_z w128 y) ≡ hundredths = omega (arith, ints) in
    let near : unsigned_abs hundredths ≤ 2147483648 = omega (arith, ints) in
    let product : SFits w128 (pos basis *ℤ hundredths) = fits_signed_mul w128 (pos basis) hundredths 18446744073709551616 2147483648 (omega arith) near (omega arith) in
    let quotient : SFits w128 (int_div (pos basis *ℤ hundredths) (pos 10000)) = quot_fits w128 (pos basis *ℤ hundredths) (pos 10000) product (omega (arith, ints)) in
    ap (λ l. to_z w128 (of_z w128 (int_div (to_z w128 (of_z w128 (l *ℤ to_z w128 (of_z w128 y)))) (pos 10000)))) left
    ∙ ap (λ r. to_z w128 (of_z w128 (int_div (to_z w128 (of_z w128 (pos basis *ℤ r))) (pos 10000)))) right
    ∙ ap (λ p. to_z w128 (of_z w128 (int_div p (pos 10000)))) (to_z-of_z w128 (pos basis *ℤ hundredths) product)
    ∙ to_z-of_z w128 (int_div (pos basis *ℤ hundredths) (pos 10000)) quotient
