-- Percentages of a width.
use Rattle.std.proofs.Common.{◌≡◌, ℕ, zero, suc, ◌*◌, ◌/◌, ◌≤◌, refl, arith}
use Rattle.std.specs.Prelude.{ℤ, pos, negsuc, neg_ℤ, ◌≤ℤ◌, ◌*ℤ◌, unsigned_abs, int_div}
use Rattle.std.specs.Prelude.{FitsSigned}
use Rattle.std.specs.Int.{w64}
use Rattle.std.proofs.lemmas.Int.{ints, unsigned_abs-mul, fits_signed_from_abs}
use Rattle.std.proofs.lemmas.Nat.{mul-le}

-- between a negative bound and its opposite
pub within : (m : ℕ) (z : ℤ) → negsuc m ≤ℤ z → z ≤ℤ pos (suc m) → unsigned_abs z ≤ suc m
within m (pos n) low high = omega (arith, ints)
within m (negsuc n) low high = omega (arith, ints)

low_of : (m : ℕ) (z : ℤ) → unsigned_abs z ≤ suc m → negsuc m ≤ℤ z
low_of m (pos n) h = omega (arith, ints)
low_of m (negsuc n) h = omega (arith, ints)

high_of : (m : ℕ) (z : ℤ) → unsigned_abs z ≤ suc m → z ≤ℤ pos (suc m)
high_of m (pos n) h = omega (arith, ints)
high_of m (negsuc n) h = omega (arith, ints)

opposite : (n : ℕ) → unsigned_abs (neg_ℤ (pos n)) ≡ n
opposite zero = refl
opposite (suc n) = refl

quotient : (z : ℤ) (d : ℕ) → unsigned_abs (int_div z (pos d)) ≡ unsigned_abs z / d
quotient (pos n) d = refl
quotient (negsuc n) d = opposite (suc n / d)

product : (w h : ℤ) → negsuc 4398046511103 ≤ℤ w → w ≤ℤ pos 4398046511104 → negsuc 999999 ≤ℤ h → h ≤ℤ pos 1000000 → unsigned_abs (w *ℤ h) ≤ 4398046511104 * 1000000
product w h a b c d =
    rw unsigned_abs-mul (mul-le (unsigned_abs w) (unsigned_abs h) 4398046511104 1000000 (within 4398046511103 w a b) (within 999999 h c d))

part : (w h : ℤ) → negsuc 4398046511103 ≤ℤ w → w ≤ℤ pos 4398046511104 → negsuc 999999 ≤ℤ h → h ≤ℤ pos 1000000 → unsigned_abs (int_div (w *ℤ h) (pos 10000)) ≤ 439804651110400
part w h a b c d =
    let e = quotient (w *ℤ h) 10000 in
    let m = product w h a b c d in
    omega (arith, e, m)

pub product_low : (w h : ℤ) → negsuc 4398046511103 ≤ℤ w → w ≤ℤ pos 4398046511104 → negsuc 999999 ≤ℤ h → h ≤ℤ pos 1000000 → negsuc 4398046511103999999 ≤ℤ (w *ℤ h)
product_low w h a b c d = low_of 4398046511103999999 (w *ℤ h) (product w h a b c d)

pub product_high : (w h : ℤ) → negsuc 4398046511103 ≤ℤ w → w ≤ℤ pos 4398046511104 → negsuc 999999 ≤ℤ h → h ≤ℤ pos 1000000 → (w *ℤ h) ≤ℤ pos 4398046511104000000
product_high w h a b c d = high_of 4398046511103999999 (w *ℤ h) (product w h a b c d)

pub part_low : (w h : ℤ) → negsuc 4398046511103 ≤ℤ w → w ≤ℤ pos 4398046511104 → negsuc 999999 ≤ℤ h → h ≤ℤ pos 1000000 → negsuc 439804651110399 ≤ℤ int_div (w *ℤ h) (pos 10000)
part_low w h a b c d = low_of 439804651110399 (int_div (w *ℤ h) (pos 10000)) (part w h a b c d)

pub part_high : (w h : ℤ) → negsuc 4398046511103 ≤ℤ w → w ≤ℤ pos 4398046511104 → negsuc 999999 ≤ℤ h → h ≤ℤ pos 1000000 → int_div (w *ℤ h) (pos 10000) ≤ℤ pos 439804651110400
part_high w h a b c d = high_of 439804651110399 (int_div (w *ℤ h) (pos 10000)) (part w h a b c d)

pub product_fits : (w h : ℤ) → negsuc 4398046511103 ≤ℤ w → w ≤ℤ pos 4398046511104 → negsuc 999999 ≤ℤ h → h ≤ℤ pos 1000000 → FitsSigned w64 (w *ℤ h)
product_fits w h a b c d = let m = product w h a b c d in fits_signed_from_abs w64 (w *ℤ h) (omega (arith, m))

pub part_fits : (w h : ℤ) → negsuc 4398046511103 ≤ℤ w → w ≤ℤ pos 4398046511104 → negsuc 999999 ≤ℤ h → h ≤ℤ pos 1000000 → FitsSigned w64 (int_div (w *ℤ h) (pos 10000))
part_fits w h a b c d =
    let m = part w h a b c d in fits_signed_from_abs w64 (int_div (w *ℤ h) (pos 10000)) (omega (arith, m))
