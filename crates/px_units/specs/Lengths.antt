-- Lengths of a style, resolved against a basis (CSS 2.2, 10.2 to 10.7). All numbers are units of 1/64 pixel.
use Rattle.std.specs.Prelude.{ℕ, ◌*◌, ◌/◌, min, ℤ, pos, negsuc, neg_ℤ, ◌*ℤ◌, int_div, unsigned_abs, Option, Some, None, option_map, ◌≤ℤ◌}
use Rattle.std.specs.Int.{int_min, int_max}
use Rattle.px_units.specs.declared.Length.{Length}
use Rattle.px_units.specs.declared.Length.TheVariants.{Auto, Px, Percent}

-- `auto`, units, or hundredths of a percent, none of them negative
pub data LengthValue : Type 0 where
  Automatic : LengthValue
  Pixels : (units : ℕ) → LengthValue
  Percentage : (hundredths : ℕ) → LengthValue

-- an inset of a positioned box: `auto`, units, or hundredths of a percent, which may be negative (CSS Positioned Layout 3, 3.1)
pub data InsetValue : Type 0 where
  AutomaticInset : InsetValue
  InsetPixels : (units : ℤ) → InsetValue
  InsetPercentage : (hundredths : ℤ) → InsetValue

-- a length capped at the largest one, which is a bound of this project
abbrev pub cap : ℕ → ℕ
cap units = min units 2147483647

-- a number of hundredths of a percent of a basis, rounded down to units
abbrev pub part : ℕ → ℕ → ℕ
part hundredths basis = (basis * hundredths) / 10000

-- the length that a value resolves to against a basis, None for `auto`
abbrev pub resolved : LengthValue → ℕ → Option ℕ
resolved Automatic basis = None
resolved (Pixels units) basis = Some (cap units)
resolved (Percentage hundredths) basis = Some (cap (part hundredths basis))

-- a signed length clamped to the largest length on both sides of 0, which is a bound of this project
abbrev pub clamped : ℤ → ℤ
clamped units = int_max (neg_ℤ (pos 2147483647)) (int_min (pos 2147483647) units)

-- a number of hundredths of a percent of a basis, truncated toward zero
abbrev pub signed_part : ℤ → ℕ → ℤ
signed_part hundredths basis = int_div (pos basis *ℤ hundredths) (pos 10000)

-- what an inset resolves to against a basis that may be indefinite: None for `auto`, and for a percentage without a basis
abbrev pub inset_against : InsetValue → Option ℕ → Option ℤ
inset_against AutomaticInset basis = None
inset_against (InsetPixels units) basis = Some units
inset_against (InsetPercentage hundredths) basis = option_map (λ size. clamped (signed_part hundredths size)) basis

-- a difference of lengths, or 0 if it is negative
abbrev pub at_least_zero : ℤ → ℕ
at_least_zero (pos units) = units
at_least_zero (negsuc units) = 0

-- what a `Length` stands for if it isn't the value of an inset
abbrev pub seen_length : Length → LengthValue
seen_length Auto = Automatic
seen_length (Px px) = Pixels (unsigned_abs px.0)
seen_length (Percent percent) = Percentage (unsigned_abs percent.0)

-- what a `Length` stands for if it is the value of an inset
abbrev pub seen_inset : Length → InsetValue
seen_inset Auto = AutomaticInset
seen_inset (Px px) = InsetPixels (px.0)
seen_inset (Percent percent) = InsetPercentage (percent.0)

-- whether a length isn't negative; in a style only insets may be negative
abbrev pub IsNotNegative : Length → Type 0
IsNotNegative Auto = Unit {0}
IsNotNegative (Px px) = pos 0 ≤ℤ px.0
IsNotNegative (Percent percent) = pos 0 ≤ℤ percent.0
