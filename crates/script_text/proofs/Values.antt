-- Printed lengths, percentages and numbers are read as the same values.
use Rattle.std.proofs.Common.{◌≡◌, ℕ, ℤ, ◌≤◌, Some}
use Rattle.std.specs.Prelude.{unsigned_abs}
use Rattle.word_model.specs.Numbers.{length_of, signed_of, percent_of, signed_percent_of, number_of}
use Rattle.media_queries.specs.LengthText.{length_text}
use Rattle.script_text.specs.NumberText.{percent_text, signed_text, signed_percent_text, number_text}
use Rattle.script_text.proofs.NumbersAgain.{length_again, signed_again, percent_again, signed_percent_again, number_again}

pub length_reads : (units : ℕ) → units ≤ 64000000 → length_of (length_text units) ≡ Some units
length_reads units h = (length_again units h).read

pub signed_reads : (units : ℤ) → unsigned_abs units ≤ 64000000 → signed_of (signed_text units) ≡ Some units
signed_reads units h = (signed_again units h).read

pub percent_reads : (hundredths : ℕ) → hundredths ≤ 1000000 → percent_of (percent_text hundredths) ≡ Some hundredths
percent_reads hundredths h = (percent_again hundredths h).read

pub signed_percent_reads : (hundredths : ℤ) → unsigned_abs hundredths ≤ 1000000 → signed_percent_of (signed_percent_text hundredths) ≡ Some hundredths
signed_percent_reads hundredths h = (signed_percent_again hundredths h).read

pub number_reads : (number : ℤ) → unsigned_abs number ≤ 9999999999999 → number_of (number_text number) ≡ Some number
number_reads number h = (number_again number h).read
