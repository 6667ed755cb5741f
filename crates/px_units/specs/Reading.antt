-- Which fault a text has that isn't a length or percentage. The two kinds are this project's own choice.
use Rattle.std.specs.Prelude.{ℕ, cond, List}
use Rattle.word_model.specs.Numbers.{is_decimal_with}
use Rattle.px_units.specs.declared.lengths.LengthFault.{LengthFault}
use Rattle.px_units.specs.declared.lengths.LengthFault.TheVariants.{NotALength, OutOfRange}

-- a decimal number with this unit is out of range; any other text isn't a length
abbrev pub fault_of : List ℕ → List ℕ → LengthFault
fault_of unit text = cond (is_decimal_with unit text) OutOfRange NotALength
