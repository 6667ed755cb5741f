use Rattle.std.proofs.Common.{◌≡◌, drop}
use Rattle.word_model.specs.Numbers.{decimal_on, decimal}
use Rattle.word_model.proofs.print.write_decimal.Given as goal

abbrev pub invariant-loop-place : goal.invariant-loop-place
invariant-loop-place l = decimal_on l.place l.rest (drop l.place l.buffer) ≡ decimal l.value
