use Rattle.std.proofs.Common.{arith, sym}
use Rattle.word_model.proofs.Values.{value_from_zero, all_read, passed}
use Rattle.word_model.proofs.numbers.bounded_value.Goals as goal

pub loop-digit-init : goal.loop-digit-init
loop-digit-init c = record { read = sym (value_from_zero _); within = omega arith }

pub returns-then-value-bound : goal.returns-then-value-bound
returns-then-value-bound c = passed _ _ _ _ (omega arith) c.loop-digit.invariant.read (omega arith)

pub returns : goal.returns
returns c = all_read _ _ _ _ (omega arith) c.loop-digit.invariant.read c.loop-digit.invariant.within
