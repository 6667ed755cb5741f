use Rattle.std.proofs.Common.{arith, sym}
use Rattle.word_model.proofs.Values.{value_from_zero}
use Rattle.trace_text.proofs.Values.{read_whole, read_more}
use Rattle.trace_text.proofs.decimals.value_of.Goals as goal

pub loop-digit-init : goal.loop-digit-init
loop-digit-init c = record { read = sym (value_from_zero _); within = omega arith }

pub returns-then-value-digit : goal.returns-then-value-digit
returns-then-value-digit c = read_more _ _ _ _ (omega arith) c.loop-digit.invariant.read (omega arith)

pub returns : goal.returns
returns c = read_whole _ _ _ (omega arith) c.loop-digit.invariant.read
