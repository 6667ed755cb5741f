use Rattle.std.proofs.Common.{arith}
use Rattle.word_model.proofs.Decimals.{decimal_at_end, written, one_more, full}
use Rattle.word_model.proofs.print.write_decimal.Goals as goal

pub loop-place-init : goal.loop-place-init
loop-place-init c = decimal_at_end c.args.buffer.now c.args.value (omega arith)

pub returns-then-rest-lt10-clause-text : goal.returns-then-rest-lt10-clause-text
returns-then-rest-lt10-clause-text c =
    written c.loop-place.buffer _ c.loop-place.place _ _ (omega arith) (omega arith) (omega arith) c.loop-place.invariant

pub loop-place-preserved : goal.loop-place-preserved
loop-place-preserved c =
    one_more c.loop-place.buffer _ c.loop-place.place _ _ (omega arith) (omega arith) (omega arith) c.loop-place.invariant

pub returns-clause-text : goal.returns-clause-text
returns-clause-text c = full _ _ _ _ (omega arith) c.loop-place.invariant
