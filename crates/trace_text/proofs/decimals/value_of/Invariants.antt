use Rattle.std.proofs.Common.{◌≡◌, ◌-◌, ◌^◌, ◌≤◌, drop}
use Rattle.word_model.specs.Numbers.{digits_value}
use Rattle.word_model.proofs.Values.{value_from}
use Rattle.trace_text.proofs.decimals.value_of.Given as goal

abbrev pub invariant-loop-digit : goal.invariant-loop-digit
invariant-loop-digit l = record {
  read : value_from l.value (drop l.digit-index l.digits) ≡ digits_value l.digits;
  within : l.value ≤ 2 ^ 128 - 1;
}
