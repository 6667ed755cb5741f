use Rattle.std.proofs.Common.{◌≡◌, ◌<◌, drop}
use Rattle.trace_text.specs.Reading.{are_decimals}
use Rattle.trace_text.proofs.lengths.are_decimals.Given as goal

abbrev pub invariant-loop-digit : goal.invariant-loop-digit
invariant-loop-digit l = record {
  read : are_decimals (drop l.digit-index l.digits) l.left ≡ are_decimals l.digits l.rest;
  small : l.left < 64;
}
