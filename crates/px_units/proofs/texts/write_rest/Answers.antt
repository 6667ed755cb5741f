use Rattle.std.proofs.Common.{◌-◌, arith}
use Rattle.px_units.proofs.Decimals.{begun, ended, digit_written, filled}
use Rattle.px_units.proofs.texts.write_rest.Goals as goal

pub loop-place-init : goal.loop-place-init
loop-place-init c = record { written = begun _ _ (omega arith) c.requires.some c.requires.small; small = c.requires.small }

pub returns-then-left-eq0-clause-text : goal.returns-then-left-eq0-clause-text
returns-then-left-eq0-clause-text c = ended _ _ _ _ (omega arith) c.loop-place.invariant.written

pub loop-place-preserved : goal.loop-place-preserved
loop-place-preserved c = record {
  written = digit_written _ _ _ (6 - c.loop-place.place) _ (omega arith) (omega arith) (omega arith) (omega arith) c.loop-place.invariant.written;
  small = omega arith;
}

pub returns-clause-text : goal.returns-clause-text
returns-clause-text c = filled _ c.loop-place.place c.loop-place.left _ (omega arith) (omega arith) c.loop-place.invariant.written
