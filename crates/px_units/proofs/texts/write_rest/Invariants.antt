use Rattle.std.proofs.Common.{◌≡◌, ◌-◌, ◌<◌, ◌++◌, take}
use Rattle.px_units.specs.Texts.{rest_text}
use Rattle.px_units.proofs.Decimals.{divided}
use Rattle.px_units.proofs.texts.write_rest.Given as goal

abbrev pub invariant-loop-place : goal.invariant-loop-place
invariant-loop-place l = record {
  written : take l.place l.buffer ++ divided (7 - l.place) l.left ≡ rest_text l.rest;
  small : l.left < 64;
}
