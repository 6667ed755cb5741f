use Rattle.std.proofs.Common.{◌≡◌, ◌++◌, take}
use Rattle.script_generator.specs.Filled.{filled}
use Rattle.script_generator.proofs.templates.push_filled.Given as goal

abbrev pub invariant-loop-byte : goal.invariant-loop-byte
invariant-loop-byte l = l.into.items ≡ l.fn.into.items ++ filled l.number (take l.byte-index l.template)
