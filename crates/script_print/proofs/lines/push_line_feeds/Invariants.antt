use Rattle.std.proofs.Common.{◌≡◌, ◌-◌, ◌++◌}
use Rattle.std.specs.Prelude.{replicate}
use Rattle.script_print.proofs.lines.push_line_feeds.Given as goal

abbrev pub invariant-loop : goal.invariant-loop
invariant-loop l = l.into.items ++ replicate (l.to - l.counter) 10 ≡ l.fn.into.items ++ replicate (l.to - l.from) 10
