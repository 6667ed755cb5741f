use Rattle.std.proofs.Common.{arith}
use Rattle.script_print.proofs.Blocks.{feeds_on, feeds_end}
use Rattle.script_print.proofs.lines.push_line_feeds.Goals as goal

pub loop-preserved : goal.loop-preserved
loop-preserved c = feeds_on _ _ _ c.loop.counter c.args.to (omega arith) c.loop.invariant c.in_ok-push.ensures.items

pub returns : goal.returns
returns c = feeds_end _ _ c.loop.counter c.args.to (omega arith) c.loop.invariant
