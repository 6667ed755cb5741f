use Rattle.std.proofs.Common.{◌≡◌, ◌+◌, drop, map}
use Rattle.script_model.specs.Scripts.{command_count}
use Rattle.script_syntax.specs.Seen.{item_of}
use Rattle.run_replies.proofs.check.count_items.Given as goal

abbrev pub invariant-loop-item : goal.invariant-loop-item
invariant-loop-item l = l.count + command_count (map item_of (drop l.item-index l.items)) ≡ command_count (map item_of l.items)
