use Rattle.std.proofs.Common.{◌≡◌, ◌++◌, drop}
use Rattle.script_syntax.specs.Seen.{item_of}
use Rattle.script_text.specs.NumberedLines.{item_lines}
use Rattle.script_text.specs.ScriptText.{lines_text}
use Rattle.script_print.proofs.Blocks.{lines_of}
use Rattle.script_print.proofs.items.push_items.Given as goal

abbrev pub invariant-loop-item : goal.invariant-loop-item
invariant-loop-item l =
    l.into.items ++ lines_text l.last (lines_of (λ item. item_lines (item_of item)) (drop l.item-index l.items))
    ≡ l.fn.into.items ++ lines_text 1 (lines_of (λ item. item_lines (item_of item)) l.items)
