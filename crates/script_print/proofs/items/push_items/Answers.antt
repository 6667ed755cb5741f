use Rattle.std.proofs.Common.{◌++◌, ap, ◌∙◌, arith}
use Rattle.script_syntax.specs.Seen.{item_of}
use Rattle.script_text.specs.NumberedLines.{item_lines}
use Rattle.script_text.specs.ScriptText.{lines_text}
use Rattle.script_print.specs.LastNumber.{last_number}
use Rattle.script_print.proofs.Blocks.{lines_on, lines_end, items_are}
use Rattle.script_print.proofs.items.push_items.Goals as goal

pub loop-item-preserved : goal.loop-item-preserved
loop-item-preserved c =
    lines_on (λ item. item_lines (item_of item)) c.args.items.now c.loop-item.item-index _ _ _ _ _ _ (omega arith) c.loop-item.invariant
    (c.in_ok-last.ensures.text ∙ ap (λ item. c.loop-item.into.items ++ lines_text c.loop-item.last (item_lines (item_of item))) c.item-item.is)
    (c.in_ok-last.ensures.last ∙ ap (λ item. last_number c.loop-item.last (item_lines (item_of item))) c.item-item.is)

pub returns : goal.returns
returns c =
    lines_end (λ item. item_lines (item_of item)) c.args.items.now c.loop-item.item-index _ _ _ (omega arith) c.loop-item.invariant
    ∙ ap (λ l. c.args.into.now.items ++ lines_text 1 l) (items_are c.args.items.now)
