use Rattle.std.proofs.Common.{ap, sym, ◌∙◌, arith, flat_map}
use Rattle.std.proofs.lemmas.List.Folds.{flat_map-map}
use Rattle.script_syntax.specs.declared.commands.Item.{Item}
use Rattle.script_syntax.specs.Seen.{item_of}
use Rattle.loop_lint.specs.Marks.{marked, named_in_item}
use Rattle.loop_lint.proofs.Marking.{marked_on, marked_all}
use Rattle.loop_lint.proofs.marks.mark_items.Goals as goal

pub loop-item-preserved : goal.loop-item-preserved
loop-item-preserved c =
    marked_on c.args.script.now.items (λ (item : Item). named_in_item (item_of item)) c.items-items.result.now c.args.marks.now
    c.loop-item.item-index _ c.loop-item.marks _ (omega arith) c.loop-item.invariant
    (c.mark_item.ensures ∙ ap (λ (item : Item). marked c.args.script.now.items c.loop-item.marks (named_in_item (item_of item))) c.item-item.is)

pub returns : goal.returns
returns c =
    marked_all c.args.script.now.items (λ (item : Item). named_in_item (item_of item)) c.items-items.result.now c.args.marks.now
    c.loop-item.item-index c.loop-item.marks (omega arith) c.loop-item.invariant
    ∙ ap (marked c.args.script.now.items c.args.marks.now)
    (sym (flat_map-map named_in_item item_of c.items-items.result.now) ∙ ap (flat_map named_in_item) c.items-items.ensures.value)
