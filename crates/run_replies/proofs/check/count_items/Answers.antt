use Rattle.std.proofs.Common.{arith}
use Rattle.run_replies.proofs.CommandCounts.{items_more, items_none}
use Rattle.run_replies.proofs.check.count_items.Goals as goal

pub count_item-count-requires : goal.count_item-count-requires
count_item-count-requires c =
    let more = items_more c.args.items.now c.loop-item.item-index _ (omega arith) c.item-item.is in
    omega (arith, c.loop-item.invariant)

pub overflow_add-count : goal.overflow_add-count
overflow_add-count c =
    let more = items_more c.args.items.now c.loop-item.item-index _ (omega arith) c.item-item.is in
    omega (arith, c.loop-item.invariant)

pub loop-item-preserved : goal.loop-item-preserved
loop-item-preserved c =
    let more = items_more c.args.items.now c.loop-item.item-index _ (omega arith) c.item-item.is in
    omega (arith, c.loop-item.invariant)

pub returns : goal.returns
returns c =
    let none = items_none c.args.items.now c.loop-item.item-index (omega arith) in
    omega (arith, c.loop-item.invariant)
