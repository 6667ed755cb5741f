-- By the first line that an `ro` with this name stands on.
use Rattle.std.proofs.Common.{◌≡◌, true, ap, sym, ◌∙◌, arith, slice_get, is_some, is_none}
use Rattle.script_syntax.specs.declared.commands.Item.{Item}
use Rattle.script_syntax.specs.Seen.{item_of}
use Rattle.loop_lint.specs.LoopHandlers.{item_lines, names_handler}
use Rattle.loop_lint.proofs.Searching.{searched-on, searched-found, searched-all, not-found, some-named, unnamed-lines}
use Rattle.loop_lint.proofs.check.is_unnamed.Goals as goal

pub returns-then-is_some : goal.returns-then-is_some
returns-then-is_some c =
    let found = c.first_in_item.ensures ∙ ap (λ (item : Item). slice_get (item_lines (names_handler c.args.name) (item_of item)) 0) c.item-item.is in
    let some : is_some c.first_in_item.result ≡ true = cc in
    some-named c.first_in_item.result _
    (searched-found (λ item. item_lines (names_handler c.args.name) (item_of item)) c.args.items.now c.loop-item.item-index _ _ (omega arith)
    c.loop-item.invariant found some) some
    ∙ unnamed-lines c.args.name c.args.items.now

pub loop-item-preserved : goal.loop-item-preserved
loop-item-preserved c =
    let found = c.first_in_item.ensures ∙ ap (λ (item : Item). slice_get (item_lines (names_handler c.args.name) (item_of item)) 0) c.item-item.is in
    searched-on (λ item. item_lines (names_handler c.args.name) (item_of item)) c.args.items.now c.loop-item.item-index _ (omega arith)
    c.loop-item.invariant (sym found ∙ not-found c.first_in_item.result cc)

pub returns : goal.returns
returns c =
    ap is_none
    (searched-all (λ item. item_lines (names_handler c.args.name) (item_of item)) c.args.items.now c.loop-item.item-index (omega arith) c.loop-item.invariant)
    ∙ unnamed-lines c.args.name c.args.items.now
