-- By the first line of all that stand in loop handlers.
use Rattle.std.proofs.Common.{◌≡◌, true, ap, sym, ◌∙◌, arith, slice_get, is_some}
use Rattle.script_syntax.specs.declared.commands.Item.{Item}
use Rattle.script_syntax.specs.Seen.{item_of}
use Rattle.loop_lint.specs.Seen.{forbidden_by}
use Rattle.loop_lint.specs.Searches.{lines_at}
use Rattle.loop_lint.proofs.Searching.{searched-on, searched-found, searched-all, not-found, whole-lines, none-means}
use Rattle.loop_lint.proofs.Promised.{promised}
use Rattle.loop_lint.proofs.check.blame.Goals as goal

pub returns-then-is_some-clause-line : goal.returns-then-is_some-clause-line
returns-then-is_some-clause-line c =
    let found = c.blame_at-found.ensures
    ∙ ap (λ (item : Item). slice_get (lines_at (forbidden_by c.args.law) c.args.script.now.items (item_of item)) 0) c.item-item.is in
    let some : is_some c.blame_at-found.result ≡ true = cc in
    searched-found (λ item. lines_at (forbidden_by c.args.law) c.args.script.now.items (item_of item)) c.items-items.result.now
    c.loop-item.item-index _ _ (omega arith) c.loop-item.invariant found some
    ∙ ap (λ lines. slice_get lines 0) (whole-lines (forbidden_by c.args.law) c.items-items.result.now c.args.script.now.items c.items-items.ensures.value)

pub returns-then-is_some-clause-none : goal.returns-then-is_some-clause-none
returns-then-is_some-clause-none c = none-means c.blame_at-found.result _ (returns-then-is_some-clause-line c)

pub returns-then-is_some-clause-promise : goal.returns-then-is_some-clause-promise
returns-then-is_some-clause-promise c = promised c.args.law c.args.script.now.items c.blame_at-found.result (returns-then-is_some-clause-line c)

pub loop-item-preserved : goal.loop-item-preserved
loop-item-preserved c =
    let found = c.blame_at-found.ensures
    ∙ ap (λ (item : Item). slice_get (lines_at (forbidden_by c.args.law) c.args.script.now.items (item_of item)) 0) c.item-item.is in
    searched-on (λ item. lines_at (forbidden_by c.args.law) c.args.script.now.items (item_of item)) c.items-items.result.now
    c.loop-item.item-index _ (omega arith) c.loop-item.invariant (sym found ∙ not-found c.blame_at-found.result cc)

pub returns-clause-line : goal.returns-clause-line
returns-clause-line c =
    searched-all (λ item. lines_at (forbidden_by c.args.law) c.args.script.now.items (item_of item)) c.items-items.result.now
    c.loop-item.item-index (omega arith) c.loop-item.invariant
    ∙ ap (λ lines. slice_get lines 0) (whole-lines (forbidden_by c.args.law) c.items-items.result.now c.args.script.now.items c.items-items.ensures.value)

pub returns-clause-none : goal.returns-clause-none
returns-clause-none c = none-means _ _ (returns-clause-line c)

pub returns-clause-promise : goal.returns-clause-promise
returns-clause-promise c = promised c.args.law c.args.script.now.items _ (returns-clause-line c)
