use Rattle.std.proofs.Common.{◌<◌, ◌∙◌, ap, sym, subst, length, arith, append-nil, true, false, All}
use Rattle.std.proofs.lemmas.List.Elements.{All-push}
use Rattle.intersection_observer.specs.declared.root.WatcherId.{WatcherId}
use Rattle.intersection_update.specs.Watching.{watcher_numbers}
use Rattle.intersection_update.proofs.Numbers.{next_number, pushed_number}
use Rattle.intersection_update.proofs.rooted.watchers_of.Goals as goal
use Rattle.intersection_update.proofs.rooted.watchers_of.Goals.{then-is_looked_at+in_ok-push, else-is_looked_at}

pub loop-number-preserved : goal.loop-number-preserved
loop-number-preserved c =
    let tree = c.args.page.now.tree in
    let it = c.args.watchers.now.part in
    let number = c.loop-number.number in
    let old = c.loop-number.found.items in
    let there : number < length it.made = omega (arith, c.loop-number.invariant.end, c.loop-number-test.true) in
    elim c.if-is_looked_at.branch [
      | then-is_looked_at+in_ok-push w ↦
          let items = ap (λ found. found.items) w.found-is ∙ w.in_ok-push.ensures.items in
          record {
            numbers = next_number tree c.args.document.0 number it true (watcher_numbers old) (watcher_numbers c.if-is_looked_at.found.items) there
                (sym w.if-is_looked_at.true ∙ c.is_looked_at.ensures)
                c.loop-number.invariant.numbers (ap watcher_numbers items ∙ pushed_number old (record { 0 = number }));
            made = subst (All (λ (watcher : WatcherId). watcher.0 < length it.made)) (sym items)
                (All-push (λ (watcher : WatcherId). watcher.0 < length it.made) old (record { 0 = number }) c.loop-number.invariant.made there);
            end = c.loop-number.invariant.end;
          }
      | else-is_looked_at w ↦
          let items = ap (λ found. found.items) w.found-is in
          record {
            numbers = next_number tree c.args.document.0 number it false (watcher_numbers old) (watcher_numbers c.if-is_looked_at.found.items) there
                (sym w.if-is_looked_at.false ∙ c.is_looked_at.ensures)
                c.loop-number.invariant.numbers (ap watcher_numbers items ∙ sym (append-nil (watcher_numbers old)));
            made = subst (All (λ (watcher : WatcherId). watcher.0 < length it.made)) (sym items) c.loop-number.invariant.made;
            end = c.loop-number.invariant.end;
          }
    ]
