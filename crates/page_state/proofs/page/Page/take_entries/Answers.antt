-- A queue that is taken by a command.
use Rattle.std.proofs.Common.{length, rules, sym, subst}
use Rattle.intersection_observer.specs.Watchers.{HeldWatchers}
use Rattle.kept_findings.specs.Registered.{AreRegistered}
use Rattle.kept_findings.proofs.Settled.{registered_taken}
use Rattle.intersection_update.specs.Watching.{AreWatchers}
use Rattle.intersection_update.proofs.Watching.{kept_taken}
use Rattle.page_state.proofs.Doing.{taken_so}
use Rattle.page_state.proofs.page.Page.take_entries.Goals as goal

pub invariant_of-self : goal.invariant_of-self
invariant_of-self c =
    let elements = length c.self.inside.laid.elements.tree.elements in
    let watched : AreWatchers elements c.take_records.new.self.part.made =
    subst (λ (it : HeldWatchers). AreWatchers elements it.part.made) (sym c.take_records.ensures.emptied)
    (kept_taken elements c.in_ok-watcher.watcher.0 c.self.inside.watchers.part c.self.invariant.watched) in
    let registered : AreRegistered c.take_records.new.self.part c.self.inside.scroll_margins.items c.self.inside.findings =
    subst (λ (it : HeldWatchers). AreRegistered it.part c.self.inside.scroll_margins.items c.self.inside.findings) (sym c.take_records.ensures.emptied)
    (registered_taken c.self.inside.watchers.part c.self.inside.scroll_margins.items c.in_ok-watcher.watcher.0 c.self.inside.findings c.self.invariant.registered) in
    search rules

pub returns-clause-done : goal.returns-clause-done
returns-clause-done c present =
    taken_so c.self.inside c.args.self.now c.self.view_is c.self.invariant present c.args.observer c.in_ok-watcher.watcher c.take_records.result c.take_records.new.self
    c.in_ok-watcher.ensures.answer c.in_ok-watcher.ensures.there c.take_records.ensures.taken c.take_records.ensures.emptied c.take_records.ensures.count
