-- A queue that is handed out is of what there is.
use Rattle.std.proofs.Common.{List, length, rules, sym, subst}
use Rattle.page_model.specs.World.{Entry}
use Rattle.intersection_observer.specs.Watchers.{HeldWatchers}
use Rattle.kept_findings.specs.Registered.{AreRegistered}
use Rattle.kept_findings.proofs.Settled.{registered_taken}
use Rattle.intersection_update.specs.Watching.{AreWritten, AreWatchers}
use Rattle.intersection_update.proofs.Watching.{kept_taken, queue_written}
use Rattle.page_state.specs.Views.{PageView}
use Rattle.page_laws.proofs.Changes.{queue-next}
use Rattle.page_state.proofs.Ready.{ready_by}
use Rattle.page_state.proofs.page.Page.take_records.Goals as goal

pub invariant_of-self : goal.invariant_of-self
invariant_of-self c =
    let elements = length c.self.inside.laid.elements.tree.elements in
    let watched : AreWatchers elements c.take_records.new.self.part.made =
    subst (λ (it : HeldWatchers). AreWatchers elements it.part.made) (sym c.take_records.ensures.emptied)
    (kept_taken elements c.args.watcher.0 c.self.inside.watchers.part c.self.invariant.watched) in
    let registered : AreRegistered c.take_records.new.self.part c.self.inside.scroll_margins.items c.self.inside.findings =
    subst (λ (it : HeldWatchers). AreRegistered it.part c.self.inside.scroll_margins.items c.self.inside.findings) (sym c.take_records.ensures.emptied)
    (registered_taken c.self.inside.watchers.part c.self.inside.scroll_margins.items c.args.watcher.0 c.self.inside.findings c.self.invariant.registered) in
    search rules

pub returns-clause-written : goal.returns-clause-written
returns-clause-written c =
    subst (λ (v : PageView). AreWritten (length v.world.tree.elements) c.take_records.result) c.self.view_is
    (subst (λ (entries : List Entry). AreWritten (length c.self.inside.laid.elements.tree.elements) entries) (sym c.take_records.ensures.taken)
    (queue_written (length c.self.inside.laid.elements.tree.elements) c.args.watcher.0 c.self.inside.watchers.part c.self.invariant.watched))

pub returns-clause-taken : goal.returns-clause-taken
returns-clause-taken c = search rules

pub returns-clause-ready : goal.returns-clause-ready
returns-clause-ready c = λ handlers. ready_by handlers c.args.self.now.world (returns-clause-taken c) (queue-next c.args.self.now.world c.args.watcher.0)
