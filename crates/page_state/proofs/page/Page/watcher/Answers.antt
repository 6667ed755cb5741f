-- What is found is there.
use Rattle.std.proofs.Common.{◌<◌, IfOk, length, subst}
use Rattle.intersection_observer.specs.declared.root.WatcherId.{WatcherId}
use Rattle.page_state.specs.Views.{PageView}
use Rattle.page_state.specs.Worlds.{counts_in}
use Rattle.page_state.proofs.page.Page.watcher.Goals as goal

pub returns-clause-there : goal.returns-clause-there
returns-clause-there c =
    subst (λ (v : PageView). IfOk c.watcher.result (λ (watcher : WatcherId). watcher.0 < length v.world.intersection_observers.made)) c.self.view_is
    (c.watcher.ensures.held (counts_in c.self.inside) c.self.invariant.known.there)
