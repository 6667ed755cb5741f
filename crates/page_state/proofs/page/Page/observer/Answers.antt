-- What is found is there.
use Rattle.std.proofs.Common.{◌<◌, IfOk, length, subst}
use Rattle.resize_observer.specs.declared.observation.ObserverId.{ObserverId}
use Rattle.page_state.specs.Views.{PageView}
use Rattle.page_state.specs.Worlds.{counts_in}
use Rattle.page_state.proofs.page.Page.observer.Goals as goal

pub returns-clause-there : goal.returns-clause-there
returns-clause-there c =
    subst (λ (v : PageView). IfOk c.observer.result (λ (observer : ObserverId). observer.0 < length v.world.resize_observers.made)) c.self.view_is
    (c.observer.ensures.held (counts_in c.self.inside) c.self.invariant.known.there)
