-- What is found is there.
use Rattle.std.proofs.Common.{IfOk, length, sym, subst}
use Rattle.page_state.specs.Labels.{IsIn}
use Rattle.page_names.specs.Things.{IsSubject}
use Rattle.page_state.specs.Views.{PageView}
use Rattle.page_state.specs.Worlds.{counts_in}
use Rattle.page_state.proofs.Inside.{container_in}
use Rattle.page_state.proofs.page.Page.container.Goals as goal

pub returns-clause-there : goal.returns-clause-there
returns-clause-there c =
    subst (λ (v : PageView). IfOk c.container.result (λ container. IsIn v.world container)) c.self.view_is
    (container_in c.self.inside c.container.result
    (c.container.ensures.held (counts_in c.self.inside) c.self.invariant.known.there
    (subst (λ (v : PageView). IsSubject (length v.world.tree.elements) c.args.subject) (sym c.self.view_is) c.requires)))
