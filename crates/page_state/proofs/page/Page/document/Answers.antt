-- What is found is there.
use Rattle.std.proofs.Common.{◌<◌, IfOk, length, subst}
use Rattle.page_state.specs.Views.{PageView}
use Rattle.page_state.specs.Worlds.{counts_in}
use Rattle.page_state.proofs.page.Page.document.Goals as goal

pub returns-clause-there : goal.returns-clause-there
returns-clause-there c =
    subst (λ (v : PageView). IfOk c.document.result (λ document. document.0 < length v.world.tree.documents)) c.self.view_is
    (c.document.ensures.held (counts_in c.self.inside) c.self.invariant.known.there)
