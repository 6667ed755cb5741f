-- What is found is there.
use Rattle.std.proofs.Common.{◌<◌, IfOk, length, sym, subst}
use Rattle.element_tree.specs.declared.node.NodeId.{NodeId}
use Rattle.page_names.specs.Things.{IsSubject}
use Rattle.page_state.specs.Views.{PageView}
use Rattle.page_state.specs.Worlds.{counts_in}
use Rattle.page_state.proofs.page.Page.element.Goals as goal

pub returns-clause-there : goal.returns-clause-there
returns-clause-there c =
    subst (λ (v : PageView). IfOk c.element.result (λ (node : NodeId). node.0 < length v.world.tree.elements)) c.self.view_is
    (c.element.ensures.held (counts_in c.self.inside) c.self.invariant.known.there
    (subst (λ (v : PageView). IsSubject (length v.world.tree.elements) c.args.subject) (sym c.self.view_is) c.requires))
