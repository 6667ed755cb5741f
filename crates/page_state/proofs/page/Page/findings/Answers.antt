-- What is kept of registrations is what is found of them now.
use Rattle.std.proofs.Common.{ap, ◌∙◌, subst}
use Rattle.page_model.specs.Shown.{shown_of}
use Rattle.kept_findings.specs.Registered.{AreRegistered}
use Rattle.page_geometry.specs.Scenes.{IsPageTree}
use Rattle.page_geometry.proofs.Scenes.{chained_of}
use Rattle.page_state.specs.Views.{PageView}
use Rattle.page_state.proofs.Exact.{found_now}
use Rattle.page_state.proofs.page.Page.findings.Goals as goal

pub returns-clause-chains : goal.returns-clause-chains
returns-clause-chains c =
    chained_of (shown_of c.args.self.now.world)
    (subst IsPageTree (c.page-page.ensures.tree ∙ ap (λ (v : PageView). v.world.tree) c.self.view_is)
    (record { framed = c.document_count.ensures.framed; few = c.document_count.ensures.bound; deep = c.holds.ensures.deep }))

pub returns-clause-exact : goal.returns-clause-exact
returns-clause-exact c = λ chained serial fresh.
    found_now (shown_of c.args.self.now.world)
    (subst IsPageTree (c.page-page.ensures.tree ∙ ap (λ (v : PageView). v.world.tree) c.self.view_is)
    (record { framed = c.document_count.ensures.framed; few = c.document_count.ensures.bound; deep = c.holds.ensures.deep }))
    c.args.self.now.world.scroll_margins chained c.args.self.now.world.intersection_observers serial c.args.self.now.found
    (subst (λ (v : PageView). AreRegistered v.world.intersection_observers v.world.scroll_margins v.found) c.self.view_is c.self.invariant.registered) fresh
