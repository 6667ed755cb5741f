-- What is found is there.
use Rattle.std.proofs.Common.{◌<◌, ℕ, IfOk, length, sym, subst}
use Rattle.std.proofs.lemmas.List.{length-map}
use Rattle.page_state.specs.Queries.{seen_query_list}
use Rattle.page_state.specs.Views.{PageView}
use Rattle.page_state.specs.Worlds.{counts_in}
use Rattle.page_state.proofs.page.Page.query_list.Goals as goal

pub returns-clause-there : goal.returns-clause-there
returns-clause-there c =
    subst (λ (v : PageView). IfOk c.query_list.result (λ query. query < length v.world.queries)) c.self.view_is
    (subst (λ (count : ℕ). IfOk c.query_list.result (λ query. query < count)) (sym (length-map c.self.inside.queries.items seen_query_list))
    (c.query_list.ensures.held (counts_in c.self.inside) c.self.invariant.known.there))
