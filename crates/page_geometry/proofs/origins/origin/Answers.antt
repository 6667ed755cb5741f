use Rattle.std.proofs.Common.{◌≤◌, sym, subst, ◌∙◌}
use Rattle.page_geometry.proofs.Beginnings.{origin_is}
use Rattle.page_geometry.proofs.Moves.{origin_wider}
use Rattle.page_geometry.proofs.origins.origin.Goals as goal

pub returns-in-None-clause-value : goal.returns-in-None-clause-value
returns-in-None-clause-value c =
    c.origin_up.ensures.value
    ∙ origin_is c.args.shown.now c.document_count.ensures.page.framed c.document_count.result c.args.document.0 c.document_count.ensures.value

pub returns-in-None-clause-range : goal.returns-in-None-clause-range
returns-in-None-clause-range c =
    origin_wider c.document_count.result 64 c.origin_up.result (subst (λ n. n ≤ 64) (sym c.document_count.ensures.value) c.document_count.ensures.page.few)
    c.origin_up.ensures.range
