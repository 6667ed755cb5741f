use Rattle.std.proofs.Common.{◌∙◌, ap}
use Rattle.page_model.specs.Documents.{active_documents}
use Rattle.page_documents.specs.Seen.{seen_tree}
use Rattle.page_documents.specs.Held.{HeldDocuments}
use Rattle.page_documents.proofs.Inside.{active_listed}
use Rattle.page_documents.proofs.documents.Documents.active.Goals as goal

pub returns : goal.returns
returns g c =
    let held = c.as_slice.ensures.value ∙ ap (λ (it : HeldDocuments). it.held) c.self.view_is in
    c.into_documents.ensures ∙ c.in_ok-find_from.ensures
    ∙ active_listed (seen_tree (g.P.Owned.carried) c.args.tree.now c.as_slice.result.now) c.new-found.result c.new-found.ensures
    ∙ ap (λ documents. active_documents (seen_tree (g.P.Owned.carried) c.args.tree.now documents)) held
