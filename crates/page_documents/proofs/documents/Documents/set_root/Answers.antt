use Rattle.std.proofs.Common.{◌∙◌, ap, sym, subst, ◌<◌, length, option_map, List}
use Rattle.element_tree.specs.Links.{number}
use Rattle.page_model.specs.World.{Document}
use Rattle.page_documents.specs.Held.{HeldDocuments, changing}
use Rattle.page_documents.proofs.Changing.{changed_there}
use Rattle.page_documents.proofs.documents.Documents.set_root.Goals as goal

pub returns : goal.returns
returns c =
    let inside : c.args.document.0 < length c.self.inside.held.items = subst (λ (it : HeldDocuments). c.args.document.0 < length it.held) (sym c.self.view_is)
    c.requires in
    ap (λ (held : List Document). let it : HeldDocuments = record { held = held; most = c.self.inside.most } in it)
    (changed_there (λ (it : Document). record it { root = option_map number c.args.root }) c.self.inside.held.items c.args.document.0 c.index_mut.result.now
    c.set_root.new.self inside c.index_mut.ensures.value c.set_root.ensures)
    ∙ ap (λ (it : HeldDocuments). changing (λ (it : Document). record it { root = option_map number c.args.root }) c.args.document.0 it) c.self.view_is
