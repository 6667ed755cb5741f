use Rattle.std.proofs.Common.{◌-◌, ◌++◌, ◌∷◌, [], Option, option_map, ap, sym, ◌∙◌, arith}
use Rattle.std.proofs.lemmas.List.{map_push}
use Rattle.smallvec.specs.SmallVec.{SmallVec}
use Rattle.element_tree.specs.declared.document.DocumentId.{DocumentId}
use Rattle.element_tree.specs.Documents.{document_number, document_numbers}
use Rattle.page_documents.specs.Seen.{seen_tree}
use Rattle.page_documents.proofs.Climbing.{way_ends, way_begins, way_goes_on}
use Rattle.page_documents.proofs.documents.Documents.+climb.Goals.{in-Some, in_default}
use Rattle.page_documents.proofs.documents.Documents.+climb.Goals as goal

pub returns-then-high-eq0-clause-path : goal.returns-then-high-eq0-clause-path
returns-then-high-eq0-clause-path g t c = way_ends (seen_tree (g.P.Owned.carried) c.args.tree.now c.args.self.now.held) c.args.high c.args.document.0
    (document_numbers c.args.path.now.items) c.if-high-eq0.true

pub returns-clause-path : goal.returns-clause-path
returns-clause-path g t c = elim c.match-holder_of.branch [
  | in-Some w ↦
      ap document_numbers c.push_reserved.ensures.items ∙ ap (λ (path : SmallVec DocumentId). document_numbers (path.items ++ c.args.document ∷ [])) w.path-is
      ∙ map_push document_number w.climb.new.path.items c.args.document ∙
      way_goes_on (seen_tree (g.P.Owned.carried) c.args.tree.now c.args.self.now.held) c.args.high c.args.document.0 (document_numbers c.args.path.now.items) (c.args.high - 1)
      (w.in-Some.holder.0) (document_numbers w.climb.new.path.items) (omega arith)
      (sym c.holder_of.ensures ∙ ap (λ (o : Option DocumentId). option_map document_number o) w.in-Some.is) w.climb.ensures.path
  | in_default w ↦
      ap document_numbers c.push_reserved.ensures.items ∙ ap (λ (path : SmallVec DocumentId). document_numbers (path.items ++ c.args.document ∷ [])) w.path-is
      ∙ map_push document_number c.args.path.now.items c.args.document ∙
      way_begins (seen_tree (g.P.Owned.carried) c.args.tree.now c.args.self.now.held) c.args.high c.args.document.0 (document_numbers c.args.path.now.items) (c.args.high - 1)
      (omega arith)
      (sym c.holder_of.ensures ∙ ap (λ (o : Option DocumentId). option_map document_number o) w.in_default.is)
]
