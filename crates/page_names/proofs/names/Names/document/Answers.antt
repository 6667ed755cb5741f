-- A thing that is named, as a document.
use Rattle.element_tree.specs.Documents.{document_number}
use Rattle.page_model.specs.Operands.{thing_named, as_document}
use Rattle.page_names.proofs.Finding.{finds_then, finds_none}
use Rattle.page_names.proofs.names.Names.document.Goals as goal

pub returns-in-Ok-clause-answer : goal.returns-in-Ok-clause-answer
returns-in-Ok-clause-answer c = finds_then document_number as_document (thing_named c.args.self.now.list c.args.name) _ _ c.in-Ok.ensures.answer c.as_document.ensures.answer

pub returns-in-Ok-clause-held : goal.returns-in-Ok-clause-held
returns-in-Ok-clause-held c = λ counts all. c.as_document.ensures.held counts (c.in-Ok.ensures.held counts all)

pub returns-in-Err-clause-answer : goal.returns-in-Err-clause-answer
returns-in-Err-clause-answer c = finds_none document_number as_document (thing_named c.args.self.now.list c.args.name) _ c.in-Err.ensures.answer
