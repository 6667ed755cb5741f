-- What the names of documents stand for: their numbers.
use Rattle.std.specs.Prelude.{ℕ, List, map}
use Rattle.element_tree.specs.declared.document.DocumentId.{DocumentId}

abbrev pub document_number : DocumentId → ℕ
document_number document = document.0

abbrev pub document_numbers : List DocumentId → List ℕ
document_numbers documents = map document_number documents
