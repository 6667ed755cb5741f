-- Where an element is inserted, and the tree between the two halves of a removal or an insertion: the elements' links are changed
-- already, and the documents aren't yet.
use Rattle.std.specs.Prelude.{◌≡◌, ℕ, ◌<◌, false, length, Option, Some, None}
use Rattle.page_model.specs.World.{Tree, Container, InElement, InDocument}
use Rattle.page_model.specs.Documents.{container_of, tree_document, unlinked, linked}
use Rattle.page_model.specs.Commands.{is_full}

-- this element or document exists
abbrev pub IsThere : Tree → Container → Type 0
IsThere tree (InElement parent) = parent < length tree.elements
IsThere tree (InDocument document) = document < length tree.documents

-- an element was taken out of the tree of a document
pub record IsTakenOut (before after : Tree) (n document : ℕ) : Type 0 where
  pub stood : tree_document before n ≡ Some document
  pub apart : after ≡ unlinked before n (container_of before n)

-- an element that had no container was put into another element, or into a document without a root element
pub record IsPutIn (before after : Tree) (container : Container) (n : ℕ) (sibling : Option ℕ) : Type 0 where
  pub nowhere : container_of before n ≡ None
  pub there : IsThere before container
  pub free : is_full before container ≡ false
  pub joined : after ≡ linked before container n sibling
