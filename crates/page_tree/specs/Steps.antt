-- The elements and documents that elements are put into.
use Rattle.std.specs.Prelude.{ℕ, ◌<◌, length}
use Rattle.element_tree.specs.declared.container.Container.{Container}
use Rattle.element_tree.specs.declared.container.Container.TheVariants.{Element, Document}
use Rattle.page_tree.specs.Views.{PageElements}

-- an element or a document that exists in the page
abbrev pub IsContainerIn : PageElements → Container → Type 0
IsContainerIn page (Element node) = node.0 < length page.tree.elements
IsContainerIn page (Document document) = document.0 < length page.tree.documents

-- a document is one of the first `count`; of an element nothing is said
abbrev pub IsBelow : ℕ → Container → Type 0
IsBelow count (Element node) = Unit {0}
IsBelow count (Document document) = document.0 < count
