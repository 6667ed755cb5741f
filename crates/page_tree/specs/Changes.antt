-- At which elements a change of the page's tree may change what is laid out.
use Rattle.std.specs.Prelude.{◌==◌, ◌||◌, ℕ, Bool, false, length}
use Rattle.element_tree.specs.Forest.{names}
use Rattle.kept_layout.specs.Changes.{ChangesOnly}
use Rattle.page_model.specs.World.{Tree, Container, InElement, InDocument}
use Rattle.page_model.specs.Documents.{nodes_of}

-- whether an element is the parent of another one
abbrev pub is_parent : Tree → ℕ → ℕ → Bool
is_parent tree n m = names (nodes_of tree n).parent m

abbrev pub is_container : Container → ℕ → Bool
is_container (InElement parent) m = m == parent
is_container (InDocument document) m = false

-- only the element that is made next differs
abbrev pub ChangesAtNext : Tree → Tree → Type 0
ChangesAtNext old new = ChangesOnly (λ m. m == length old.elements) (nodes_of old) (nodes_of new)

-- only the parent that an element leaves and the one that it comes to differ
abbrev pub ChangesAtParents : Container → ℕ → Tree → Tree → Type 0
ChangesAtParents container n old new = ChangesOnly (λ m. is_parent old n m || is_container container m) (nodes_of old) (nodes_of new)

-- only the parent that an element leaves differs
abbrev pub ChangesAtParent : ℕ → Tree → Tree → Type 0
ChangesAtParent n old new = ChangesOnly (is_parent old n) (nodes_of old) (nodes_of new)

-- only an element and its parent differ
abbrev pub ChangesAtElement : ℕ → Tree → Tree → Type 0
ChangesAtElement n old new = ChangesOnly (λ m. m == n || is_parent old n m) (nodes_of old) (nodes_of new)
