-- The order in which elements are painted: tree order, with the root element of a document as a child of its frame, so that a
-- document is painted over its frame, and a later element over an earlier one (CSS 2.2, appendix E; that neither a position nor
-- anything else raises an element is this project's own).
use Rattle.std.specs.Prelude.{ℕ, zero, suc, cond, List, [], ◌∷◌, ◌++◌, flat_map, Option, Some, None, option_to_list}
use Rattle.page_model.specs.World.{Tree}
use Rattle.page_model.specs.Lookups.{element_at, document_at}
use Rattle.page_model.specs.Documents.{is_active}
use Rattle.page_model.specs.Chains.{most_containers}

-- the root element of a document, none if it has none or isn't Active
abbrev pub painted_root : Tree → ℕ → List ℕ
painted_root tree document = cond (is_active tree document) (option_to_list (document_at tree document).root) []

-- what a frame holds
abbrev pub painted_inside : Tree → Option ℕ → List ℕ
painted_inside tree None = []
painted_inside tree (Some document) = painted_root tree document

abbrev pub painted_children : Tree → ℕ → List ℕ
painted_children tree n = (element_at tree n).children ++ painted_inside tree (element_at tree n).framed

-- an element and what is below it, down to so many levels
unfoldable pub painted_down : ℕ → Tree → ℕ → List ℕ
painted_down zero tree n = []
painted_down (suc deep) tree n = n ∷ flat_map (painted_down deep tree) (painted_children tree n)

-- all elements in the trees of documents that are shown, from the root element of the top document. No element is nested in more
-- containers than are descended here
unfoldable pub paint_order : Tree → List ℕ
unfolding painted_down
paint_order tree = flat_map (painted_down most_containers tree) (painted_root tree 0)
