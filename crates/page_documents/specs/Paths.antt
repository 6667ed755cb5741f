-- The way from a document up to the top one, each step from a document to the one that holds its frame.
use Rattle.std.specs.Prelude.{ℕ, zero, suc, List, [], ◌∷◌, ◌++◌, length, Option, Some, None, option_map, slice_get}
use Rattle.page_model.specs.World.{Element, Tree}
use Rattle.page_model.specs.Lookups.{document_at}

abbrev pub owner_of : Tree → Option ℕ → Option ℕ
owner_of tree None = None
owner_of tree (Some frame) = option_map (λ (element : Element). element.document) (slice_get tree.elements frame)

-- the document that holds the frame of a document
abbrev pub holder_of : Tree → ℕ → Option ℕ
holder_of tree document = owner_of tree (document_at tree document).frame

abbrev pub way_above : (ℕ → List ℕ) → Option ℕ → List ℕ
way_above path None = []
way_above path (Some holder) = path holder

-- the last documents of the way down to a document, at most so many
unfoldable pub way_down : ℕ → Tree → ℕ → List ℕ
way_down zero tree document = []
way_down (suc high) tree document = way_above (way_down high tree) (holder_of tree document) ++ document ∷ []

-- the documents from the top one to this one, each the one that holds the frame of the next. No document is on this path twice,
-- so that it is no longer than the list of documents
unfoldable pub path_to : Tree → ℕ → List ℕ
unfolding way_down
path_to tree document = way_down (length tree.documents) tree document
