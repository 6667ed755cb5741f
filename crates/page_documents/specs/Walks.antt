-- Walks over the frames of a tree, level by level.
use Rattle.std.specs.Prelude.{ℕ, Bool, false, cond, List, [], ◌∷◌, filter_map, replicate, Option, Some, None, option_map, slice_get}
use Rattle.page_model.specs.World.{Element, Tree}
use Rattle.page_model.specs.Lookups.{element_at, document_at}
use Rattle.page_model.specs.Documents.{order_down}

abbrev pub held_in : Tree → Option ℕ → Option ℕ
held_in tree None = None
held_in tree (Some n) = option_map (λ (element : Element). n) (slice_get tree.elements n)

-- the root element of a document, if there is one among the elements
abbrev pub root_held : Tree → ℕ → Option ℕ
root_held tree document = held_in tree (document_at tree document).root

-- the documents of the frames among an element and its descendants, down to so many levels
unfoldable pub frames_down : ℕ → Tree → ℕ → List ℕ
frames_down high tree n = filter_map (λ each. (element_at tree each).framed) (order_down high tree n)

-- the result of taking these in turn
abbrev pub taken : {S : Type 0} → (ℕ → S → S) → List ℕ → S → S
taken with [] found = found
taken with (document ∷ documents) found = taken with documents (with document found)

-- no document is marked
abbrev pub no_marks : List Bool
no_marks = replicate 64 false

-- a list with the entries at marked places changed
abbrev pub marked_in : {A : Type 0} → (A → A) → List Bool → List A → List A
marked_in change [] xs = xs
marked_in change (mark ∷ marks) [] = []
marked_in change (mark ∷ marks) (x ∷ xs) = cond mark (change x) x ∷ marked_in change marks xs
