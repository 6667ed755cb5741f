-- The documents of a page.
use Rattle.std.specs.Prelude.{◌≡◌, ℕ, ◌≤◌, Bool, cond, nat_lt, List, [], ◌∷◌, length, None, IsSome, All}
use Rattle.page_model.specs.World.{Document, Tree, Dead}
use Rattle.page_model.specs.Lookups.{change_at}
use Rattle.page_model.specs.Documents.{is_active_state, documents_inside, with_state, shown}

-- the documents in order of creation, and how many there may be
pub record HeldDocuments : Type 0 where
  pub held : List Document
  pub most : ℕ

-- `top` is first and in no frame, and each other document has its frame
abbrev pub HasFrames : List Document → Type 0
HasFrames [] = ⊥
HasFrames (top ∷ documents) = (top.frame ≡ None) × All (λ document. IsSome (document.frame)) documents

-- the invariants of the documents
pub record IsHeld (documents : List Document) (most : ℕ) : Type 0 where
  pub within : length documents ≤ most
  pub bounded : most ≤ 64
  pub frames : HasFrames documents

-- the same, with room for as many as there may be
pub record IsKept (documents : List Document) (most capacity : ℕ) : Type 0 where
  pub held : IsHeld documents most
  pub room : most ≤ capacity

-- whether one more document may be made
abbrev pub has_room : HeldDocuments → Bool
has_room it = nat_lt (length it.held) it.most

abbrev pub changing : (Document → Document) → ℕ → HeldDocuments → HeldDocuments
changing change document it = record it { held = change_at change document (it.held) }

-- removing: if the element is in the tree of an Active document, the Active documents in frames of its subtree become Dead, with
-- those inside them
abbrev pub ending : Bool → Tree → ℕ → HeldDocuments → HeldDocuments
ending is_active tree n it =
    record it { held = (with_state Dead (cond is_active (documents_inside is_active_state tree n) []) (record tree { documents = it.held })).documents }

-- inserting: the documents after those in frames of the subtree were shown
abbrev pub opening : Tree → ℕ → HeldDocuments → HeldDocuments
opening tree n it = record it { held = (shown tree n).documents }
