-- How documents and their frames belong together (HTML, 7.3: content navigables; DOM, 4.4 and 4.5: node documents).
use Rattle.std.specs.Prelude.{◌≡◌, ℕ, ◌<◌, ◌≤◌, true, length, Some, None}
use Rattle.layout_model.specs.Nodes.{IsShallow}
use Rattle.page_model.specs.World.{Tree}
use Rattle.page_model.specs.Lookups.{element_at, document_at, is_listed}
use Rattle.page_model.specs.Documents.{first_of_list, frame_levels, is_active, is_number, nodes_of, stands_in_active}
use Rattle.page_documents.specs.Paths.{path_to}

-- the elements form trees: each is a child of its parent and of nothing else, and no tree has more levels than the definitions
-- look at
pub record MakeTrees (tree : Tree) : Type 0 where
  pub children : (parent n : ℕ) → is_listed n (element_at tree parent).children ≡ is_number (element_at tree n).parent parent
  pub shallow : IsShallow (nodes_of tree)

-- a root element has no parent and belongs to one document
pub record IsRootOf (tree : Tree) (document n : ℕ) : Type 0 where
  pub known : n < length tree.elements
  pub top : (element_at tree n).parent ≡ None
  pub owner : (element_at tree n).document ≡ document

-- a frame's document has that frame, and a document's frame has that document; root elements are root elements of their own
-- document; and an element belongs to the document of its parent, so that all of a document's tree belongs to it
pub record HaveOwners (tree : Tree) : Type 0 where
  pub framed : (n document : ℕ) → (element_at tree n).framed ≡ Some document → (document_at tree document).frame ≡ Some n
  pub frames : (document n : ℕ) → (document_at tree document).frame ≡ Some n → (element_at tree n).framed ≡ Some document
  pub roots : (document n : ℕ) → (document_at tree document).root ≡ Some n → IsRootOf tree document n
  pub owned : (n parent : ℕ) → (element_at tree n).parent ≡ Some parent → (element_at tree n).document ≡ (element_at tree parent).document

-- the top document is Active and in no frame
pub record IsTopmost (tree : Tree) : Type 0 where
  pub active : is_active tree 0 ≡ true
  pub unframed : (document_at tree 0).frame ≡ None

-- besides, the frame of each Active document but the top one is in the tree of an Active document, and from each of them the way
-- from frame to frame leads up to the top one. So no Active document is in a frame that is in no document's tree, and documents
-- in frames of one another aren't Active. There are no more documents than frames are followed in a row
pub record AreFramed (tree : Tree) : Type 0 where
  pub trees : MakeTrees tree
  pub owners : HaveOwners tree
  pub top : IsTopmost tree
  pub few : length tree.documents ≤ frame_levels
  pub shown : (document n : ℕ) → is_active tree document ≡ true → (document_at tree document).frame ≡ Some n → stands_in_active tree n ≡ true
  pub leads : (document : ℕ) → is_active tree document ≡ true → first_of_list (path_to tree document) ≡ Some 0
