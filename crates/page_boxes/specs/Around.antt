-- A document and the documents around it: which boxes a reading depends on, and what it leaves as it is.
use Rattle.std.specs.Prelude.{◌≡◌, ℕ, Bool, false, List, Option, Some, None, option_map}
use Rattle.page_model.specs.World.{Tree, Container, InElement, InDocument}
use Rattle.page_model.specs.Lookups.{element_at, document_at, is_listed}
use Rattle.page_model.specs.Documents.{frame_levels}
use Rattle.page_documents.specs.Paths.{way_down}
use Rattle.kept_layout.specs.declared.slots.Slot.{Slot}
use Rattle.kept_layout.specs.Slots.{slot_in}

-- whether a document is this one or one around it: the document of its frame, the one around that, and so on up to the top one (HTML,
-- 7.3: content navigables)
abbrev pub is_around : Tree → (document other : ℕ) → Bool
is_around tree document other = is_listed other (way_down frame_levels tree document)

-- the document on whose boxes, with those of the documents around it, a reading of an element or of the size of a document's
-- viewport depends: for an element its own document, for a viewport the document of its frame, and none for the top document's
-- viewport
abbrev pub rests_on : Tree → Container → Option ℕ
rests_on tree (InElement n) = Some (element_at tree n).document
rests_on tree (InDocument document) = option_map (λ frame. (element_at tree frame).document) (document_at tree document).frame

-- what is kept changes in a document and in those around it only; if no document is given, it doesn't change at all
abbrev pub LeavesOthers : Tree → Option ℕ → List Slot → List Slot → Type 0
LeavesOthers tree None old new = (n : ℕ) → slot_in new n ≡ slot_in old n
LeavesOthers tree (Some document) old new = (n : ℕ) → is_around tree document (element_at tree n).document ≡ false → slot_in new n ≡ slot_in old n
