-- Which documents are laid out so far, and what stays as it is.
use Rattle.std.specs.Prelude.{◌≡◌, ℕ, Bool, true, false, List, Option, Some, None, length, option_map}
use Rattle.element_tree.specs.declared.node.NodeId.{NodeId}
use Rattle.element_tree.specs.Links.{number}
use Rattle.page_model.specs.World.{Screen, Tree}
use Rattle.page_model.specs.Lookups.{element_at, document_at, entry_or, is_listed}
use Rattle.page_model.specs.Documents.{is_active}
use Rattle.page_model.specs.PageBoxes.{view_of}
use Rattle.kept_layout.specs.declared.slots.Slot.{Slot}
use Rattle.kept_layout.specs.Slots.{slot_in}
use Rattle.page_boxes.specs.Fresh.{IsFreshIn}
use Rattle.page_boxes.specs.Kept.{is_due}

-- each box of a document is held as it is now, and none of its elements is due
pub record IsLaidOut (tree : Tree) (screen : Screen) (kept : List Slot) (document : ℕ) : Type 0 where
  pub fresh : IsFreshIn tree screen kept document
  pub done : (n : ℕ) → (element_at tree n).document ≡ document → is_due tree screen kept n ≡ false

-- which documents are marked, and the root element that each of them shows
pub record Laid : Type 0 where
  pub marks : List Bool
  pub roots : List (Option NodeId)

abbrev pub is_marked : List Bool → ℕ → Bool
is_marked marks document = entry_or false marks document

-- each document that is marked is laid out
abbrev pub AreLaidOut : Tree → Screen → List Bool → List Slot → Type 0
AreLaidOut tree screen marks kept = (document : ℕ) → is_marked marks document ≡ true → IsLaidOut tree screen kept document

-- the document that the frame of a document is in is marked, if it is Active
abbrev pub IsMarkedAbove : Tree → List Bool → ℕ → Type 0
IsMarkedAbove tree marks document =
    (frame : ℕ) → (document_at tree document).frame ≡ Some frame → is_active tree (element_at tree frame).document ≡ true
    → is_marked marks (element_at tree frame).document ≡ true

-- the root element that is noted for a document
abbrev pub noted_root : List (Option NodeId) → ℕ → Option ℕ
noted_root roots document = option_map number (entry_or None roots document)

-- what is laid out so far: each document that is marked is laid out, its root element is the one that it shows, and the document
-- around it is marked too
pub record IsSoFar (tree : Tree) (screen : Screen) (laid : Laid) (kept : List Slot) : Type 0 where
  pub marks : length laid.marks ≡ 64
  pub roots : length laid.roots ≡ 64
  pub laid_out : AreLaidOut tree screen laid.marks kept
  pub shown : (document : ℕ) → is_marked laid.marks document ≡ true → noted_root laid.roots document ≡ (view_of tree screen document).root
  pub above : (document : ℕ) → is_marked laid.marks document ≡ true → IsMarkedAbove tree laid.marks document

-- what was marked stays marked
abbrev pub MarksMore : Laid → Laid → Type 0
MarksMore before after = (document : ℕ) → is_marked before.marks document ≡ true → is_marked after.marks document ≡ true

-- what is kept changes for elements of these documents only
abbrev pub ChangesOnlyIn : Tree → List ℕ → List Slot → List Slot → Type 0
ChangesOnlyIn tree documents old new = (n : ℕ) → is_listed (element_at tree n).document documents ≡ false → slot_in new n ≡ slot_in old n
