-- Which elements a call marks, and what is kept between a change and the marks for it.
use Rattle.std.specs.Prelude.{◌≡◌, ◌≤◌, ℕ, Bool, false, ◌||◌, Option, Some, None, List, length}
use Rattle.layout_model.specs.Nodes.{is_in_path}
use Rattle.page_model.specs.World.{Tree, Container, InElement, InDocument}
use Rattle.page_model.specs.Documents.{nodes_of}
use Rattle.kept_layout.specs.declared.slots.Slot.{Slot}
use Rattle.kept_layout.specs.Slots.{slot_in, marked_if}
use Rattle.kept_layout.specs.Sound.{IsSoundBut}

-- whether an element is this one or an ancestor of it
abbrev pub is_over : Tree → Option ℕ → ℕ → Bool
is_over tree None m = false
is_over tree (Some n) m = is_in_path (nodes_of tree) m n

-- the element that a container is
abbrev pub element_of : Container → Option ℕ
element_of (InElement parent) = Some parent
element_of (InDocument document) = None

-- what is kept changes only in that these elements are marked
abbrev pub MarksOnly : (ℕ → Bool) → List Slot → List Slot → Type 0
MarksOnly marked old new = (m : ℕ) → slot_in new m ≡ marked_if (marked m) (slot_in old m)

abbrev pub MarksNone : List Slot → List Slot → Type 0
MarksNone old new = (m : ℕ) → slot_in new m ≡ slot_in old m

-- what is kept is consistent with the elements of a page, except for these
pub record AreKeptBut (tree : Tree) (kept : List Slot) (but : ℕ → Bool) : Type 0 where
  pub slots : length tree.elements ≤ length kept
  pub sound : IsSoundBut (nodes_of tree) (slot_in kept) but
  pub unmade : (n : ℕ) → length tree.elements ≤ n → (slot_in kept n).found ≡ None

-- if what was kept is consistent except for an element with its ancestors and for some others, what is kept then is consistent
-- except for the others
abbrev pub Mends : Tree → Option ℕ → List Slot → List Slot → Type 0
Mends tree node old new = (others : ℕ → Bool) → AreKeptBut tree old (λ m. is_over tree node m || others m) → AreKeptBut tree new others
