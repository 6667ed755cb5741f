-- Stored scroll positions, offsets in force and pending scroll events (CSSOM View, 4 to 6 and 13).
use Rattle.std.specs.Prelude.{ℕ, ℤ, Bool, true, false, cond, min, List, [], ◌∷◌, ◌++◌}
use Rattle.std.specs.List.{list_any}
use Rattle.page_model.specs.World.{Extent, Container, InElement, InDocument, Scrolls}
use Rattle.page_model.specs.Lookups.{no_extent, same_extent, is_same_container, entry_or, put_at, change_at}
use Rattle.page_model.specs.Edits.{kept_within}

-- the stored scroll position, 0 by 0 if none is stored
abbrev pub position_of : Container → Scrolls → Extent
position_of (InElement n) it = entry_or no_extent it.elements n
position_of (InDocument document) it = entry_or no_extent it.documents document

-- the targets whose scroll events are pending in a document, in order
abbrev pub pending_of : ℕ → Scrolls → List Container
pending_of document it = entry_or [] it.pending document

abbrev pub lesser_extent : Extent → Extent → Extent
lesser_extent a b = record { across = min a.across b.across; down = min a.down b.down }

-- the offset in force of a target with this scroll range: its stored position, limited to the range
abbrev pub offset_of : Container → Extent → Scrolls → Extent
offset_of target range it = lesser_extent (position_of target it) range

abbrev pub with_position : Container → Extent → Scrolls → Scrolls
with_position (InElement n) position it = record it { elements = put_at no_extent n position (it.elements) }
with_position (InDocument document) position it = record it { documents = put_at no_extent document position (it.documents) }

abbrev pub with_listed : Container → List Container → List Container
with_listed target pending = cond (list_any (is_same_container target) pending) pending (pending ++ target ∷ [])

-- a target appended to a document's pending list, unless it is there already
abbrev pub with_pending : ℕ → Container → Scrolls → Scrolls
with_pending document target it = record it { pending = put_at [] document (with_listed target (pending_of document it)) (it.pending) }

-- a document's pending list cleared
abbrev pub without_pending : ℕ → Scrolls → Scrolls
without_pending document it = record it { pending = change_at (λ (pending : List Container). []) document (it.pending) }

abbrev pub within_range : Extent → ℤ → ℤ → Extent
within_range range left top = record { across = kept_within left (range.across); down = kept_within top (range.down) }

-- whether a position is the offset in force already
abbrev pub stays : Container → Extent → Extent → Scrolls → Bool
stays target position range it = same_extent position (offset_of target range it)

abbrev pub moved_unless : Bool → ℕ → Container → Extent → Scrolls → Scrolls
moved_unless true document target position it = it
moved_unless false document target position it = with_pending document target (with_position target position it)

-- a target scrolled to a position within its range: if that is already the offset in force, nothing changes; else the position is
-- stored, and the target is put on the document's pending list
abbrev pub scrolled : ℕ → Container → Extent → Extent → Scrolls → Scrolls
scrolled document target position range it = moved_unless (stays target position range it) document target position it
