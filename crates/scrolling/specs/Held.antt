-- The invariants of stored scroll positions and of the lists of pending targets.
use Rattle.std.specs.Prelude.{◌<◌, ℕ, Bool, List, [], length}
use Rattle.std.specs.List.{list_any, AllByRecursion, IsDistinct}
use Rattle.page_model.specs.World.{Container, InElement, InDocument, Scrolls}
use Rattle.page_model.specs.Lookups.{is_same_container}
use Rattle.page_model.specs.Scrolls.{pending_of}

-- nothing is scrolled and nothing is pending
abbrev pub unscrolled : Scrolls
unscrolled = record { elements = []; documents = []; pending = [] }

abbrev pub is_pending : ℕ → Container → Scrolls → Bool
is_pending document target it = list_any (is_same_container target) (pending_of document it)

-- no target is in the list twice
abbrev pub HasNoDoubles : List Container → Type 0
HasNoDoubles pending = IsDistinct is_same_container pending

-- whether there is a place for a target's position
abbrev pub IsStored : Scrolls → Container → Type 0
IsStored it (InElement n) = n < length it.elements
IsStored it (InDocument document) = document < length it.documents

-- no list has duplicates, and each pending target's position is stored
pub record IsHeld (it : Scrolls) : Type 0 where
  pub distinct : AllByRecursion HasNoDoubles it.pending
  pub stored : AllByRecursion (AllByRecursion (IsStored it)) it.pending
