-- What refusals stand for in the definitions of the page.
use Rattle.std.specs.Prelude.{◌≡◌, Bool, false, nat_lt, length}
use Rattle.text_io.specs.Limits.{limit_number, common_limit}
use Rattle.text_io.specs.declared.kinds.LimitKind.TheVariants as limits
use Rattle.page_model.specs.World.{Tree}
use Rattle.page_model.specs.Steps.{Step, Did, Threw, Met, ◌>>◌, room}
use Rattle.page_tree.specs.declared.faults.PlaceFault.{PlaceFault}
use Rattle.page_tree.specs.declared.faults.PlaceFault.TheVariants.{Throw, Limit}
use Rattle.page_tree.specs.declared.faults.MakeFault.{MakeFault}
use Rattle.page_tree.specs.declared.faults.MakeFault.TheVariants as made
use Rattle.page_tree.specs.Views.{PageElements}

-- the step with this outcome
abbrev pub refusal : PlaceFault → Step Tree
refusal (Throw kind) = Threw kind
refusal (Limit kind) = Met kind

-- whether one more element, or one more document, may be made
abbrev pub has_element_room : PageElements → Bool
has_element_room page = nat_lt (length page.tree.elements) (limit_number (page.version) limits.Nodes)

abbrev pub has_document_room : PageElements → Bool
has_document_room page = nat_lt (length page.tree.documents) (common_limit limits.Documents)

-- room for one more element, and for a frame with its document
abbrev pub element_room : PageElements → Step (Unit {0})
element_room page = room (page.version) limits.Nodes (length page.tree.elements)

abbrev pub frame_room : PageElements → Step (Unit {0})
frame_room page = element_room page >> room (page.version) limits.Documents (length page.tree.documents)

-- why something that needs this room isn't made: a limit is met, or memory was needed and refused
abbrev pub IsUnmade : Step (Unit {0}) → PageElements → MakeFault → Type 0
IsUnmade step page (made.Limit kind) = step ≡ Met kind
IsUnmade step page made.Memory = (step ≡ Did tt) × (page.ready ≡ false)

abbrev pub IsMakeFault : PageElements → MakeFault → Type 0
IsMakeFault page fault = IsUnmade (element_room page) page fault

abbrev pub IsFrameFault : PageElements → MakeFault → Type 0
IsFrameFault page fault = IsUnmade (frame_room page) page fault
