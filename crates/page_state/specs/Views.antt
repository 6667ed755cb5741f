-- The view of a page: its world, whether a command was begun and isn't applied yet, what is kept of the elements' boxes, and what
-- is kept of registrations.
use Rattle.std.specs.Prelude.{Bool, List}
use Rattle.page_model.specs.World.{World}
use Rattle.kept_layout.specs.declared.slots.Slot.{Slot}
use Rattle.kept_findings.specs.Held.{HeldFindings}

pub record PageView : Type 0 where
  pub world : World
  pub begun : Bool
  pub kept : List Slot
  pub found : HeldFindings
