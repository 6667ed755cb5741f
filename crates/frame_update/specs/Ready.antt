-- What a tick requires of a page and a script, and what it ensures of them.
use Rattle.std.specs.Prelude.{List, length}
use Rattle.script_model.specs.Syntax.{Item}
use Rattle.script_model.specs.Scripts.{handlers_in}
use Rattle.page_model.specs.World.{World}
use Rattle.page_model.specs.Ranges.{IsInRange}
use Rattle.page_laws.specs.Bounds.{IsWithinLimits}
use Rattle.page_laws.specs.Ready.{IsReadyFor}

-- each number in the world refers to something that exists, and the limits on what is traversed by place are kept
abbrev pub IsReady : List Item → World → Type 0
IsReady script world = IsReadyFor (length (handlers_in script)) world

-- the same as a record of its two parts, which the parts of a tick pass on
pub record IsPrepared (script : List Item) (world : World) : Type 0 where
  pub range : IsInRange (length (handlers_in script)) world
  pub limits : IsWithinLimits world
