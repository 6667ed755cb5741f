-- What stays the same in the worlds of a run, and what only grows.
use Rattle.std.specs.Prelude.{◌≡◌, ◌≤◌, ℕ, IsTrue, List, Some, length}
use Rattle.page_model.specs.World.{DocumentState, Thing, World}
use Rattle.page_model.specs.Names.{named_thing}
use Rattle.page_laws.specs.Successors.{came_to}

-- a world later in a run: there are no fewer elements, document states don't go back, so a Dead document stays Dead, names still refer to
-- the same things, neither the clock nor the count of commands decreases, and the version stays the same
pub record IsLater (before now : World) : Type 0 where
  pub elements : length before.tree.elements ≤ length now.tree.elements
  pub states : (wanted : DocumentState) (document : ℕ) → IsTrue (came_to wanted before.tree document) → IsTrue (came_to wanted now.tree document)
  pub names : (text : List ℕ) (thing : Thing) → named_thing before.names text ≡ Some thing → named_thing now.names text ≡ Some thing
  pub clock : before.clock ≤ now.clock
  pub begun : before.begun ≤ now.begun
  pub version : now.version ≡ before.version
