-- What no command undoes.
use Rattle.std.specs.Prelude.{◌≡◌, ◌≤◌, ℕ, length, Bool, true, false, IsTrue, List, Option, Some, None, slice_get, ⊤}
use Rattle.page_model.specs.World.{DocumentState, Fresh, Active, Dead, Document, Tree, Thing, World}
use Rattle.page_model.specs.Names.{named_thing}
use Rattle.page_model.specs.Steps.{Step, Did, Threw, Met}

-- whether a document in the second state has reached the first one, in the order Fresh, Active, Dead
abbrev pub has_come_to : DocumentState → DocumentState → Bool
has_come_to Fresh state = true
has_come_to Active Fresh = false
has_come_to Active Active = true
has_come_to Active Dead = true
has_come_to Dead Fresh = false
has_come_to Dead Active = false
has_come_to Dead Dead = true

abbrev pub is_come_to : DocumentState → Option Document → Bool
is_come_to wanted None = false
is_come_to wanted (Some document) = has_come_to wanted (document.state)

-- whether a document exists and has reached a state
abbrev pub came_to : DocumentState → Tree → ℕ → Bool
came_to wanted tree document = is_come_to wanted (slice_get tree.documents document)

-- a later world within the same command, once that is counted: there are no fewer elements, document states don't go back, so a Dead
-- document stays Dead, names still refer to the same things, and the clock, the count of commands and the version are unchanged
pub record IsSuccessor (before after : World) : Type 0 where
  pub elements : length before.tree.elements ≤ length after.tree.elements
  pub states : (wanted : DocumentState) (document : ℕ) → IsTrue (came_to wanted before.tree document) → IsTrue (came_to wanted after.tree document)
  pub names : (text : List ℕ) (thing : Thing) → named_thing before.names text ≡ Some thing → named_thing after.names text ≡ Some thing
  pub clock : after.clock ≡ before.clock
  pub begun : after.begun ≡ before.begun
  pub version : after.version ≡ before.version

-- a statement about the value of a step, if it neither throws nor meets a limit
unfoldable pub OnDid : {A : Type 0} → Step A → (A → Type 0) → Type 0
OnDid (Did value) Holds = Holds value
OnDid (Threw exception) Holds = ⊤
OnDid (Met limit) Holds = ⊤
