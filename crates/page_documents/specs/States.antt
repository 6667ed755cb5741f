-- The states of a document as the definitions of a world have them.
use Rattle.std.specs.Prelude.{Bool, true, false}
use Rattle.page_model.specs.World.{DocumentState as StateModel, Fresh, Active, Dead, Document}
use Rattle.page_model.specs.Documents.{is_active_state, is_fresh_state}
use Rattle.page_documents.specs.declared.entry.DocumentState.{DocumentState}
use Rattle.page_documents.specs.declared.entry.DocumentState.TheVariants as states

abbrev pub seen_state : DocumentState → StateModel
seen_state states.Fresh = Fresh
seen_state states.Active = Active
seen_state states.Dead = Dead

abbrev pub is_dead_state : StateModel → Bool
is_dead_state Dead = true
is_dead_state state = false

-- the test for a state
abbrev pub is_in : DocumentState → StateModel → Bool
is_in states.Fresh = is_fresh_state
is_in states.Active = is_active_state
is_in states.Dead = is_dead_state

abbrev pub put_in : DocumentState → Document → Document
put_in state document = record document { state = seen_state state }
