-- The operands of commands, looked up from left to right: a name or handler that doesn't exist, and `$target` without a current
-- entry, throw ReferenceError; a name of the wrong kind of thing, and a new name that is already taken, throw TypeError. (The commands
-- are this project's own; the exceptions are those of WebIDL.)
use Rattle.std.specs.Prelude.{ℕ, Bool, ◌||◌, List, Option, Some, None, position, bytes_eq}
use Rattle.text_io.specs.declared.kinds.ThrowKind.TheVariants.{ReferenceError, TypeError}
use Rattle.script_model.specs.Syntax.{Operand, Named, Target, Aim, PlainAim, WindowAim}
use Rattle.page_model.specs.World.{Thing, DocumentThing, ElementThing, ResizeObserverThing, IntersectionObserverThing, QueryListThing, Root, ImplicitRoot, DocumentRoot, ElementRoot, EventTarget, ElementTarget, DocumentTarget, WindowTarget, QueryTarget, Name, Container, InElement, InDocument}
use Rattle.page_model.specs.Names.{named_thing, is_taken}
use Rattle.page_model.specs.Steps.{Step, Did, Threw, ◌>>=◌, required, throw_if}

-- the current entry, for which a callback's block is run: none, that of a resize observer, or that of an intersection observer with
-- its isIntersecting
pub data Present : Type 0 where
  NoEntry : Present
  ResizeEntry : (target : ℕ) → Present
  IntersectionEntry : (target : ℕ) (meets : Bool) → Present

-- the names of a script's handlers; a handler's number is its index
abbrev pub Handlers : Type 0
Handlers = List (List ℕ)

abbrev pub thing_named : List Name → List ℕ → Step Thing
thing_named names name = required ReferenceError (named_thing names name)

-- a new name has to be unused
abbrev pub new_name : List Name → List ℕ → Step (Unit {0})
new_name names name = throw_if (is_taken names name) TypeError

-- a second new name in the same command has to be unused too, and differ from the first
abbrev pub other_new_name : List Name → List ℕ → List ℕ → Step (Unit {0})
other_new_name names first name = throw_if (is_taken names name || bytes_eq first name) TypeError

abbrev pub as_document : Thing → Step ℕ
as_document (DocumentThing document) = Did document
as_document thing = Threw TypeError

abbrev pub as_element : Thing → Step ℕ
as_element (ElementThing element) = Did element
as_element thing = Threw TypeError

abbrev pub as_resize_observer : Thing → Step ℕ
as_resize_observer (ResizeObserverThing observer) = Did observer
as_resize_observer thing = Threw TypeError

abbrev pub as_intersection_observer : Thing → Step ℕ
as_intersection_observer (IntersectionObserverThing observer) = Did observer
as_intersection_observer thing = Threw TypeError

abbrev pub as_query_list : Thing → Step ℕ
as_query_list (QueryListThing query) = Did query
as_query_list thing = Threw TypeError

abbrev pub as_container : Thing → Step Container
as_container (ElementThing element) = Did (InElement element)
as_container (DocumentThing document) = Did (InDocument document)
as_container thing = Threw TypeError

abbrev pub as_event_target : Thing → Step EventTarget
as_event_target (ElementThing element) = Did (ElementTarget element)
as_event_target (DocumentThing document) = Did (DocumentTarget document)
as_event_target (QueryListThing query) = Did (QueryTarget query)
as_event_target thing = Threw TypeError

abbrev pub document_named : List Name → List ℕ → Step ℕ
document_named names name = thing_named names name >>= as_document

abbrev pub resize_observer_named : List Name → List ℕ → Step ℕ
resize_observer_named names name = thing_named names name >>= as_resize_observer

abbrev pub intersection_observer_named : List Name → List ℕ → Step ℕ
intersection_observer_named names name = thing_named names name >>= as_intersection_observer

abbrev pub query_list_named : List Name → List ℕ → Step ℕ
query_list_named names name = thing_named names name >>= as_query_list

-- `$target`
abbrev pub present_target : Present → Step ℕ
present_target NoEntry = Threw ReferenceError
present_target (ResizeEntry target) = Did target
present_target (IntersectionEntry target meets) = Did target

abbrev pub operand_thing : List Name → Present → Operand → Step Thing
operand_thing names present (Named name) = thing_named names name
operand_thing names present Target = present_target present >>= λ target. Did (ElementThing target)

abbrev pub element_meant : List Name → Present → Operand → Step ℕ
element_meant names present operand = operand_thing names present operand >>= as_element

-- an element or a document
abbrev pub container_meant : List Name → Present → Operand → Step Container
container_meant names present operand = operand_thing names present operand >>= as_container

abbrev pub event_target_meant : List Name → Present → Aim → Step EventTarget
event_target_meant names present (PlainAim operand) = operand_thing names present operand >>= as_event_target
event_target_meant names present (WindowAim name) = document_named names name >>= λ document. Did (WindowTarget document)

abbrev pub root_at : Container → Root
root_at (InElement element) = ElementRoot element
root_at (InDocument document) = DocumentRoot document

-- the root of an intersection observer, the implicit one if none is given
abbrev pub root_meant : List Name → Present → Option Operand → Step Root
root_meant names present None = Did ImplicitRoot
root_meant names present (Some operand) = container_meant names present operand >>= λ container. Did (root_at container)

abbrev pub handler_named : Handlers → List ℕ → Step ℕ
handler_named handlers name = required ReferenceError (position (bytes_eq name) handlers)

-- an observer's handler, if one is given
abbrev pub handler_given : Handlers → Option (List ℕ) → Step (Option ℕ)
handler_given handlers None = Did None
handler_given handlers (Some name) = handler_named handlers name >>= λ handler. Did (Some handler)
