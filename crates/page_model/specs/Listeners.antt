-- Event listeners (DOM, 2.7 and 2.9).
use Rattle.std.specs.Prelude.{ℕ, Bool, true, false, ◌&&◌, not, ◌==◌, List, filter}
use Rattle.std.specs.List.{list_any}
use Rattle.text_io.specs.declared.kinds.EventKind.{EventKind}
use Rattle.text_io.specs.declared.kinds.EventKind.TheVariants as events
use Rattle.page_model.specs.World.{EventTarget, ElementTarget, DocumentTarget, WindowTarget, QueryTarget, Listener, Table}
use Rattle.page_model.specs.Lookups.{entered, kept}

abbrev pub is_same_event : EventKind → EventKind → Bool
is_same_event events.Resize events.Resize = true
is_same_event events.Scroll events.Scroll = true
is_same_event events.Error events.Error = true
is_same_event events.Change events.Change = true
is_same_event a b = false

abbrev pub is_same_target : EventTarget → EventTarget → Bool
is_same_target (ElementTarget a) (ElementTarget b) = a == b
is_same_target (DocumentTarget a) (DocumentTarget b) = a == b
is_same_target (WindowTarget a) (WindowTarget b) = a == b
is_same_target (QueryTarget a) (QueryTarget b) = a == b
is_same_target a b = false

-- whether a listener is for this event at this target
abbrev pub hears : EventTarget → EventKind → Listener → Bool
hears target event listener = is_same_target target listener.target && is_same_event event listener.event

abbrev pub is_listener : EventTarget → EventKind → ℕ → Listener → Bool
is_listener target event handler listener = is_same_target target listener.target && is_same_event event listener.event && handler == listener.handler

abbrev pub is_listening : EventTarget → EventKind → ℕ → Table Listener → Bool
is_listening target event handler listeners = list_any (is_listener target event handler) listeners.held

abbrev pub with_listener : EventTarget → EventKind → ℕ → Table Listener → Table Listener
with_listener target event handler listeners =
    entered (λ serial. record { serial = serial; target = target; event = event; handler = handler }) listeners

abbrev pub without_listener : EventTarget → EventKind → ℕ → Table Listener → Table Listener
without_listener target event handler listeners = kept (λ each. not (is_listener target event handler each)) listeners

-- the listeners for an event at a target
abbrev pub listeners_of : EventTarget → EventKind → Table Listener → List Listener
listeners_of target event listeners = filter (hears target event) (listeners.held)

-- whether a listener that was copied is still in the list: one that was removed and added again is a different one
abbrev pub listener_stands : Listener → Table Listener → Bool
listener_stands listener listeners = list_any (λ (held : Listener). held.serial == listener.serial) (listeners.held)
