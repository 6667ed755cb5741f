-- The names of the things in a page, their documents and their handlers.
use Rattle.std.specs.Prelude.{ℕ, ◌<◌, List, length, Option, None}
use Rattle.page_model.specs.World.{World, EventTarget as ModelContainer, ElementTarget, DocumentTarget, WindowTarget, QueryTarget}
use Rattle.page_model.specs.Lookups.{resize_observer_at, intersection_observer_at}
use Rattle.page_model.specs.Names.{element_text, document_text, resize_observer_text, intersection_observer_text, query_list_text}
use Rattle.page_model.specs.Callbacks.{document_of_target}
use Rattle.event_tables.specs.Seen.{seen_target}
use Rattle.element_tree.specs.declared.container.Container.{Container}
use Rattle.element_tree.specs.declared.container.Container.TheVariants.{Element as Inside, Document as Top}
use Rattle.page_state.specs.declared.labels.Label.{Label}
use Rattle.page_state.specs.declared.labels.Label.TheVariants.{Target, Observer, Watcher}

-- a window has its document's name
abbrev pub target_text : World → ModelContainer → List ℕ
target_text world (ElementTarget n) = element_text world.names n
target_text world (DocumentTarget document) = document_text world.names document
target_text world (WindowTarget document) = document_text world.names document
target_text world (QueryTarget query) = query_list_text world.names query

abbrev pub label_text : World → Label → List ℕ
label_text world (Target target) = target_text world (seen_target target)
label_text world (Observer observer) = resize_observer_text world.names observer.0
label_text world (Watcher watcher) = intersection_observer_text world.names watcher.0

abbrev pub IsTargetIn : World → ModelContainer → Type 0
IsTargetIn world (ElementTarget n) = n < length world.tree.elements
IsTargetIn world (DocumentTarget document) = document < length world.tree.documents
IsTargetIn world (WindowTarget document) = document < length world.tree.documents
IsTargetIn world (QueryTarget query) = query < length world.queries

-- the thing with this label exists
abbrev pub IsLabelIn : World → Label → Type 0
IsLabelIn world (Target target) = IsTargetIn world (seen_target target)
IsLabelIn world (Observer observer) = observer.0 < length world.resize_observers.made
IsLabelIn world (Watcher watcher) = watcher.0 < length world.intersection_observers.made

-- a thing that is asked for its handler: an observer has to exist, an event target doesn't
abbrev pub IsCallerIn : World → Label → Type 0
IsCallerIn world (Target target) = Unit {0}
IsCallerIn world (Observer observer) = observer.0 < length world.resize_observers.made
IsCallerIn world (Watcher watcher) = watcher.0 < length world.intersection_observers.made

-- the document that decides whether the callbacks of a thing are called
abbrev pub label_document : World → Label → ℕ
label_document world (Target target) = document_of_target world (seen_target target)
label_document world (Observer observer) = (resize_observer_at world.resize_observers observer.0).document
label_document world (Watcher watcher) = (intersection_observer_at world.intersection_observers watcher.0).document

-- an observer's handler, if it has one
abbrev pub label_handler : World → Label → Option ℕ
label_handler world (Target target) = None
label_handler world (Observer observer) = (resize_observer_at world.resize_observers observer.0).handler
label_handler world (Watcher watcher) = (intersection_observer_at world.intersection_observers watcher.0).handler

-- an element or a document that exists
abbrev pub IsIn : World → Container → Type 0
IsIn world (Inside node) = node.0 < length world.tree.elements
IsIn world (Top document) = document.0 < length world.tree.documents
