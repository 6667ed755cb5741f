-- What names refer to, and the entry for which a command runs.
use Rattle.std.specs.Prelude.{ℕ, ◌<◌, List, Option, Some, None}
use Rattle.std.specs.List.{AllByRecursion}
use Rattle.element_tree.specs.declared.node.NodeId.{NodeId}
use Rattle.element_tree.specs.declared.container.Container.{Container}
use Rattle.element_tree.specs.declared.container.Container.TheVariants.{Element as Inside, Document as Top}
use Rattle.page_model.specs.World.{Thing as ModelThing, DocumentThing, ElementThing, ResizeObserverThing, IntersectionObserverThing, QueryListThing, Name}
use Rattle.page_model.specs.Operands.{Present, NoEntry, ResizeEntry}
use Rattle.page_model.specs.Ranges.{Counts, IsThingIn}
use Rattle.page_names.specs.declared.thing.Thing.{Thing}
use Rattle.page_names.specs.declared.thing.Thing.TheVariants.{Document, Element, ResizeObserver, IntersectionObserver, QueryList}

abbrev pub seen_thing : Thing → ModelThing
seen_thing (Document document) = DocumentThing document.0
seen_thing (Element node) = ElementThing node.0
seen_thing (ResizeObserver observer) = ResizeObserverThing observer.0
seen_thing (IntersectionObserver watcher) = IntersectionObserverThing watcher.0
seen_thing (QueryList query) = QueryListThing query

-- a name with the thing that it refers to
abbrev pub seen_entry : List ℕ × Thing → Name
seen_entry entry = record { text = entry.0; thing = seen_thing entry.1 }

abbrev pub present_of : Option NodeId → Present
present_of None = NoEntry
present_of (Some node) = ResizeEntry node.0

-- each name refers to something that exists
abbrev pub AreIn : Counts → List Name → Type 0
AreIn counts names = AllByRecursion (λ named. IsThingIn counts named.thing) names

abbrev pub IsSubject : ℕ → Option NodeId → Type 0
IsSubject count None = Unit {0}
IsSubject count (Some node) = node.0 < count

abbrev pub IsContainerBelow : Counts → Container → Type 0
IsContainerBelow counts (Inside node) = node.0 < counts.elements
IsContainerBelow counts (Top document) = document.0 < counts.documents
