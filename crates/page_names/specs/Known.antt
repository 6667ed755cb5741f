-- Names in the order in which they were given, and the first name of each thing.
use Rattle.std.specs.Prelude.{◌≡◌, ℕ, List, find, option_map}
use Rattle.std.specs.Map.{lookup}
use Rattle.page_model.specs.World.{Thing, DocumentThing, ElementThing, ResizeObserverThing, IntersectionObserverThing, QueryListThing, Name}
use Rattle.page_model.specs.Names.{is_same_thing}
use Rattle.page_names.specs.declared.thing.ThingKey.{ThingKey}
use Rattle.page_names.specs.declared.thing.ThingKey.TheVariants as key

-- the names, and how many more can be added without memory
pub record KnownNames : Type 0 where
  pub list : List Name
  pub room : ℕ

abbrev pub seen_key : ThingKey → Thing
seen_key (key.Document document) = DocumentThing document.0
seen_key (key.Element element) = ElementThing element
seen_key (key.ResizeObserver observer) = ResizeObserverThing observer
seen_key (key.IntersectionObserver observer) = IntersectionObserverThing observer
seen_key (key.QueryList query) = QueryListThing query

-- under the key of each thing is the first of its names, if it has one
abbrev pub AreFirst : List Name → List (ThingKey × List ℕ) → Type 0
AreFirst names firsts = (thing : ThingKey) → lookup (λ other. is_same_thing (seen_key thing) (seen_key other)) firsts
    ≡ option_map (λ (named : Name). named.text) (find (λ named. is_same_thing named.thing (seen_key thing)) names)
