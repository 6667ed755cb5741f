-- The names by which commands refer to things: this project's own. A name that is taken is never free again.
use Rattle.std.specs.Prelude.{ℕ, Bool, false, ◌==◌, List, [], ◌∷◌, ◌++◌, find, option_map, unwrap_or, Option, bytes_eq, is_some}
use Rattle.page_model.specs.World.{Container, InElement, InDocument, Thing, DocumentThing, ElementThing, ResizeObserverThing, IntersectionObserverThing, QueryListThing, Name}

abbrev pub is_same_thing : Thing → Thing → Bool
is_same_thing (DocumentThing a) (DocumentThing b) = a == b
is_same_thing (ElementThing a) (ElementThing b) = a == b
is_same_thing (ResizeObserverThing a) (ResizeObserverThing b) = a == b
is_same_thing (IntersectionObserverThing a) (IntersectionObserverThing b) = a == b
is_same_thing (QueryListThing a) (QueryListThing b) = a == b
is_same_thing a b = false

-- the thing that a text names, if any
abbrev pub named_thing : List Name → List ℕ → Option Thing
named_thing names text = option_map (λ (named : Name). named.thing) (find (λ named. bytes_eq named.text text) names)

abbrev pub is_taken : List Name → List ℕ → Bool
is_taken names text = is_some (named_thing names text)

-- the name of a thing; every thing has one, so the empty text never occurs
abbrev pub text_of : List Name → Thing → List ℕ
text_of names thing = unwrap_or (option_map (λ (named : Name). named.text) (find (λ named. is_same_thing named.thing thing) names)) []

abbrev pub element_text : List Name → ℕ → List ℕ
element_text names n = text_of names (ElementThing n)

abbrev pub document_text : List Name → ℕ → List ℕ
document_text names n = text_of names (DocumentThing n)

abbrev pub container_text : List Name → Container → List ℕ
container_text names (InElement n) = element_text names n
container_text names (InDocument document) = document_text names document

abbrev pub resize_observer_text : List Name → ℕ → List ℕ
resize_observer_text names n = text_of names (ResizeObserverThing n)

abbrev pub intersection_observer_text : List Name → ℕ → List ℕ
intersection_observer_text names n = text_of names (IntersectionObserverThing n)

abbrev pub query_list_text : List Name → ℕ → List ℕ
query_list_text names n = text_of names (QueryListThing n)

-- the names with one more
abbrev pub with_name : List ℕ → Thing → List Name → List Name
with_name text thing names = names ++ record { text = text; thing = thing } ∷ []
