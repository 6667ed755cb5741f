-- A page in which there is nothing but the document `top`.
use Rattle.std.proofs.Common.{◌≡◌, ℕ, ◌==◌, List, [], ◌∷◌, Option, Some, None, length, cond, is_some, find, sym, ap, ◌∙◌, subst, arith, tests, true}
use Rattle.page_model.specs.World.{Thing, DocumentThing, ElementThing, ResizeObserverThing, IntersectionObserverThing, QueryListThing, Name}
use Rattle.page_model.specs.Names.{is_same_thing}
use Rattle.page_model.specs.Ranges.{Counts, IsThingIn}
use Rattle.clip_chain.specs.Worlds.{view_spot}
use Rattle.kept_clips.specs.Looked.{MayBeSeen}
use Rattle.kept_findings.specs.Held.{HeldFindings}
use Rattle.kept_findings.specs.Rooms.{HaveRoom}
use Rattle.kept_findings.proofs.Rooms.{room_none, room_document}
use Rattle.page_tree.specs.Views.{PageElements}
use Rattle.page_state.specs.Whole.{AreKnown, AreElementNames}

abbrev top_alone : List ℕ → List Name
top_alone text = record { text = text; thing = DocumentThing 0 } ∷ []

first_named : (text : List ℕ) (thing : Thing) → IsThingIn (record { elements = 0; documents = 1; resize_observers = 0; intersection_observers = 0; queries = 0; handlers = 0 }) thing
    → is_some (find (λ (named : Name). is_same_thing named.thing thing) (top_alone text)) ≡ true
first_named text (DocumentThing n) is =
    let same : (0 == n) ≡ true = grind (arith, tests) in
    ap (λ b. is_some (cond {A = Option Name} b (Some (record { text = text; thing = DocumentThing 0 })) None)) same
first_named text (ElementThing n) is = absurd (omega (arith, is))
first_named text (ResizeObserverThing n) is = absurd (omega (arith, is))
first_named text (IntersectionObserverThing n) is = absurd (omega (arith, is))
first_named text (QueryListThing n) is = absurd (omega (arith, is))

first_known : (text : List ℕ) → AreKnown (top_alone text) (record { elements = 0; documents = 1; resize_observers = 0; intersection_observers = 0; queries = 0; handlers = 0 })
first_known text = record { there = (omega arith, tt); named = first_named text }

pub known_first : (text : List ℕ) (names : List Name) (elements documents observers watchers queries : ℕ) → names ≡ top_alone text → elements ≡ 0 → documents ≡ 1 → observers ≡ 0 → watchers ≡ 0 → queries ≡ 0
    → AreKnown names (record { elements = elements; documents = documents; resize_observers = observers; intersection_observers = watchers; queries = queries; handlers = 0 })
known_first text names elements documents observers watchers queries is e d o w q =
    let counts : ℕ → ℕ → ℕ → ℕ → ℕ → Counts =
    λ (els docs obs seen asked : ℕ). record { elements = els; documents = docs; resize_observers = obs; intersection_observers = seen; queries = asked; handlers = 0 } in
    subst (λ (it : List Name). AreKnown it (counts elements documents observers watchers queries)) (sym is)
    (subst (λ (n : ℕ). AreKnown (top_alone text) (counts n documents observers watchers queries)) (sym e)
    (subst (λ (n : ℕ). AreKnown (top_alone text) (counts 0 n observers watchers queries)) (sym d)
    (subst (λ (n : ℕ). AreKnown (top_alone text) (counts 0 1 n watchers queries)) (sym o)
    (subst (λ (n : ℕ). AreKnown (top_alone text) (counts 0 1 0 n queries)) (sym w)
    (subst (λ (n : ℕ). AreKnown (top_alone text) (counts 0 1 0 0 n)) (sym q) (first_known text))))))

pub no_elements : (names : List Name) (tree : PageElements) → tree.names ≡ [] → length tree.tree.elements ≡ 0 → AreElementNames names tree
no_elements names tree none count = record {
  count = ap (λ (it : List (List ℕ)). length it) none ∙ sym count;
  each = λ n below. absurd (omega (arith, below, count));
}

pub room_first : (elements documents : ℕ) (it : HeldFindings) → elements ≡ 0 → documents ≡ 1 → MayBeSeen it.seen it.clips (view_spot 0) → HaveRoom elements documents it
room_first elements documents it none one may =
    subst (λ (n : ℕ). HaveRoom n documents it) (sym none) (subst (λ (d : ℕ). HaveRoom 0 d it) (sym one) (room_document 0 0 it may (room_none it)))
