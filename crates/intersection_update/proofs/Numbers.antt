-- The numbers of the observers that are looked at with a document.
use Rattle.std.proofs.Common.{◌≡◌, ℕ, suc, ◌<◌, ◌+◌, ◌∙◌, ap, refl, sym, length, take, arith}
use Rattle.std.specs.Prelude.{Bool, cond, List, [], ◌∷◌, ◌++◌}
use Rattle.page_model.specs.World.{Tree, IntersectionObserver, IntersectionObservers}
use Rattle.page_model.specs.Lookups.{no_intersection_observer, intersection_observer_at}
use Rattle.page_model.specs.Intersections.{is_rooted_in, places_from}
use Rattle.intersection_observer.specs.declared.root.WatcherId.{WatcherId}
use Rattle.intersection_update.specs.Watching.{watcher_numbers}
use Rattle.intersection_update.proofs.Lists.{places_more}

abbrev pub first_numbers : Tree → ℕ → ℕ → List IntersectionObserver → List ℕ
first_numbers tree document place made = places_from 0 (λ (it : IntersectionObserver). is_rooted_in tree document (it.root)) (take place made)

-- the next one, if its root is the document's
pub next_number : (tree : Tree) (document place : ℕ) (it : IntersectionObservers) (is : Bool) (before after : List ℕ) → place < length it.made → is ≡ is_rooted_in tree document (intersection_observer_at it place).root →
    before ≡ first_numbers tree document place (it.made) → after ≡ before ++ cond is (place ∷ []) [] → after ≡ first_numbers tree document (place + 1) (it.made)
next_number tree document place it is before after there rooted first more =
    let zero_place : place ≡ 0 + place = omega arith in
    let next_place : suc place ≡ place + 1 = omega arith in
    more
    ∙ ap (λ (these : List ℕ). these ++ cond is (place ∷ []) []) first
    ∙ ap (λ (b : Bool). first_numbers tree document place (it.made) ++ cond b (place ∷ []) []) rooted
    ∙ ap (λ (n : ℕ). first_numbers tree document place (it.made) ++ cond (is_rooted_in tree document (intersection_observer_at it place).root) (n ∷ []) []) zero_place
    ∙ sym (places_more no_intersection_observer (λ (each : IntersectionObserver). is_rooted_in tree document (each.root)) 0 place (it.made) there)
    ∙ ap (λ (n : ℕ). first_numbers tree document n (it.made)) next_place

pub pushed_number : (found : List WatcherId) (watcher : WatcherId) → watcher_numbers (found ++ watcher ∷ []) ≡ watcher_numbers found ++ watcher.0 ∷ []
pushed_number [] watcher = refl
pushed_number (x ∷ xs) watcher = ap (λ (others : List ℕ). x.0 ∷ others) (pushed_number xs watcher)
