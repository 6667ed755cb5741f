-- Settling one registration by what was found of it, and an observer's registrations one after the other (Intersection Observer,
-- 3.2: update intersection observations).
use Rattle.std.specs.Prelude.{ℕ, Bool, false, cond, ◌==◌, ◌&&◌, List, [], ◌∷◌, ◌++◌, map, filter_map, Option, Some, None}
use Rattle.std.specs.List.{list_any}
use Rattle.page_model.specs.World.{Finding, Registration, IntersectionObserver, IntersectionObservers}
use Rattle.page_model.specs.Lookups.{intersection_observer_at, change_intersection_observer}
use Rattle.page_model.specs.Intersections.{Settled, is_news, settled}
use Rattle.intersection_observer.specs.Places.{Standing, standing_of}
use Rattle.intersection_observer.specs.Serials.{registrations_at}

-- a registration, settled if it is for this target
abbrev pub settled_if : ℕ → ℕ → Finding → Registration → Settled
settled_if n time now it = cond (it.target == n) (settled time now it) (record { registration = it; entry = None })

-- an observer after its registration for a target was settled
abbrev pub settled_at : ℕ → ℕ → Finding → IntersectionObserver → IntersectionObserver
settled_at n time now observer =
    let each = map (settled_if n time now) (observer.registrations) in
    record observer {
      registrations = map (λ (it : Settled). it.registration) each;
      queue = observer.queue ++ filter_map (λ (it : Settled). it.entry) each;
    }

abbrev pub settled_standing : Option Standing → ℕ → Finding → IntersectionObservers → IntersectionObservers
settled_standing None time now it = it
settled_standing (Some standing) time now it = change_intersection_observer (settled_at (standing.target) time now) (standing.watcher) it

-- the observers after the registration with this serial number was settled
abbrev pub with_settled : ℕ → ℕ → Finding → IntersectionObservers → IntersectionObservers
with_settled serial time now it = settled_standing (standing_of serial it) time now it

-- whether a finding is news for the registration of a target
abbrev pub is_news_of : ℕ → Finding → List Registration → Bool
is_news_of n now registrations = list_any (λ (it : Registration). (it.target == n) && is_news it now) registrations

abbrev pub is_news_at : Option Standing → Finding → IntersectionObservers → Bool
is_news_at None now it = false
is_news_at (Some standing) now it = is_news_of (standing.target) now (registrations_at it (standing.watcher))

-- whether it is news for the registration with this serial number
abbrev pub is_news_for : ℕ → Finding → IntersectionObservers → Bool
is_news_for serial now it = is_news_at (standing_of serial it) now it

-- the observers after these registrations were settled one after the other, each by what `find` gives for its target
abbrev pub each_settled : ℕ → (ℕ → Finding) → List Registration → IntersectionObservers → IntersectionObservers
each_settled time find [] it = it
each_settled time find (registration ∷ others) it =
    each_settled time find others (with_settled (registration.serial) time (find (registration.target)) it)

-- the same for the registrations of several observers, one observer after the other; `find` gives what is found for each of them
abbrev pub all_settled : ℕ → (ℕ → IntersectionObserver → ℕ → Finding) → List ℕ → IntersectionObservers → IntersectionObservers
all_settled time find [] it = it
all_settled time find (watcher ∷ watchers) it =
    all_settled time find watchers (each_settled time (find watcher (intersection_observer_at it watcher)) (registrations_at it watcher) it)
