-- Intersection observers, and how commands change them (Intersection Observer, 2.2 and 3.2).
use Rattle.std.specs.Prelude.{ℕ, suc, Bool, false, not, ◌==◌, Option, None, List, [], ◌∷◌, ◌++◌, length, filter, sum_by}
use Rattle.std.specs.List.{list_any}
use Rattle.script_model.specs.Margins.{Margins}
use Rattle.page_model.specs.World.{Root, Registration, IntersectionObserver, IntersectionObservers}
use Rattle.page_model.specs.Lookups.{change_intersection_observer}

abbrev pub with_intersection_observer : ℕ → Option ℕ → Root → Margins → List ℕ → IntersectionObservers → IntersectionObservers
with_intersection_observer document handler root margins thresholds it =
    record it {
      made = it.made ++ record {
        document = document;
        handler = handler;
        root = root;
        margins = margins;
        thresholds = thresholds;
        registrations = [];
        queue = [];
      } ∷ [];
    }

abbrev pub is_registered : ℕ → List Registration → Bool
is_registered n registrations = list_any (λ each. each.target == n) registrations

-- the number of registrations of all intersection observers together
abbrev pub intersection_observations : IntersectionObservers → ℕ
intersection_observations it = sum_by (λ (observer : IntersectionObserver). length (observer.registrations)) it.made

-- a new registration has no previous threshold index and wasn't intersecting
abbrev pub with_registration : ℕ → ℕ → IntersectionObservers → IntersectionObservers
with_registration observer n it =
    change_intersection_observer
    (λ each. record each {
      registrations = each.registrations ++ record { serial = it.given; target = n; previous_index = None; met = false } ∷ [];
    })
    observer
    (record it { given = suc it.given })

-- unobserve() and disconnect() leave the queue as it is
abbrev pub without_registration : ℕ → ℕ → IntersectionObservers → IntersectionObservers
without_registration observer n it =
    change_intersection_observer
    (λ each. record each { registrations = filter (λ (registration : Registration). not (registration.target == n)) (each.registrations) })
    observer
    it

abbrev pub without_registrations : ℕ → IntersectionObservers → IntersectionObservers
without_registrations observer it = change_intersection_observer (λ each. record each { registrations = [] }) observer it

-- the queue cleared; callers copy it before
abbrev pub without_queue : ℕ → IntersectionObservers → IntersectionObservers
without_queue observer it = change_intersection_observer (λ each. record each { queue = [] }) observer it
