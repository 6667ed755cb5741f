-- Resize observers, and how commands change them (Resize Observer, 2.1 and 3).
use Rattle.std.specs.Prelude.{ℕ, suc, Bool, not, ◌==◌, Option, List, [], ◌∷◌, ◌++◌, length, filter, sum_by}
use Rattle.std.specs.List.{list_any}
use Rattle.px_units.specs.declared.BoxKind.{BoxKind}
use Rattle.page_model.specs.World.{Observation, ResizeObserver, ResizeObservers}
use Rattle.page_model.specs.Lookups.{no_extent, change_resize_observer}

abbrev pub with_resize_observer : ℕ → Option ℕ → ResizeObservers → ResizeObservers
with_resize_observer document handler it =
    record it { made = it.made ++ record { document = document; handler = handler; targets = []; active = []; skipped = [] } ∷ [] }

abbrev pub is_observed : ℕ → List Observation → Bool
is_observed n targets = list_any (λ each. each.target == n) targets

abbrev pub without_observed : ℕ → List Observation → List Observation
without_observed n targets = filter (λ each. not (each.target == n)) targets

-- the number of observations of all resize observers together
abbrev pub resize_observations : ResizeObservers → ℕ
resize_observations it = sum_by (λ (observer : ResizeObserver). length (observer.targets)) it.made

-- observe(): an existing observation of the target is removed first (Resize Observer, 2.1)
abbrev pub with_resize_target : ℕ → ℕ → BoxKind → ResizeObservers → ResizeObservers
with_resize_target observer n observed it =
    change_resize_observer
    (λ each. record each {
      targets = without_observed n (each.targets) ++ record { serial = it.given; target = n; observed = observed; last = no_extent } ∷ [];
    })
    observer
    (record it { given = suc it.given })

-- unobserve(): removes an observation from [[observationTargets]] only
abbrev pub without_resize_target : ℕ → ℕ → ResizeObservers → ResizeObservers
without_resize_target observer n it = change_resize_observer (λ each. record each { targets = without_observed n (each.targets) }) observer it

abbrev pub without_resize_targets : ℕ → ResizeObservers → ResizeObservers
without_resize_targets observer it = change_resize_observer (λ each. record each { targets = []; active = [] }) observer it
