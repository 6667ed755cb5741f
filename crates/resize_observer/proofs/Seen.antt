-- Lists of observations as they are seen.
use Rattle.std.proofs.Common.{◌≡◌, ℕ, ◌<◌, ◌∙◌, ap, refl, sym, subst, get_or, length}
use Rattle.std.proofs.lemmas.Option.{slice_get-map, slice_get_read}
use Rattle.std.proofs.lemmas.List.{map_push, length-map}
use Rattle.std.specs.Prelude.{Bool, true, false, cond, not, ◌==◌, List, [], ◌∷◌, ◌++◌, filter, slice_get, option_map, option_to_list}
use Rattle.page_model.specs.World.{Observation as ModelObservation, ResizeObserver}
use Rattle.page_model.specs.ResizeObserving.{without_observed}
use Rattle.resize_observer.specs.declared.observation.Observation.{Observation}
use Rattle.resize_observer.specs.Observations.{seen_observation, seen_observations}
use Rattle.resize_observer.specs.Observers.{gathered_at}

kept-seen : (keeps : Bool) (x : Observation) (xs : List Observation) (ys : List ModelObservation) → seen_observations xs ≡ ys → seen_observations (cond keeps (x ∷ xs) xs) ≡ cond keeps (seen_observation x ∷ ys) ys
kept-seen true x xs ys same = ap (λ others. seen_observation x ∷ others) same
kept-seen false x xs ys same = same

pub without-seen : (n : ℕ) (xs : List Observation) → seen_observations (filter (λ (each : Observation). not (each.target.0 == n)) xs) ≡ without_observed n (seen_observations xs)
without-seen n [] = refl
without-seen n (x ∷ xs) = kept-seen (not (x.target.0 == n)) x _ _ (without-seen n xs)

-- a copy of the observation at a place put last
pub copied-seen : (xs ys : List Observation) (place : ℕ) (y : Observation) → place < length ys → y ≡ get_or ys place y → seen_observations (xs ++ y ∷ []) ≡ seen_observations xs ++ option_to_list (slice_get (seen_observations ys) place)
copied-seen xs ys place y within is =
    map_push seen_observation xs y
    ∙ ap (λ last. seen_observations xs ++ option_to_list last) (sym (slice_get-map seen_observation ys place ∙ ap (option_map seen_observation) (slice_get_read ys (length ys) place y refl within is)))

-- a place of the targets is one of the list that is seen as them
pub place-seen : (targets : List Observation) {it now : ResizeObserver} {place : ℕ} → it ≡ now → seen_observations targets ≡ it.targets → place < length now.targets → place < length targets
place-seen targets {it} {now} {place} view seen there =
    subst (λ n. place < n) (ap (λ (these : ResizeObserver). length (these.targets)) (sym view) ∙ ap (λ these. length these) (sym seen) ∙ length-map targets seen_observation) there

pub gathered-active : (xs ys after : List Observation) {it now : ResizeObserver} {place : ℕ} {y : Observation} {active : Bool} → it ≡ now → active ≡ true → it.active ≡ seen_observations xs → it.targets ≡ seen_observations ys → place < length ys → y ≡ get_or ys place y → after ≡ xs ++ y ∷ [] → record it { active = seen_observations after } ≡ gathered_at place active now
gathered-active xs ys after {it} {now} {place} {y} {active} view is from_active from_targets there read put =
    ap (λ (these : List ModelObservation). record it { active = these })
    (ap seen_observations put ∙ copied-seen xs ys place y there read ∙ ap (λ (these : List ModelObservation). these ++ option_to_list (slice_get (seen_observations ys) place)) (sym from_active) ∙ ap (λ (these : List ModelObservation). it.active ++ option_to_list (slice_get these place)) (sym from_targets))
    ∙ ap (λ b. gathered_at place b it) (sym is)
    ∙ ap (gathered_at place active) view

pub gathered-skipped : (xs ys after : List Observation) {it now : ResizeObserver} {place : ℕ} {y : Observation} {active : Bool} → it ≡ now → active ≡ false → it.skipped ≡ seen_observations xs → it.targets ≡ seen_observations ys → place < length ys → y ≡ get_or ys place y → after ≡ xs ++ y ∷ [] → record it { skipped = seen_observations after } ≡ gathered_at place active now
gathered-skipped xs ys after {it} {now} {place} {y} {active} view is from_skipped from_targets there read put =
    ap (λ (these : List ModelObservation). record it { skipped = these })
    (ap seen_observations put ∙ copied-seen xs ys place y there read ∙ ap (λ (these : List ModelObservation). these ++ option_to_list (slice_get (seen_observations ys) place)) (sym from_skipped) ∙ ap (λ (these : List ModelObservation). it.skipped ++ option_to_list (slice_get these place)) (sym from_targets))
    ∙ ap (λ b. gathered_at place b it) (sym is)
    ∙ ap (gathered_at place active) view
