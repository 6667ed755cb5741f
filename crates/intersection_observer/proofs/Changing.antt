-- One observer read, and changed in its place.
use Rattle.std.proofs.Common.{◌≡◌, ℕ, zero, suc, ◌<◌, ◌+◌, ◌∙◌, ap, refl, sym, subst, get_or, set, length, arith, add-one}
use Rattle.std.specs.Prelude.{true, false, cond, not, ◌==◌, ◌||◌, ◌≤◌, List, [], ◌∷◌, ◌++◌, unwrap_or, None}
use Rattle.std.proofs.lemmas.Bool.{cond-false, false≢true}
use Rattle.std.proofs.lemmas.List.Filters.{length-filter_both}
use Rattle.std.proofs.lemmas.Option.{slice_get_read}
use Rattle.page_model.specs.World.{Registration, IntersectionObserver, IntersectionObservers}
use Rattle.page_model.specs.Lookups.{entry_or, change_at, change_intersection_observer, no_intersection_observer}
use Rattle.page_model.specs.IntersectionObserving.{is_registered, with_registration, without_registration, without_registrations}
use Rattle.intersection_observer.specs.Watchers.{HeldWatchers, watcher_at, once_observed, without_target}

change_at-set : {A : Type 0} (change : A → A) (xs : List A) (place : ℕ) (x : A) → place < length xs → x ≡ get_or xs place x → set xs place (change x) ≡ change_at change place xs
change_at-set change [] place x within is = refl
change_at-set change (y ∷ ys) zero x within is = ap (λ it. change it ∷ ys) is
change_at-set change (y ∷ ys) (suc place) x within is = ap (λ others. y ∷ others) (change_at-set change ys place x (omega arith) is)

-- a place of the fields that is one of the value
pub within : {inside it : HeldWatchers} {place : ℕ} → inside ≡ it → place < length it.part.made → place < length inside.part.made
within {place = place} seen there = subst (λ (these : HeldWatchers). place < length these.part.made) (sym seen) there

-- an observer that is read at a place
pub read : {inside it : HeldWatchers} {place : ℕ} {old : IntersectionObserver} → inside ≡ it → place < length it.part.made → old ≡ get_or inside.part.made place old → old ≡ watcher_at it place
read {inside} {it} {place} {old} seen there is =
    sym (ap (λ found. unwrap_or found no_intersection_observer) (slice_get_read inside.part.made (length inside.part.made) place old refl (within seen there) is)) ∙ ap (λ (these : HeldWatchers). watcher_at these place) seen

pub once_changed :
    (change : IntersectionObserver → IntersectionObserver) {inside it : HeldWatchers} {place : ℕ} {old new : IntersectionObserver} →
    inside ≡ it → place < length it.part.made → old ≡ get_or inside.part.made place old → new ≡ change old →
    record inside { part = record (inside.part) { made = set inside.part.made place new } } ≡ record it { part = change_intersection_observer change place (it.part) }
once_changed change {inside} {it} {place} {old} {new} seen there is same =
    ap (λ (observer : IntersectionObserver). record inside { part = record (inside.part) { made = set inside.part.made place observer } }) same
    ∙ ap (λ (made : List IntersectionObserver). record inside { part = record (inside.part) { made = made } }) (change_at-set change (inside.part.made) place old (within seen there) is)
    ∙ ap (λ (these : HeldWatchers). record these { part = change_intersection_observer change place (these.part) }) seen

-- an observer with one more registration
pub once_registered :
    (n : ℕ) {inside it : HeldWatchers} {place : ℕ} {old new : IntersectionObserver} →
    inside ≡ it → place < length it.part.made → old ≡ get_or inside.part.made place old →
    new ≡ record old { registrations = old.registrations ++ record { serial = inside.part.given; target = n; previous_index = None; met = false } ∷ [] } →
    is_registered n (old.registrations) ≡ false →
    record inside { part = record { given = inside.part.given + 1; made = set inside.part.made place new } } ≡ record it { part = once_observed place n (it.part) }
once_registered n {inside} {it} {place} {old} {new} seen there is same free =
    let change : IntersectionObserver → IntersectionObserver = λ x. record x { registrations = x.registrations ++ record { serial = inside.part.given; target = n; previous_index = None; met = false } ∷ [] } in
    ap (λ (observer : IntersectionObserver). record inside { part = record { given = inside.part.given + 1; made = set inside.part.made place observer } }) same
    ∙ ap (λ (made : List IntersectionObserver). record inside { part = record { given = inside.part.given + 1; made = made } }) (change_at-set change (inside.part.made) place old (within seen there) is)
    ∙ ap (λ (given : ℕ). record inside { part = record { given = given; made = change_at change place (inside.part.made) } }) (add-one inside.part.given)
    ∙ ap (λ (these : HeldWatchers). record these { part = with_registration place n (these.part) }) seen
    ∙ ap (λ (part : IntersectionObservers). record it { part = part })
    (sym (cond-false (is_registered n (watcher_at it place).registrations) (it.part) (with_registration place n (it.part)) (ap (λ (x : IntersectionObserver). is_registered n (x.registrations)) (sym (read seen there is)) ∙ free)))

-- registrations taken out one after the other

pub change_at-twice : {A : Type 0} (f g : A → A) (place : ℕ) (xs : List A) → change_at f place (change_at g place xs) ≡ change_at (λ x. f (g x)) place xs
change_at-twice f g place [] = refl
change_at-twice f g zero (x ∷ xs) = refl
change_at-twice f g (suc place) (x ∷ xs) = ap (λ others. x ∷ others) (change_at-twice f g place xs)

pub cleared_after : (watcher n : ℕ) (it : IntersectionObservers) → without_registrations watcher (without_registration watcher n it) ≡ without_registrations watcher it
cleared_after watcher n it =
    ap (λ (made : List IntersectionObserver). record it { made = made })
    (change_at-twice (λ (each : IntersectionObserver). record each { registrations = [] }) (λ (each : IntersectionObserver). record each { registrations = without_target n (each.registrations) }) watcher (it.made))

cleared_at : (place : ℕ) (made : List IntersectionObserver) → (entry_or no_intersection_observer made place).registrations ≡ [] → change_at (λ (each : IntersectionObserver). record each { registrations = [] }) place made ≡ made
cleared_at place [] none = refl
cleared_at zero (x ∷ xs) none = ap (λ (these : List Registration). record x { registrations = these } ∷ xs) (sym none)
cleared_at (suc place) (x ∷ xs) none = ap (λ others. x ∷ others) (cleared_at place xs none)

-- an observer without registrations needs none taken out
pub cleared_none : (watcher : ℕ) (it : HeldWatchers) → (watcher_at it watcher).registrations ≡ [] → it ≡ record it { part = without_registrations watcher (it.part) }
cleared_none watcher it none = ap (λ (made : List IntersectionObserver). record it { part = record (it.part) { made = made } }) (sym (cleared_at watcher (it.part.made) none))

changed_at : (f : IntersectionObserver → IntersectionObserver) (place : ℕ) (made : List IntersectionObserver) → place < length made → entry_or no_intersection_observer (change_at f place made) place ≡ f (entry_or no_intersection_observer made place)
changed_at f place [] there = absurd (elim there [ ])
changed_at f zero (x ∷ xs) there = refl
changed_at f (suc place) (x ∷ xs) there = changed_at f place xs (omega arith)

without-fewer : (n : ℕ) (xs : List Registration) → length (without_target n xs) ≤ length xs
without-fewer n xs = omega (arith, length-filter_both (λ (each : Registration). not (each.target == n)) (λ (each : Registration). not (not (each.target == n))) (λ _. refl) xs)

without-shorter : (n : ℕ) (xs : List Registration) → is_registered n xs ≡ true → length (without_target n xs) < length xs
without-shorter n [] there = absurd (false≢true there)
without-shorter n (x ∷ xs) there =
    elim (x.target == n) as (λ b. (b || is_registered n xs) ≡ true → length (cond (not b) (x ∷ without_target n xs) (without_target n xs)) < suc (length xs)) [
      | true ↦ λ _. omega (arith, without-fewer n xs)
      | false ↦ λ rest. omega (arith, without-shorter n xs rest)
    ] there

-- one that is there leaves a place
pub once_shorter :
    (n place : ℕ) (was now : HeldWatchers) → now ≡ record was { part = without_registration place n (was.part) } → place < length was.part.made → is_registered n (watcher_at was place).registrations ≡ true →
    length (watcher_at now place).registrations < length (watcher_at was place).registrations
once_shorter n place was now changed there is =
    let same : length (watcher_at now place).registrations ≡ length (without_target n (watcher_at was place).registrations) =
    ap (λ (it : HeldWatchers). length (watcher_at it place).registrations) changed
    ∙ ap (λ (it : IntersectionObserver). length (it.registrations)) (changed_at (λ (each : IntersectionObserver). record each { registrations = without_target n (each.registrations) }) place was.part.made there)
    in omega (arith, same, without-shorter n (watcher_at was place).registrations is)
