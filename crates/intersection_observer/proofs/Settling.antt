-- Registrations settled one after the other, and an observer settled at once.
use Rattle.std.proofs.Common.{◌≡◌, ℕ, zero, suc, ◌∙◌, ap, refl, sym, subst, set, length, append_assoc, append-nil}
use Rattle.std.specs.Prelude.{Bool, true, false, cond, ◌==◌, ◌&&◌, ◌||◌, nat_eq, List, [], ◌∷◌, ◌++◌, map, filter_map, All, Option, Some, None, option_map, option_to_list}
use Rattle.std.specs.Option.{option_or}
use Rattle.std.specs.List.{IsDistinct, AllByRecursion, cons_option}
use Rattle.std.proofs.lemmas.Bool.{eq-eqb}
use Rattle.std.proofs.lemmas.List.Elements.{All-head, All-tail, All-weaker}
use Rattle.page_model.specs.World.{Finding, Entry, Registration, IntersectionObserver, IntersectionObservers}
use Rattle.page_model.specs.Lookups.{entry_or, no_intersection_observer, change_at, intersection_observer_at, change_intersection_observer}
use Rattle.page_model.specs.Intersections.{Settled, is_news, settled, settled_observer, settling}
use Rattle.intersection_observer.specs.Places.{Standing, target_in, standing_from, standing_of}
use Rattle.intersection_observer.specs.Serials.{HasSerials, IsFound, targets_of, registrations_at}
use Rattle.intersection_observer.specs.Settling.{settled_if, settled_at, settled_standing, with_settled, each_settled, all_settled, is_news_of, is_news_at, is_news_for}
use Rattle.intersection_observer.proofs.Only.{NoneFor, IsOnly, settled-only, quiet-registration, quiet-entry}
use Rattle.intersection_observer.proofs.Standing.{registrations_in}
use Rattle.intersection_observer.proofs.Subjects.{subjects_of, same-target_in, same-all, same-targets, settled-subjects, none_of}
use Rattle.intersection_observer.proofs.Changing.{change_at-twice}

-- one observer, by targets ------------------------------------------------------------------------------------------------------

settled_in_turn : ℕ → (ℕ → Finding) → List Registration → IntersectionObserver → IntersectionObserver
settled_in_turn time find [] observer = observer
settled_in_turn time find (x ∷ xs) observer = settled_in_turn time find xs (settled_at (x.target) time (find (x.target)) observer)

-- no registration for a target of those to come is among those that are done
Fresh : List Registration → List Registration → Type 0
Fresh done [] = Unit {0}
Fresh done (x ∷ xs) = NoneFor (x.target) done × Fresh done xs

none-push : (n : ℕ) (xs : List Registration) (new : Registration) → NoneFor n xs → (new.target == n) ≡ false → NoneFor n (xs ++ new ∷ [])
none-push n [] new none other = (other, tt)
none-push n (x ∷ xs) new none other = (none.0, none-push n xs new (none.1) other)

fresh-push : (done xs : List Registration) (new : Registration) → Fresh done xs → AllByRecursion (λ other. nat_eq (new.target) other ≡ false) (targets_of xs) → Fresh (done ++ new ∷ []) xs
unfolding Fresh
fresh-push done [] new fresh apart = tt
fresh-push done (x ∷ xs) new fresh apart = (none-push (x.target) done new (fresh.0) (apart.0), fresh-push done xs new (fresh.1) (apart.1))

only-behind : (n : ℕ) (done : List Registration) (it : Registration) (xs : List Registration) → NoneFor n done → IsOnly n 0 it (it ∷ xs) → IsOnly n (length done) it (done ++ it ∷ xs)
only-behind n [] it xs none only = only
only-behind n (x ∷ done) it xs none only = (none.0, only-behind n done it xs (none.1) only)

set-behind : (done : List Registration) (old new : Registration) (xs : List Registration) → set (done ++ old ∷ xs) (length done) new ≡ (done ++ new ∷ []) ++ xs
set-behind [] old new xs = refl
set-behind (x ∷ done) old new xs = ap (λ others. x ∷ others) (set-behind done old new xs)

-- what is settled of registrations at once
abbrev each_of : ℕ → (ℕ → Finding) → List Registration → List Settled
each_of time find xs = map (λ (it : Registration). settled time (find (it.target)) it) xs

abbrev registrations_of : List Settled → List Registration
registrations_of each = map (λ (it : Settled). it.registration) each

abbrev entries_of : List Settled → List Entry
entries_of each = filter_map (λ (it : Settled). it.entry) each

cons-entry : (entry : Option Entry) (before others : List Entry) → (before ++ option_to_list entry) ++ others ≡ before ++ cons_option entry others
cons-entry None before others = append_assoc before [] others
cons-entry (Some x) before others = append_assoc before (x ∷ []) others

in_turn : (time : ℕ) (find : ℕ → Finding) (done xs : List Registration) (queue : List Entry) (observer : IntersectionObserver) → IsDistinct nat_eq (targets_of xs) → Fresh done xs
    → settled_in_turn time find xs (record observer { registrations = done ++ xs; queue = queue })
    ≡ record observer { registrations = done ++ registrations_of (each_of time find xs); queue = queue ++ entries_of (each_of time find xs) }
unfolding settled_in_turn Fresh IsDistinct
in_turn time find done [] queue observer distinct fresh = ap (λ (these : List Entry). record observer { registrations = done ++ []; queue = these }) (sym (append-nil queue))
in_turn time find done (x ∷ xs) queue observer distinct fresh =
    let now : Finding = find (x.target) in
    let new : Registration = (settled time now x).registration in
    let entry : Option Entry = (settled time now x).entry in
    let only : IsOnly (x.target) (length done) x (done ++ x ∷ xs) =
    only-behind (x.target) done x xs (fresh.0) (refl, eq-eqb (x.target) (x.target) refl, none_of (x.target) (x.target) xs (distinct.0) refl)
    in
    ap (settled_in_turn time find xs)
    (sym (settled-only (x.target) time (length done) now x (record observer { registrations = done ++ x ∷ xs; queue = queue }) only)
    ∙ ap (λ (these : List Registration). record observer { registrations = these; queue = queue ++ option_to_list entry }) (set-behind done x new xs))
    ∙ in_turn time find (done ++ new ∷ []) xs (queue ++ option_to_list entry) observer (distinct.1) (fresh-push done xs new (fresh.1) (distinct.0))
    ∙ ap (λ (these : List Registration). record observer { registrations = these; queue = (queue ++ option_to_list entry) ++ entries_of (each_of time find xs) }) (append_assoc done (new ∷ []) (registrations_of (each_of time find xs)))
    ∙ ap (λ (these : List Entry). record observer { registrations = done ++ new ∷ registrations_of (each_of time find xs); queue = these }) (cons-entry entry queue (entries_of (each_of time find xs)))

fresh_all : (xs : List Registration) → Fresh [] xs
unfolding Fresh
fresh_all [] = tt
fresh_all (x ∷ xs) = (tt, fresh_all xs)

settled_whole : (time : ℕ) (find : IntersectionObserver → ℕ → Finding) (observer : IntersectionObserver) → IsDistinct nat_eq (targets_of (observer.registrations)) → settled_in_turn time (find observer) (observer.registrations) observer ≡ settled_observer time find observer
settled_whole time find observer distinct = in_turn time (find observer) [] (observer.registrations) (observer.queue) observer distinct (fresh_all (observer.registrations))

-- among all observers, by serial numbers -----------------------------------------------------------------------------------------

abbrev pub KeepsSubjects : (IntersectionObserver → IntersectionObserver) → Type 0
KeepsSubjects change = (observer : IntersectionObserver) → subjects_of (change observer).registrations ≡ subjects_of (observer.registrations)

pub standing-changed : (change : IntersectionObserver → IntersectionObserver) → KeepsSubjects change → (serial watcher place : ℕ) (made : List IntersectionObserver) → standing_from serial watcher (change_at change place made) ≡ standing_from serial watcher made
standing-changed change keeps serial watcher place [] = refl
standing-changed change keeps serial watcher zero (x ∷ xs) =
    ap (λ found. option_or (option_map (λ target. record { watcher = watcher; target = target }) found) (standing_from serial (suc watcher) xs)) (same-target_in serial (change x).registrations (x.registrations) (keeps x))
standing-changed change keeps serial watcher (suc place) (x ∷ xs) =
    ap (option_or (option_map (λ target. record { watcher = watcher; target = target }) (target_in serial (x.registrations)))) (standing-changed change keeps serial (suc watcher) place xs)

pub settled-keeps : (n time : ℕ) (now : Finding) → KeepsSubjects (settled_at n time now)
settled-keeps n time now observer = settled-subjects n time now (observer.registrations)

unchanged : (place : ℕ) (made : List IntersectionObserver) → change_at (λ (it : IntersectionObserver). it) place made ≡ made
unchanged place [] = refl
unchanged zero (x ∷ xs) = refl
unchanged (suc place) (x ∷ xs) = ap (λ others. x ∷ others) (unchanged place xs)

each-in_turn : (time : ℕ) (find : ℕ → Finding) (watcher : ℕ) (xs : List Registration) (it : IntersectionObservers) → All (IsFound it watcher) xs
    → each_settled time find xs it ≡ change_intersection_observer (settled_in_turn time find xs) watcher it
unfolding settled_in_turn
each-in_turn time find watcher [] it found = ap (λ (made : List IntersectionObserver). record it { made = made }) (sym (unchanged watcher (it.made)))
each-in_turn time find watcher (x ∷ xs) it found =
    let now : Finding = find (x.target) in
    let change : IntersectionObserver → IntersectionObserver = settled_at (x.target) time now in
    let next : IntersectionObservers = change_intersection_observer change watcher it in
    let rest : All (IsFound next watcher) xs =
    All-weaker (IsFound it watcher) (IsFound next watcher) (λ each at. standing-changed change (settled-keeps (x.target) time now) (each.serial) 0 watcher (it.made) ∙ at) xs (All-tail (IsFound it watcher) x xs found)
    in
    ap (λ standing. each_settled time find xs (settled_standing standing time now it)) (All-head (IsFound it watcher) x xs found)
    ∙ each-in_turn time find watcher xs next rest
    ∙ ap (λ (made : List IntersectionObserver). record it { made = made }) (change_at-twice (settled_in_turn time find xs) change watcher (it.made))

-- the observer as it is found
changed_same : (f g : IntersectionObserver → IntersectionObserver) (place : ℕ) (made : List IntersectionObserver) → f (entry_or no_intersection_observer made place) ≡ g (entry_or no_intersection_observer made place) → change_at f place made ≡ change_at g place made
changed_same f g place [] same = refl
changed_same f g zero (x ∷ xs) same = ap (λ (it : IntersectionObserver). it ∷ xs) same
changed_same f g (suc place) (x ∷ xs) same = ap (λ others. x ∷ others) (changed_same f g place xs same)

pub observer_settled : (time : ℕ) (find : IntersectionObserver → ℕ → Finding) (watcher : ℕ) (it : IntersectionObservers) → HasSerials it
    → each_settled time (find (intersection_observer_at it watcher)) (registrations_at it watcher) it ≡ change_intersection_observer (settled_observer time find) watcher it
observer_settled time find watcher it serials =
    let observer : IntersectionObserver = intersection_observer_at it watcher in
    each-in_turn time (find observer) watcher (observer.registrations) it (serials.found watcher)
    ∙ ap (λ (made : List IntersectionObserver). record it { made = made })
    (changed_same (settled_in_turn time (find observer) (observer.registrations)) (settled_observer time find) watcher (it.made) (settled_whole time find observer (serials.targets watcher)))

-- several observers ---------------------------------------------------------------------------------------------------------------

subjects-changed : (change : IntersectionObserver → IntersectionObserver) → KeepsSubjects change → (place : ℕ) (made : List IntersectionObserver) (k : ℕ) → subjects_of (registrations_in (change_at change place made) k) ≡ subjects_of (registrations_in made k)
subjects-changed change keeps place [] k = refl
subjects-changed change keeps zero (x ∷ xs) zero = keeps x
subjects-changed change keeps zero (x ∷ xs) (suc k) = refl
subjects-changed change keeps (suc place) (x ∷ xs) zero = refl
subjects-changed change keeps (suc place) (x ∷ xs) (suc k) = subjects-changed change keeps place xs k

pub serials-changed : (change : IntersectionObserver → IntersectionObserver) → KeepsSubjects change → (place : ℕ) (it : IntersectionObservers) → HasSerials it → HasSerials (change_intersection_observer change place it)
serials-changed change keeps place it was =
    let now : IntersectionObservers = change_intersection_observer change place it in
    let same : (k : ℕ) → subjects_of (registrations_at now k) ≡ subjects_of (registrations_at it k) = subjects-changed change keeps place (it.made) in
    record {
      found =
          λ watcher.
          same-all (λ each. standing_of (each.0) now ≡ Some (record { watcher = watcher; target = each.1 })) (registrations_at now watcher) (registrations_at it watcher) (same watcher)
          (All-weaker (IsFound it watcher) (IsFound now watcher) (λ each at. standing-changed change keeps (each.serial) 0 place (it.made) ∙ at) (registrations_at it watcher) (was.found watcher));
      fresh = λ serial above. standing-changed change keeps serial 0 place (it.made) ∙ was.fresh serial above;
      targets = λ watcher. subst (IsDistinct nat_eq) (sym (same-targets (registrations_at now watcher) (registrations_at it watcher) (same watcher))) (was.targets watcher);
    }

whole-subjects : (time : ℕ) (find : ℕ → Finding) (xs : List Registration) → subjects_of (registrations_of (each_of time find xs)) ≡ subjects_of xs
whole-subjects time find [] = refl
whole-subjects time find (x ∷ xs) = ap (λ others. (x.serial, x.target) ∷ others) (whole-subjects time find xs)

pub observers_settled : (time : ℕ) (find : ℕ → IntersectionObserver → ℕ → Finding) (watchers : List ℕ) (it : IntersectionObservers) → HasSerials it
    → all_settled time find watchers it ≡ settling time find watchers it
observers_settled time find [] it serials = refl
observers_settled time find (watcher ∷ watchers) it serials =
    ap (all_settled time find watchers) (observer_settled time (find watcher) watcher it serials)
    ∙ observers_settled time find watchers (change_intersection_observer (settled_observer time (find watcher)) watcher it)
    (serials-changed (settled_observer time (find watcher)) (λ observer. whole-subjects time (find watcher observer) (observer.registrations)) watcher it serials)

-- no news -------------------------------------------------------------------------------------------------------------------------

quiet-one : (time : ℕ) (now : Finding) (x : Registration) (is news others : Bool) → is_news x now ≡ news → (is && news || others) ≡ false
    → ((cond is (settled time now x) (record { registration = x; entry = None })).registration ≡ x) × ((cond is (settled time now x) (record { registration = x; entry = None })).entry ≡ None) × (others ≡ false)
quiet-one time now x true true others its none = cc
quiet-one time now x true false others its none = (quiet-registration time now x its, quiet-entry time now x its, none)
quiet-one time now x false news others its none = (refl, refl, none)

quiet-registrations : (n time : ℕ) (now : Finding) (xs : List Registration) → is_news_of n now xs ≡ false → registrations_of (map (settled_if n time now) xs) ≡ xs
quiet-registrations n time now [] none = refl
quiet-registrations n time now (x ∷ xs) none =
    let one = quiet-one time now x (x.target == n) (is_news x now) (is_news_of n now xs) refl none in
    ap (λ (it : Registration). it ∷ registrations_of (map (settled_if n time now) xs)) (one.0) ∙ ap (λ others. x ∷ others) (quiet-registrations n time now xs (one.2))

quiet-entries : (n time : ℕ) (now : Finding) (xs : List Registration) → is_news_of n now xs ≡ false → entries_of (map (settled_if n time now) xs) ≡ []
quiet-entries n time now [] none = refl
quiet-entries n time now (x ∷ xs) none =
    let one = quiet-one time now x (x.target == n) (is_news x now) (is_news_of n now xs) refl none in
    ap (λ (entry : Option Entry). cons_option entry (entries_of (map (settled_if n time now) xs))) (one.1) ∙ quiet-entries n time now xs (one.2)

quiet-at : (n time : ℕ) (now : Finding) (observer : IntersectionObserver) → is_news_of n now (observer.registrations) ≡ false → settled_at n time now observer ≡ observer
quiet-at n time now observer none =
    ap (λ (these : List Registration). record observer { registrations = these; queue = observer.queue ++ entries_of (map (settled_if n time now) (observer.registrations)) }) (quiet-registrations n time now (observer.registrations) none)
    ∙ ap (λ (these : List Entry). record observer { queue = observer.queue ++ these }) (quiet-entries n time now (observer.registrations) none)
    ∙ ap (λ (these : List Entry). record observer { queue = these }) (append-nil (observer.queue))

quiet-standing : (standing : Option Standing) (time : ℕ) (now : Finding) (it : IntersectionObservers) → is_news_at standing now it ≡ false → settled_standing standing time now it ≡ it
quiet-standing None time now it none = refl
quiet-standing (Some standing) time now it none =
    ap (λ (made : List IntersectionObserver). record it { made = made })
    (changed_same (settled_at (standing.target) time now) (λ (each : IntersectionObserver). each) (standing.watcher) (it.made) (quiet-at (standing.target) time now (intersection_observer_at it (standing.watcher)) none)
    ∙ unchanged (standing.watcher) (it.made))

pub quiet_settled : (serial time : ℕ) (now : Finding) (it : IntersectionObservers) → is_news_for serial now it ≡ false → with_settled serial time now it ≡ it
quiet_settled serial time now it none = quiet-standing (standing_of serial it) time now it none
