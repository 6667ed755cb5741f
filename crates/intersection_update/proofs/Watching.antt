-- Observers whose registrations are of elements that there are and whose entries can be written, through what becomes of them.
use Rattle.std.proofs.Common.{ℕ, zero, suc, ◌<◌, ◌≤◌, arith}
use Rattle.std.specs.Prelude.{Bool, true, false, cond, not, ◌==◌, List, [], ◌∷◌, ◌++◌, map, filter, filter_map, Option, Some, None}
use Rattle.std.specs.List.{AllByRecursion, cons_option}
use Rattle.px_units.specs.declared.Rect.{Rect}
use Rattle.script_model.specs.Margins.{Margins}
use Rattle.trace_text.specs.Ranges.{RectReaches}
use Rattle.page_model.specs.World.{Finding, Entry, Registration, Root, IntersectionObserver, IntersectionObservers}
use Rattle.page_model.specs.Lookups.{entry_or, change_at, no_intersection_observer, intersection_observer_at}
use Rattle.page_model.specs.IntersectionObserving.{is_registered, with_intersection_observer, with_registration, without_registration, without_queue}
use Rattle.page_model.specs.Intersections.{Settled, settled, is_news}
use Rattle.intersection_observer.specs.Places.{Standing, standing_of}
use Rattle.intersection_observer.specs.Settling.{settled_if, settled_at, settled_standing, with_settled}
use Rattle.intersection_observer.specs.Watchers.{once_observed}
use Rattle.intersection_observer.specs.Serials.{registrations_at}
use Rattle.page_geometry.specs.Ranges.{IsRectReached, IsReached}
use Rattle.intersection_update.specs.Watching.{IsWritten, AreWritten, IsWatcher, AreWatchers}

all_weaker : {A : Type 0} (P Q : A → Type 0) → ((x : A) → P x → Q x) → (xs : List A) → AllByRecursion P xs → AllByRecursion Q xs
all_weaker P Q each [] all = tt
all_weaker P Q each (x ∷ xs) all = (each x (all.0), all_weaker P Q each xs (all.1))

all_append : {A : Type 0} (P : A → Type 0) (xs ys : List A) → AllByRecursion P xs → AllByRecursion P ys → AllByRecursion P (xs ++ ys)
all_append P [] ys left right = right
all_append P (x ∷ xs) ys left right = (left.0, all_append P xs ys (left.1) right)

all_filter : {A : Type 0} (P : A → Type 0) (test : A → Bool) (xs : List A) → AllByRecursion P xs → AllByRecursion P (filter test xs)
all_filter P test [] all = tt
all_filter P test (x ∷ xs) all =
    elim (test x) as (λ is. AllByRecursion P (cond is (x ∷ filter test xs) (filter test xs))) [
      | true ↦ (all.0, all_filter P test xs (all.1))
      | false ↦ all_filter P test xs (all.1)
    ]

reaches : (r : Rect) → IsRectReached r → RectReaches r
reaches r is = record { edges = is.edges; width = is.width; height = is.height }

abbrev IsIn : ℕ → Registration → Type 0
IsIn elements registration = registration.target < elements

module _ (elements : ℕ) where
  -- one observer changed
  pub kept_at : (change : IntersectionObserver → IntersectionObserver) → ((x : IntersectionObserver) → IsWatcher elements x → IsWatcher elements (change x)) → (place : ℕ) (made : List IntersectionObserver) →
      AreWatchers elements made → AreWatchers elements (change_at change place made)
  kept_at change each place [] are = tt
  kept_at change each zero (x ∷ xs) are = (each x (are.0), are.1)
  kept_at change each (suc place) (x ∷ xs) are = (are.0, kept_at change each place xs (are.1))

  -- one more observer
  pub kept_made : (document : ℕ) (handler : Option ℕ) (root : Root) (margins : Margins) (thresholds : List ℕ) (it : IntersectionObservers) →
      AreWatchers elements it.made → AreWatchers elements (with_intersection_observer document handler root margins thresholds it).made
  kept_made document handler root margins thresholds it are =
      all_append (IsWatcher elements) (it.made)
      (record { document = document; handler = handler; root = root; margins = margins; thresholds = thresholds; registrations = []; queue = [] } ∷ [])
      are (record { registrations = tt; queue = tt }, tt)

  -- one more registration, of an element that there is
  pub kept_registered : (watcher n : ℕ) (it : IntersectionObservers) → n < elements → AreWatchers elements it.made → AreWatchers elements (with_registration watcher n it).made
  kept_registered watcher n it is are =
      kept_at (λ (each : IntersectionObserver). record each { registrations = each.registrations ++ record { serial = it.given; target = n; previous_index = None; met = false } ∷ [] })
      (λ x was. record { registrations = all_append (IsIn elements) (x.registrations) (record { serial = it.given; target = n; previous_index = None; met = false } ∷ []) was.registrations (is, tt); queue = was.queue })
      watcher (it.made) are

  pub kept_observed : (watcher n : ℕ) (it : IntersectionObservers) → n < elements → AreWatchers elements it.made → AreWatchers elements (once_observed watcher n it).made
  kept_observed watcher n it is are =
      elim (is_registered n (registrations_at it watcher)) as (λ there. AreWatchers elements (cond there it (with_registration watcher n it)).made) [
        | true ↦ are
        | false ↦ kept_registered watcher n it is are
      ]

  -- registrations taken out, which leaves the queue
  pub kept_unregistered : (watcher n : ℕ) (it : IntersectionObservers) → AreWatchers elements it.made → AreWatchers elements (without_registration watcher n it).made
  kept_unregistered watcher n it are =
      kept_at (λ (each : IntersectionObserver). record each { registrations = filter (λ (registration : Registration). not (registration.target == n)) (each.registrations) })
      (λ x was. record { registrations = all_filter (IsIn elements) (λ (registration : Registration). not (registration.target == n)) (x.registrations) was.registrations; queue = was.queue })
      watcher (it.made) are

  -- a queue taken out
  pub kept_taken : (watcher : ℕ) (it : IntersectionObservers) → AreWatchers elements it.made → AreWatchers elements (without_queue watcher it).made
  kept_taken watcher it are =
      kept_at (λ (each : IntersectionObserver). record each { queue = [] }) (λ x was. record { registrations = was.registrations; queue = tt }) watcher (it.made) are

  -- an observer by its number: one that isn't there has no entries
  pub watcher_there : (made : List IntersectionObserver) (watcher : ℕ) → AreWatchers elements made → IsWatcher elements (entry_or no_intersection_observer made watcher)
  watcher_there [] watcher are = record { registrations = tt; queue = tt }
  watcher_there (x ∷ xs) zero are = are.0
  watcher_there (x ∷ xs) (suc watcher) are = watcher_there xs watcher (are.1)

  pub queue_written : (watcher : ℕ) (it : IntersectionObservers) → AreWatchers elements it.made → AreWritten elements (intersection_observer_at it watcher).queue
  queue_written watcher it are = (watcher_there (it.made) watcher are).queue

  -- one registration settled
  settled_targets : (n time : ℕ) (now : Finding) (xs : List Registration) → AllByRecursion (IsIn elements) xs → AllByRecursion (IsIn elements) (map (λ (it : Settled). it.registration) (map (settled_if n time now) xs))
  settled_targets n time now [] are = tt
  settled_targets n time now (x ∷ xs) are =
      elim (x.target == n) as (λ is. AllByRecursion (IsIn elements) ((cond is (settled time now x) (record { registration = x; entry = None })).registration ∷ map (λ (it : Settled). it.registration) (map (settled_if n time now) xs))) [
        | true ↦ (are.0, settled_targets n time now xs (are.1))
        | false ↦ (are.0, settled_targets n time now xs (are.1))
      ]

  entry_added : (entry : Entry) (news : Bool) (others : List Entry) → IsWritten elements entry → AreWritten elements others → AreWritten elements (cons_option (cond news (Some entry) None) others)
  entry_added entry true others is are = (is, are)
  entry_added entry false others is are = are

  settled_entries : (n time : ℕ) (now : Finding) → IsReached now → (xs : List Registration) → AllByRecursion (IsIn elements) xs → AreWritten elements (filter_map (λ (it : Settled). it.entry) (map (settled_if n time now) xs))
  settled_entries n time now reached [] are = tt
  settled_entries n time now reached (x ∷ xs) are =
      let others : AreWritten elements (filter_map (λ (it : Settled). it.entry) (map (settled_if n time now) xs)) = settled_entries n time now reached xs (are.1) in
      let entry : Entry = record { target = x.target; time = time; finding = now } in
      let written : IsWritten elements entry = record { target = are.0; root = reaches (now.root) reached.root; bounds = reaches (now.bounds) reached.bounds; cut = reaches (now.cut) reached.cut } in
      elim (x.target == n) as (λ is. AreWritten elements (cons_option (cond is (settled time now x) (record { registration = x; entry = None })).entry (filter_map (λ (it : Settled). it.entry) (map (settled_if n time now) xs)))) [
        | true ↦ entry_added entry (is_news x now) (filter_map (λ (it : Settled). it.entry) (map (settled_if n time now) xs)) written others
        | false ↦ others
      ]

  settled_watcher : (n time : ℕ) (now : Finding) → IsReached now → (x : IntersectionObserver) → IsWatcher elements x → IsWatcher elements (settled_at n time now x)
  settled_watcher n time now reached x was = record {
    registrations = settled_targets n time now (x.registrations) was.registrations;
    queue = all_append (IsWritten elements) (x.queue) (filter_map (λ (it : Settled). it.entry) (map (settled_if n time now) (x.registrations))) was.queue (settled_entries n time now reached (x.registrations) was.registrations);
  }

  standing_settled : (standing : Option Standing) (time : ℕ) (now : Finding) (it : IntersectionObservers) → IsReached now → AreWatchers elements it.made → AreWatchers elements (settled_standing standing time now it).made
  standing_settled None time now it reached are = are
  standing_settled (Some standing) time now it reached are = kept_at (settled_at (standing.target) time now) (settled_watcher (standing.target) time now reached) (standing.watcher) (it.made) are

  pub kept_settled : (serial time : ℕ) (now : Finding) (it : IntersectionObservers) → IsReached now → AreWatchers elements it.made → AreWatchers elements (with_settled serial time now it).made
  kept_settled serial time now it reached are = standing_settled (standing_of serial it) time now it reached are

-- more elements
pub kept_grown : (elements more : ℕ) → elements ≤ more → (made : List IntersectionObserver) → AreWatchers elements made → AreWatchers more made
kept_grown elements more grown made are = all_weaker (IsWatcher elements) (IsWatcher more) each made are
  where
    written : (entry : Entry) → IsWritten elements entry → IsWritten more entry
    written entry is = record { target = omega (arith, is.target, grown); root = is.root; bounds = is.bounds; cut = is.cut }

    in_more : (x : Registration) → IsIn elements x → IsIn more x
    in_more x is = omega (arith, is, grown)

    each : (x : IntersectionObserver) → IsWatcher elements x → IsWatcher more x
    each x is = record {
      registrations = all_weaker (IsIn elements) (IsIn more) in_more (x.registrations) is.registrations;
      queue = all_weaker (IsWritten elements) (IsWritten more) written (x.queue) is.queue;
    }
