-- What an update comes to, registration by registration.
use Rattle.std.proofs.Common.{◌≡◌, ◌∙◌, ℕ, zero, suc, ◌+◌, Bool, true, false, cond, List, [], ◌∷◌, ◌++◌, map, ap, refl, sym, subst, arith}
use Rattle.std.specs.Prelude.{◌==◌, nat_eq, slice_get, count_by, filter_map, Some, None, option_map}
use Rattle.std.specs.List.{IsDistinct, AllByRecursion, cons_option}
use Rattle.std.proofs.lemmas.Bool.{eqb-true, eq-eqb, false≢true}
use Rattle.std.proofs.lemmas.List.Sums.{sum_by-cons, sum_by-append}
use Rattle.std.proofs.lemmas.Option.{same_Some}
use Rattle.script_model.specs.Margins.{Margins}
use Rattle.page_model.specs.Shown.{Shown}
use Rattle.page_model.specs.World.{Finding, Entry, Registration, IntersectionObserver, IntersectionObservers}
use Rattle.page_model.specs.Lookups.{entry_or, no_intersection_observer, intersection_observer_at}
use Rattle.page_model.specs.Intersections.{Settled, is_rooted_in, watchers, is_news, settled, settled_observer}
use Rattle.intersection_observer.specs.Serials.{HasSerials, registrations_at, targets_of}
use Rattle.intersection_update.specs.Updating.{found_through, updated, settled_if_rooted, is_of, IsSettledBy}
use Rattle.intersection_update.proofs.Lists.{map_from, each_place}
use Rattle.intersection_update.proofs.Updates.{in_turn}

module _ (time : ℕ) (find : ℕ → Finding) where
  abbrev each : List Registration → List Settled
  each xs = map (λ (it : Registration). settled time (find (it.target)) it) xs

  abbrev entries : List Registration → List Entry
  entries xs = filter_map (λ (it : Settled). it.entry) (each xs)

  abbrev stored_of : Registration → Registration
  stored_of x = (settled time (find (x.target)) x).registration

  stored : (xs : List Registration) (k : ℕ) (x : Registration) → slice_get xs k ≡ Some x → slice_get (map (λ (it : Settled). it.registration) (each xs)) k ≡ Some (stored_of x)
  stored [] k x is = cc
  stored (y ∷ ys) zero x is = ap (option_map stored_of) is
  stored (y ∷ ys) (suc k) x is = stored ys k x is

  -- how many entries are of a target
  abbrev count : ℕ → List Entry → ℕ
  count target these = count_by (is_of target) these

  one_more : (target : ℕ) (news : Bool) (entry : Entry) (these : List Entry) → (target == entry.target) ≡ true → count target (cons_option (cond news (Some entry) None) these) ≡ count target these + cond news 1 0
  one_more target true entry these is =
      sum_by-cons (λ e. cond (is_of target e) 1 0) entry these ∙ ap (λ b. cond b 1 0 + count target these) is ∙ omega arith
  one_more target false entry these is = omega arith

  no_more : (target : ℕ) (news : Bool) (entry : Entry) (these : List Entry) → (target == entry.target) ≡ false → count target (cons_option (cond news (Some entry) None) these) ≡ count target these
  no_more target true entry these is = sum_by-cons (λ e. cond (is_of target e) 1 0) entry these ∙ ap (λ b. cond b 1 0 + count target these) is ∙ omega arith
  no_more target false entry these is = refl

  abbrev entry_of : Registration → Entry
  entry_of x = record { target = x.target; time = time; finding = find (x.target) }

  none_of : (target : ℕ) (xs : List Registration) → AllByRecursion (λ other. nat_eq target other ≡ false) (targets_of xs) → count target (entries xs) ≡ 0
  none_of target [] apart = refl
  none_of target (x ∷ xs) apart = no_more target (is_news x (find (x.target))) (entry_of x) (entries xs) (apart.0) ∙ none_of target xs (apart.1)

  apart_at : (target : ℕ) (xs : List Registration) (k : ℕ) (x : Registration) → AllByRecursion (λ other. nat_eq target other ≡ false) (targets_of xs) → slice_get xs k ≡ Some x → (x.target == target) ≡ false
  apart_at target [] k x apart is = cc
  apart_at target (y ∷ ys) zero x apart is = ap (λ (r : Registration). r.target == target) (sym (same_Some y x is)) ∙ swapped target y.target (apart.0)
    where
      by_test : (a b : ℕ) (t : Bool) → (b == a) ≡ t → (a == b) ≡ false → t ≡ false
      by_test a b true e f = absurd (false≢true (sym f ∙ eq-eqb a b (sym (eqb-true b a e))))
      by_test a b false e f = refl

      swapped : (a b : ℕ) → (a == b) ≡ false → (b == a) ≡ false
      swapped a b f = by_test a b (b == a) refl f
  apart_at target (y ∷ ys) (suc k) x apart is = apart_at target ys k x (apart.1) is

  from_none : (n : ℕ) → 0 + n ≡ n
  from_none n = omega arith

  own : (xs : List Registration) (k : ℕ) (x : Registration) → IsDistinct nat_eq (targets_of xs) → slice_get xs k ≡ Some x → count (x.target) (entries xs) ≡ cond (is_news x (find (x.target))) 1 0
  unfolding IsDistinct
  own [] k x distinct is = cc
  own (y ∷ ys) zero x distinct is =
      let same : y ≡ x = same_Some y x is in
      ap (λ (r : Registration). count (r.target) (entries (y ∷ ys))) (sym same)
      ∙ one_more y.target (is_news y (find (y.target))) (entry_of y) (entries ys) (eq-eqb y.target y.target refl)
      ∙ ap (λ n. n + cond (is_news y (find (y.target))) 1 0) (none_of y.target ys (distinct.0))
      ∙ from_none (cond (is_news y (find (y.target))) 1 0)
      ∙ ap (λ (r : Registration). cond (is_news r (find (r.target))) 1 0) same
  own (y ∷ ys) (suc k) x distinct is =
      no_more x.target (is_news y (find (y.target))) (entry_of y) (entries ys) (apart_at y.target ys k x (distinct.0) is) ∙ own ys k x (distinct.1) is

  settled_by : (observer : IntersectionObserver) (k : ℕ) (x : Registration) → IsDistinct nat_eq (targets_of (observer.registrations)) → slice_get (observer.registrations) k ≡ Some x →
      IsSettledBy (find (x.target)) x k observer
      (record observer { registrations = map (λ (it : Settled). it.registration) (each (observer.registrations)); queue = observer.queue ++ entries (observer.registrations) })
  settled_by observer k x distinct is = record {
    stored = stored (observer.registrations) k x is;
    entries =
        sum_by-append (λ e. cond (is_of x.target e) 1 0) (observer.queue) (entries (observer.registrations))
        ∙ ap (λ n. count x.target (observer.queue) + n) (own (observer.registrations) k x distinct is);
  }

mapped : {A : Type 0} (default : A) (change : ℕ → A → A) → ((n : ℕ) → change n default ≡ default) → (number first k : ℕ) (xs : List A) → number ≡ first + k
    → entry_or default (map_from first change xs) k ≡ change number (entry_or default xs k)
mapped default change same number first k [] is = sym (same number)
mapped default change same number first zero (x ∷ xs) is = ap (λ n. change n x) (let here : first ≡ number = omega (arith, is) in here)
mapped default change same number first (suc k) (x ∷ xs) is = mapped default change same number (suc first) k xs (omega (arith, is))

module _ (shown : Shown) (margins : List Margins) (document time : ℕ) where
  none_left : (watcher : ℕ) (is : Bool) → cond is (settled_observer time (found_through shown margins watcher) no_intersection_observer) no_intersection_observer ≡ no_intersection_observer
  none_left watcher true = refl
  none_left watcher false = refl

  updated_at : (watcher : ℕ) (it : IntersectionObservers) → intersection_observer_at (updated shown margins shown.tree document time it) watcher ≡ settled_if_rooted shown margins shown.tree document time watcher (intersection_observer_at it watcher)
  updated_at watcher it =
      ap (λ (now : IntersectionObservers). intersection_observer_at now watcher) (in_turn shown margins time (watchers shown.tree document it) it)
      ∙ ap (λ (made : List IntersectionObserver). entry_or no_intersection_observer made watcher)
      (each_place no_intersection_observer (λ (x : IntersectionObserver). is_rooted_in shown.tree document x.root) (λ n. settled_observer time (found_through shown margins n)) (it.made))
      ∙ mapped no_intersection_observer (settled_if_rooted shown margins shown.tree document time) (λ n. none_left n (is_rooted_in shown.tree document no_intersection_observer.root)) watcher 0 watcher (it.made) (omega arith)

  pub settled_each : (watcher place : ℕ) (registration : Registration) (it : IntersectionObservers) → HasSerials it → is_rooted_in shown.tree document (intersection_observer_at it watcher).root ≡ true →
      slice_get (registrations_at it watcher) place ≡ Some registration →
      IsSettledBy (found_through shown margins watcher (intersection_observer_at it watcher) registration.target) registration place (intersection_observer_at it watcher) (intersection_observer_at (updated shown margins shown.tree document time it) watcher)
  settled_each watcher place registration it serials rooted at =
      let observer : IntersectionObserver = intersection_observer_at it watcher in
      subst (IsSettledBy (found_through shown margins watcher observer registration.target) registration place observer)
      (sym (updated_at watcher it ∙ ap (λ is. cond is (settled_observer time (found_through shown margins watcher) observer) observer) rooted))
      (settled_by time (found_through shown margins watcher observer) observer place registration (serials.targets watcher) at)

  pub others_left : (watcher : ℕ) (it : IntersectionObservers) → is_rooted_in shown.tree document (intersection_observer_at it watcher).root ≡ false →
      intersection_observer_at (updated shown margins shown.tree document time it) watcher ≡ intersection_observer_at it watcher
  others_left watcher it apart =
      updated_at watcher it ∙ ap (λ is. cond is (settled_observer time (found_through shown margins watcher) (intersection_observer_at it watcher)) (intersection_observer_at it watcher)) apart
