-- Registrations settled one after the other, and observers one after the other.
use Rattle.std.proofs.Common.{◌≡◌, ℕ, suc, ◌<◌, ◌≤◌, ◌+◌, ◌∙◌, ap, refl, sym, length, take, inr, arith}
use Rattle.std.specs.Prelude.{Bool, true, false, cond, ◌||◌, nat_lt, List, [], ◌∷◌, Result, Ok, Err, OnOk, OnErr}
use Rattle.std.specs.List.{list_any}
use Rattle.std.proofs.lemmas.List.{take_all}
use Rattle.script_model.specs.Margins.{Margins}
use Rattle.page_model.specs.Shown.{Shown}
use Rattle.page_model.specs.World.{Tree, IntersectionObserver, IntersectionObservers}
use Rattle.page_model.specs.Lookups.{entry_or, no_intersection_observer, intersection_observer_at, change_intersection_observer}
use Rattle.page_model.specs.Intersections.{is_rooted_in, watchers, settled_observer, settling, has_queued}
use Rattle.intersection_observer.specs.Watchers.{HeldWatchers}
use Rattle.intersection_update.specs.Updating.{found_through, updated, has_news, IsBegun, IsStopped, first_settled, first_updated, settled_if_rooted}
use Rattle.intersection_update.proofs.Lists.{map_from, any_from, changed_same, unchanged, any_more, firsts, first_at, first_more, first_all, changed_in_turn, each_place, each_first, any_place}
use Rattle.kept_findings.proofs.Settled.{changed_here}

-- whether one was queued earlier or now
pub either_queued : (queued more : Bool) (a b c : ℕ) → queued ≡ nat_lt a b → more ≡ nat_lt b c → a ≤ b → b ≤ c → (queued || more) ≡ nat_lt a c
either_queued queued more a b c first second le more_le = grind arith

pub not_queued : (n : ℕ) → nat_lt n n ≡ false
not_queued n = grind arith

-- one observer after the other ----------------------------------------------------------------------------------------------------------

from_none : (n : ℕ) → n ≡ 0 + n
from_none n = omega arith

-- observers that are settled one after the other, as entries of a list that are changed
pub in_turn : (shown : Shown) (margins : List Margins) (time : ℕ) (numbers : List ℕ) (it : IntersectionObservers) →
    settling time (found_through shown margins) numbers it ≡ record it { made = changed_in_turn (λ watcher. settled_observer time (found_through shown margins watcher)) numbers (it.made) }
in_turn shown margins time [] it = refl
in_turn shown margins time (n ∷ ns) it = in_turn shown margins time ns (change_intersection_observer (settled_observer time (found_through shown margins n)) n it)

module _ (shown : Shown) (margins : List Margins) (tree : Tree) (document time : ℕ) (was : HeldWatchers) where
  abbrev is_its : IntersectionObserver → Bool
  is_its it = is_rooted_in tree document (it.root)

  abbrev once_settled : ℕ → IntersectionObserver → IntersectionObserver
  once_settled watcher it = settled_observer time (found_through shown margins watcher) it

  -- the first of them seen to
  abbrev pub first_observers : ℕ → List IntersectionObserver
  first_observers place = firsts no_intersection_observer is_its once_settled place (was.part.made)

  abbrev is_longer : IntersectionObserver → IntersectionObserver → Bool
  is_longer a b = nat_lt (length (a.queue)) (length (b.queue))

  abbrev tells : ℕ → IntersectionObserver → Bool
  tells watcher it = is_longer it (settled_if_rooted shown margins tree document time watcher it)

  -- whether something was queued at one of them
  abbrev pub first_told : ℕ → Bool
  first_told place = any_from 0 tells (take place (was.part.made))

  pub next_observer : (place : ℕ) (now next : HeldWatchers) → place < length was.part.made → now.part.made ≡ first_observers place →
      next ≡ record now { part = change_intersection_observer (settled_if_rooted shown margins tree document time place) place (now.part) } → next.part.made ≡ first_observers (place + 1)
  next_observer place now next there is more =
      let next_place : suc place ≡ place + 1 = omega arith in
      ap (λ (it : HeldWatchers). it.part.made) more
      ∙ ap (λ (made : List IntersectionObserver). (change_intersection_observer (settled_if_rooted shown margins tree document time place) place (record (now.part) { made = made })).made) is
      ∙ first_more no_intersection_observer is_its once_settled place 0 place (was.part.made) (from_none place) there
      ∙ ap first_observers next_place

  pub next_told : (place : ℕ) (now next : HeldWatchers) (queued more : Bool) → place < length was.part.made → length now.part.made ≡ length was.part.made → now.part.made ≡ first_observers place →
      next ≡ record now { part = change_intersection_observer (settled_if_rooted shown margins tree document time place) place (now.part) } →
      queued ≡ first_told place → more ≡ has_queued now.part next.part place → (queued || more) ≡ first_told (place + 1)
  next_told place now next queued more there count is changed before tells_more =
      let next_place : suc place ≡ place + 1 = omega arith in
      let here : intersection_observer_at now.part place ≡ intersection_observer_at was.part place =
      ap (λ (made : List IntersectionObserver). entry_or no_intersection_observer made place) is ∙ first_at no_intersection_observer is_its once_settled 0 place (was.part.made)
      in
      let then : intersection_observer_at next.part place ≡ settled_if_rooted shown margins tree document time place (intersection_observer_at was.part place) =
      ap (λ (it : HeldWatchers). intersection_observer_at it.part place) changed
      ∙ changed_here no_intersection_observer (settled_if_rooted shown margins tree document time place) place (now.part.made) (omega (arith, there, count))
      ∙ ap (settled_if_rooted shown margins tree document time place) here
      in
      ap (λ b. b || more) before
      ∙ ap (λ b. first_told place || b)
      (tells_more ∙ ap (λ (it : IntersectionObserver). is_longer it (intersection_observer_at next.part place)) here ∙ ap (is_longer (intersection_observer_at was.part place)) then)
      ∙ sym (any_more no_intersection_observer tells place 0 place (was.part.made) (from_none place) there)
      ∙ ap first_told next_place

  -- and where nothing is done
  pub skipped_told : (place : ℕ) (now : HeldWatchers) (queued : Bool) → place < length was.part.made → length now.part.made ≡ length was.part.made → now.part.made ≡ first_observers place →
      now ≡ record now { part = change_intersection_observer (settled_if_rooted shown margins tree document time place) place (now.part) } → queued ≡ first_told place → queued ≡ first_told (place + 1)
  skipped_told place now queued there count is same before =
      no_more queued ∙ next_told place now now queued false there count is same before (sym (not_queued (length (intersection_observer_at now.part place).queue)))
    where
      no_more : (b : Bool) → b ≡ (b || false)
      no_more true = refl
      no_more false = refl

  -- all of them are those of the update
  all_made : (updated shown margins tree document time (was.part)).made ≡ map_from 0 (settled_if_rooted shown margins tree document time) (was.part.made)
  all_made = ap (λ (it : IntersectionObservers). it.made) (in_turn shown margins time (watchers tree document was.part) was.part) ∙ each_place no_intersection_observer is_its once_settled (was.part.made)

  pub all_observers : (place : ℕ) (now : HeldWatchers) → record was { part = now.part } ≡ now → now.part.given ≡ was.part.given → place ≡ length was.part.made → now.part.made ≡ first_observers place →
      now ≡ record was { part = updated shown margins tree document time (was.part) }
  all_observers place now rest given past is =
      sym rest
      ∙ ap (λ (given : ℕ). record was { part = record { given = given; made = now.part.made } }) given
      ∙ ap (λ (made : List IntersectionObserver). record was { part = record (was.part) { made = made } })
      (is ∙ ap first_observers past ∙ first_all no_intersection_observer is_its once_settled 0 (was.part.made) ∙ sym (each_place no_intersection_observer is_its once_settled (was.part.made)))
      ∙ ap (λ (it : IntersectionObservers). record was { part = it }) (sym (in_turn shown margins time (watchers tree document was.part) was.part))

  -- where it stops at one of them, whose root is the document's
  pub stopped_settled : (place : ℕ) (now next : HeldWatchers) → now.part.given ≡ was.part.given → now.part.made ≡ first_observers place → (begun : IsBegun shown margins time place now.part next.part) →
      next.part ≡ first_settled shown margins time place begun.place (first_updated shown margins tree document time place (was.part))
  stopped_settled place now next given is begun =
      let same : now.part ≡ first_updated shown margins tree document time place (was.part) =
      ap (λ (given : ℕ). record { given = given; made = now.part.made }) given
      ∙ ap (λ (made : List IntersectionObserver). record (was.part) { made = made }) (is ∙ sym (each_first no_intersection_observer is_its once_settled place (was.part.made)))
      ∙ sym (in_turn shown margins time (watchers tree document (record (was.part) { made = take place (was.part.made) })) was.part)
      in
      begun.settled ∙ ap (first_settled shown margins time place begun.place) same

  pub stopped_at : (place : ℕ) (now next : HeldWatchers) → now.part.given ≡ was.part.given → now.part.made ≡ first_observers place → IsBegun shown margins time place now.part next.part →
      is_rooted_in tree document (intersection_observer_at was.part place).root ≡ true → IsStopped shown margins tree document time was.part next.part
  stopped_at place now next given is begun rooted = record { number = place; place = begun.place; rooted = inr rooted; settled = stopped_settled place now next given is begun }

  pub all_told : (place : ℕ) (queued : Bool) → place ≡ length was.part.made → queued ≡ first_told place → queued ≡ has_news tree document was.part (updated shown margins tree document time was.part)
  all_told place queued past is =
      is
      ∙ ap (λ (these : List IntersectionObserver). any_from 0 tells these) (ap (λ n. take n (was.part.made)) past ∙ take_all (length was.part.made) (was.part.made) (omega arith))
      ∙ sym (any_place no_intersection_observer is_its once_settled is_longer (λ (x : IntersectionObserver). not_queued (length (x.queue))) [] [] (was.part.made) refl)
      ∙ ap (λ (made : List IntersectionObserver). list_any (λ n. is_longer (intersection_observer_at was.part n) (entry_or no_intersection_observer made n)) (watchers tree document was.part)) (sym all_made)

-- an observer whose root is the document's, and another one ------------------------------------------------------------------------------

pub rooted_settled : (shown : Shown) (margins : List Margins) (tree : Tree) (document time watcher : ℕ) (was : HeldWatchers) → is_rooted_in tree document ((intersection_observer_at was.part watcher).root) ≡ true →
    record was { part = change_intersection_observer (settled_observer time (found_through shown margins watcher)) watcher (was.part) } ≡ record was { part = change_intersection_observer (settled_if_rooted shown margins tree document time watcher) watcher (was.part) }
rooted_settled shown margins tree document time watcher was rooted =
    let x : IntersectionObserver = intersection_observer_at was.part watcher in
    ap (λ (made : List IntersectionObserver). record was { part = record (was.part) { made = made } })
    (changed_same no_intersection_observer (settled_observer time (found_through shown margins watcher)) (settled_if_rooted shown margins tree document time watcher) watcher (was.part.made)
    (ap (λ is. cond is (settled_observer time (found_through shown margins watcher) x) x) (sym rooted)))

pub rooted_same : (shown : Shown) (margins : List Margins) (tree : Tree) (document time watcher : ℕ) (was : HeldWatchers) → is_rooted_in tree document ((intersection_observer_at was.part watcher).root) ≡ false →
    was ≡ record was { part = change_intersection_observer (settled_if_rooted shown margins tree document time watcher) watcher (was.part) }
rooted_same shown margins tree document time watcher was apart =
    let x : IntersectionObserver = intersection_observer_at was.part watcher in
    ap (λ (made : List IntersectionObserver). record was { part = record (was.part) { made = made } })
    (sym (unchanged no_intersection_observer (settled_if_rooted shown margins tree document time watcher) watcher (was.part.made)
    (ap (λ is. cond is (settled_observer time (found_through shown margins watcher) x) x) apart)))

pub on_ok : {A E : Type 0} {P Q : Type 0} (result : Result A E) → (P → Q) → OnOk result P → OnOk result Q
on_ok (Ok value) f p = f p
on_ok (Err refused) f p = p

pub on_err : {A E : Type 0} {P : Type 0} (result : Result A E) → P → OnErr result P
on_err (Ok value) p = tt
on_err (Err refused) p = p
