-- What waits to be delivered: deeper where it was gathered, and never more while lists of observers are changed.
use Rattle.std.proofs.Common.{◌≡◌, refl, sym, subst, arith, tests}
use Rattle.std.specs.Prelude.{ℕ, zero, suc, ◌<◌, ◌==◌, Bool, true, false, cond, List, [], ◌∷◌, ◌++◌, filter, map, Option}
use Rattle.std.specs.List.{AllByRecursion}
use Rattle.px_units.specs.declared.BoxKind.{BoxKind}
use Rattle.page_model.specs.World.{Observation, ResizeObserver, ResizeObservers, World}
use Rattle.page_model.specs.Lookups.{change_at, change_resize_observer, entry_or, no_resize_observer}
use Rattle.page_model.specs.ResizeObserving.{with_resize_observer, with_resize_target, without_resize_target, without_resize_targets}
use Rattle.page_model.specs.Gathering.{Sight, sight_of, has_changed, is_deeper, is_of, gathered_if, with_reported, without_active, due_at}
use Rattle.page_model.specs.Loop.{gather}
use Rattle.page_laws.proofs.Lists.{all-map}
use Rattle.loop_laws.specs.Rounds.{IsDeeper}

-- what an observer has to deliver
abbrev pub due_of : ℕ → ResizeObserver → List Observation
due_of document it = cond (is_of document it) (it.active) []

abbrev pub due_in : ℕ → List ResizeObserver → ℕ → List Observation
due_in document made observer = due_of document (entry_or no_resize_observer made observer)

pub all-if : {A : Type 0} (P : A → Type 0) (test : Bool) (xs : List A) → AllByRecursion P xs → AllByRecursion P (cond test xs [])
all-if P true xs all = all
all-if P false xs all = tt

-- the observer at a number, after one was changed or made
module _ (T : ResizeObserver → Type 0) where
  pub changed-at : (change : ResizeObserver → ResizeObserver) → ((it : ResizeObserver) → T it → T (change it)) → (place o : ℕ) (made : List ResizeObserver) →
      T (entry_or no_resize_observer made o) → T (entry_or no_resize_observer (change_at change place made) o)
  changed-at change each place o [] here = here
  changed-at change each zero zero (x ∷ xs) here = each x here
  changed-at change each zero (suc o) (x ∷ xs) here = here
  changed-at change each (suc place) zero (x ∷ xs) here = here
  changed-at change each (suc place) (suc o) (x ∷ xs) here = changed-at change each place o xs here

  pub made-at : (new : ResizeObserver) → T new → (o : ℕ) (made : List ResizeObserver) → T (entry_or no_resize_observer made o) →
      T (entry_or no_resize_observer (made ++ new ∷ []) o)
  made-at new is zero [] here = is
  made-at new is (suc o) [] here = here
  made-at new is zero (x ∷ xs) here = here
  made-at new is (suc o) (x ∷ xs) here = made-at new is o xs here

module _ (P : Observation → Type 0) (document : ℕ) where
  abbrev AllDue : ResizeObserver → Type 0
  AllDue it = AllByRecursion P (due_of document it)

  -- `P` of all that waits
  pub record AreDue (it : ResizeObservers) : Type 0 where
    pub each : (observer : ℕ) → AllByRecursion P (due_at document observer it)

  module _ (it : ResizeObservers) where
    -- observers changed without a change of what waits, or with an active list emptied
    pub changed-same : (change : ResizeObserver → ResizeObserver) → ((each : ResizeObserver) → due_of document (change each) ≡ due_of document each) →
        (given observer : ℕ) → AreDue it → AreDue (record { given = given; made = change_at change observer (it.made) })
    changed-same change same given observer due = record {
      each = λ o. changed-at AllDue change (λ each all. subst (λ (these : List Observation). AllByRecursion P these) (sym (same each)) all) observer o
          (it.made) (due.each o);
    }

    pub changed-none : (change : ResizeObserver → ResizeObserver) → ((each : ResizeObserver) → (change each).active ≡ []) → (observer : ℕ) → AreDue it →
        AreDue (change_resize_observer change observer it)
    changed-none change none observer due = record {
      each = λ o. changed-at AllDue change (λ each all. subst (λ (these : List Observation). AllByRecursion P (cond (is_of document (change each)) these []))
          (sym (none each)) (all-if P (is_of document (change each)) [] tt)) observer o (it.made) (due.each o);
    }

    pub reported-due : (sight : Sight) (observer : ℕ) (delivered : List Observation) → AreDue it → AreDue (with_reported sight observer delivered it)
    reported-due sight observer delivered due = changed-same _ (λ each. refl) (it.given) observer due

    pub emptied-due : (observer : ℕ) → AreDue it → AreDue (without_active observer it)
    emptied-due observer due = changed-none _ (λ each. refl) observer due

    pub target-due : (observer n : ℕ) (observed : BoxKind) → AreDue it → AreDue (with_resize_target observer n observed it)
    target-due observer n observed due = changed-same _ (λ each. refl) (suc it.given) observer due

    pub no-target-due : (observer n : ℕ) → AreDue it → AreDue (without_resize_target observer n it)
    no-target-due observer n due = changed-same _ (λ each. refl) (it.given) observer due

    pub no-targets-due : (observer : ℕ) → AreDue it → AreDue (without_resize_targets observer it)
    no-targets-due observer due = changed-none _ (λ each. refl) observer due

    pub more-due : (owner : ℕ) (handler : Option ℕ) → AreDue it → AreDue (with_resize_observer owner handler it)
    more-due owner handler due = record { each = λ o. made-at AllDue _ (all-if P (owner == document) [] tt) o (it.made) (due.each o) }

-- gathering

all-passed : {A : Type 0} (test : A → Bool) (xs : List A) → AllByRecursion (λ x. test x ≡ true) (filter test xs)
all-passed test [] = tt
all-passed test (x ∷ xs) = by_test (test x) refl (all-passed test xs)
  where
    by_test : (passes : Bool) → test x ≡ passes → AllByRecursion (λ x. test x ≡ true) (filter test xs) →
        AllByRecursion (λ x. test x ≡ true) (cond passes (x ∷ filter test xs) (filter test xs))
    by_test true is others = (is, others)
    by_test false is others = others

module _ (sight : Sight) (document depth : ℕ) where
  abbrev IsBelow : Observation → Type 0
  IsBelow it = depth < sight.depth (it.target)

  is-below : (it : Observation) → is_deeper sight depth it ≡ true → IsBelow it
  is-below it deeper = grind (arith, tests, deeper)

  gathered-below : (it : ResizeObserver) (own : Bool) → is_of document it ≡ own → AllByRecursion IsBelow (due_of document (gathered_if own sight depth it))
  gathered-below it true is =
      all-if IsBelow (is_of document it) _ (all-map (λ each. is_deeper sight depth each ≡ true) IsBelow is-below _
      (all-passed (is_deeper sight depth) (filter (has_changed sight) (it.targets))))
  gathered-below it false is = subst (λ (own : Bool). AllByRecursion IsBelow (cond own (it.active) [])) (sym is) tt

  all-below : (made : List ResizeObserver) (observer : ℕ) →
      AllByRecursion IsBelow (due_in document (map (λ (it : ResizeObserver). gathered_if (is_of document it) sight depth it) made) observer)
  all-below [] observer = all-if IsBelow (0 == document) [] tt
  all-below (x ∷ xs) zero = gathered-below x (is_of document x) refl
  all-below (x ∷ xs) (suc observer) = all-below xs observer

pub gather-deeper : (document depth : ℕ) (world : World) → IsDeeper document depth (gather document depth world)
unfolding gather
gather-deeper document depth world = record { each = λ observer. all-below (sight_of world) document depth (world.resize_observers.made) observer }
