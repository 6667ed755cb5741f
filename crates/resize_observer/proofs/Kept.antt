-- What an observer keeps true of its lists, through its changes.
use Rattle.std.proofs.Common.{◌≡◌, ℕ, ◌<◌, ◌≤◌, ◌∙◌, ap, refl, sym, subst, length, arith, ◌==◌, nat_eq}
use Rattle.std.proofs.lemmas.Bool.{or_parts, cond-true, not_from_false}
use Rattle.std.proofs.lemmas.Bool.Decides.{nat_tests}
use Rattle.std.proofs.lemmas.List.{length-map}
use Rattle.std.proofs.lemmas.List.Elements.{All-filter}
use Rattle.std.proofs.lemmas.List.Folds.{list_any-append}
use Rattle.std.proofs.lemmas.Map.Views.{any-filter_same}
use Rattle.std.specs.HashSet.{HashSet, contains}
use Rattle.std.specs.Prelude.{Bool, true, false, not, cond, ◌||◌, ◌&&◌, List, [], ◌∷◌, ◌++◌, All, map}
use Rattle.page_model.specs.World.{Extent, Observation as ModelObservation}
use Rattle.page_model.specs.ResizeObserving.{is_observed, without_observed}
use Rattle.resize_observer.specs.declared.observation.Observation.{Observation}
use Rattle.resize_observer.specs.Held.{IsKept}
use Rattle.resize_observer.specs.Observations.{HasSize, seen_observation, seen_observations}
use Rattle.resize_observer.specs.Reports.{with_last}
use Rattle.resize_observer.specs.Serials.{IsAbove, IsRising}
use Rattle.resize_observer.proofs.Rising.{filter-rising, push-rising, reported-rising}

-- a target that isn't there
pub absent_same : (n : ℕ) (xs : List ModelObservation) → is_observed n xs ≡ false → without_observed n xs ≡ xs
absent_same n [] absent = refl
absent_same n (x ∷ xs) absent =
    let parts = or_parts (x.target == n) (is_observed n xs) absent in
    cond-true (not (x.target == n)) (x ∷ without_observed n xs) (without_observed n xs) (not_from_false (x.target == n) parts.0)
    ∙ ap (λ (rest : List ModelObservation). x ∷ rest) (absent_same n xs parts.1)

-- which elements are observed

observed-without : (n q : ℕ) (xs : List ModelObservation) → is_observed q (without_observed n xs) ≡ (not (nat_eq n q) && is_observed q xs)
observed-without n q xs =
    any-filter_same (λ (each : ModelObservation). each.target == q) (λ (each : ModelObservation). not (each.target == n)) (not (nat_eq n q)) (λ each its. grind (arith, nat_tests)) xs

same_target : (last : Extent) (x : ModelObservation) (is : Bool) → (cond is (record x { last = last }) x).target ≡ x.target
same_target last x true = refl
same_target last x false = refl

observed-reported : (serial : ℕ) (last : Extent) (q : ℕ) (xs : List ModelObservation) → is_observed q (map (with_last serial last) xs) ≡ is_observed q xs
observed-reported serial last q [] = refl
observed-reported serial last q (x ∷ xs) =
    ap (λ target. (target == q) || is_observed q (map (with_last serial last) xs)) (same_target last x (serial == x.serial))
    ∙ ap (λ others. (x.target == q) || others) (observed-reported serial last q xs)

put_test : (is others : Bool) → ((not is && others) || (is || false)) ≡ cond is true others
put_test true others = refl
put_test false true = refl
put_test false false = refl

taken_test : (is others : Bool) → (not is && others) ≡ cond is false others
taken_test true others = refl
taken_test false others = refl

-- a list that is seen as another one is as long
seen-length : (xs : List Observation) (ys : List ModelObservation) → seen_observations xs ≡ ys → length xs ≡ length ys
seen-length xs ys same = sym (length-map xs seen_observation) ∙ ap (λ (these : List ModelObservation). length these) same

module _ {S : Type 0} {xs on_active on_skipped : List Observation} {observed : HashSet ℕ S} {active skipped : ℕ} where
  pub kept-observed :
      (new : Observation) (after : List Observation) (observed' : HashSet ℕ S) {on_active' on_skipped' : List Observation} {active' skipped' : ℕ} →
      IsKept xs on_active on_skipped observed active skipped → IsAbove new.number (seen_observations xs) →
      seen_observations after ≡ without_observed new.target.0 (seen_observations xs) ++ seen_observation new ∷ [] →
      ((q : ℕ) → contains nat_eq observed' q ≡ cond (nat_eq new.target.0 q) true (contains nat_eq observed q)) →
      length after ≤ active' → length after ≤ skipped' →
      All HasSize after → on_active' ≡ on_active → on_skipped' ≡ on_skipped → IsKept after on_active' on_skipped' observed' active' skipped'
  kept-observed new after observed' was above is puts room_active room_skipped sizes same_active same_skipped = record {
    rising = subst (λ (these : List ModelObservation). IsRising these) (sym is) (push-rising (without_observed new.target.0 (seen_observations xs)) (seen_observation new) (filter-rising _ (seen_observations xs) was.rising) (All-filter _ (λ (each : ModelObservation). each.serial < new.number) (seen_observations xs) above));
    elements = λ q.
        puts q ∙ ap (cond (nat_eq new.target.0 q) true) (was.elements q)
        ∙ sym (put_test (nat_eq new.target.0 q) (is_observed q (seen_observations xs)))
        ∙ ap (λ others. others || (nat_eq new.target.0 q || false)) (sym (observed-without new.target.0 q (seen_observations xs)))
        ∙ sym (list_any-append (λ (each : ModelObservation). each.target == q) (without_observed new.target.0 (seen_observations xs)) (seen_observation new ∷ []))
        ∙ ap (is_observed q) (sym is);
    active = room_active;
    skipped = room_skipped;
    sizes = sizes;
    active_sizes = subst (All HasSize) (sym same_active) was.active_sizes;
    skipped_sizes = subst (All HasSize) (sym same_skipped) was.skipped_sizes;
  }

  pub kept-unobserved :
      (n : ℕ) (after : List Observation) (observed' : HashSet ℕ S) →
      IsKept xs on_active on_skipped observed active skipped → seen_observations after ≡ without_observed n (seen_observations xs) →
      ((q : ℕ) → contains nat_eq observed' q ≡ cond (nat_eq n q) false (contains nat_eq observed q)) →
      length after ≤ length xs → All HasSize after → IsKept after on_active on_skipped observed' active skipped
  kept-unobserved n after observed' was is takes fewer sizes = record {
    rising = subst (λ (these : List ModelObservation). IsRising these) (sym is) (filter-rising _ (seen_observations xs) was.rising);
    elements = λ q.
        takes q ∙ ap (cond (nat_eq n q) false) (was.elements q)
        ∙ sym (taken_test (nat_eq n q) (is_observed q (seen_observations xs)))
        ∙ sym (observed-without n q (seen_observations xs))
        ∙ ap (is_observed q) (sym is);
    active = omega (arith, fewer, was.active);
    skipped = omega (arith, fewer, was.skipped);
    sizes = sizes;
    active_sizes = was.active_sizes;
    skipped_sizes = was.skipped_sizes;
  }

  pub kept-reported :
      (serial : ℕ) (last : Extent) (after : List Observation) →
      IsKept xs on_active on_skipped observed active skipped → seen_observations after ≡ map (with_last serial last) (seen_observations xs) → All HasSize after →
      IsKept after on_active on_skipped observed active skipped
  kept-reported serial last after was is sizes =
      let long : length after ≡ length xs =
      seen-length after (map (with_last serial last) (seen_observations xs)) is ∙ length-map (seen_observations xs) (with_last serial last) ∙ length-map xs seen_observation in
      record {
        rising = subst (λ (these : List ModelObservation). IsRising these) (sym is) (reported-rising serial last (seen_observations xs) was.rising);
        elements = λ q. was.elements q ∙ sym (observed-reported serial last q (seen_observations xs)) ∙ ap (is_observed q) (sym is);
        active = omega (arith, long, was.active);
        skipped = omega (arith, long, was.skipped);
        sizes = sizes;
        active_sizes = was.active_sizes;
        skipped_sizes = was.skipped_sizes;
      }
