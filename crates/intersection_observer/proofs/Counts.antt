-- What the observers keep true, through their changes.
use Rattle.std.proofs.Common.{◌≡◌, ℕ, suc, ◌<◌, ◌≤◌, ◌+◌, ◌∙◌, ap, refl, sym, subst, get_or, set, length, length-set, length-append, arith}
use Rattle.std.proofs.lemmas.List.Sums.{sum_by-set, sum_by_push}
use Rattle.std.specs.Prelude.{Bool, true, false, cond, ◌==◌, nat_eq, List, [], ◌∷◌, ◌++◌, Option, Some, None, option_map, is_some, if◌then◌else◌, Result, Ok, OnOk, IfOk}
use Rattle.std.specs.Map.{lookup}
use Rattle.indexmap.specs.IndexMap.{IndexMap, get, index_map_len, Updates, IsUnchanged}
use Rattle.page_model.specs.World.{Registration, IntersectionObserver}
use Rattle.page_model.specs.IntersectionObserving.{is_registered, intersection_observations}
use Rattle.intersection_observer.specs.Places.{Standing, standing_from}
use Rattle.intersection_observer.specs.Serials.{HasSerials}
use Rattle.intersection_observer.specs.Watchers.{without_target}
use Rattle.intersection_observer.specs.Held.{IsHeld, seen_place}
use Rattle.intersection_observer.specs.declared.registration.Place.{Place}
use Rattle.intersection_observer.proofs.Standing.{standing-made}
use Rattle.intersection_observer.proofs.Subjects.{subjects_of, same-count, IsSole, only-count}
use Rattle.intersection_observer.proofs.Numbers.{part_of, serials-made, standing-kept, serials-kept, standing-observed, serials-observed, standing-unobserved, serials-unobserved, stands-sole}

-- how many registrations all observers hold
held_in : List IntersectionObserver → ℕ
held_in made = intersection_observations (part_of 0 made)

-- once one observer is changed
recounted : (made : List IntersectionObserver) (place : ℕ) (old new : IntersectionObserver) → place < length made → old ≡ get_or made place old → held_in (set made place new) + length (old.registrations) ≡ held_in made + length (new.registrations)
unfolding held_in
recounted made place old new there is =
    ap (λ (it : IntersectionObserver). held_in (set made place new) + length (it.registrations)) is ∙ sum_by-set (λ (it : IntersectionObserver). length (it.registrations)) made place new old there

told-more : (place : Place) (is : Bool) (found : Option Place) (standing : Option Standing) → option_map seen_place found ≡ standing → option_map seen_place (cond is (Some place) found) ≡ cond is (Some (seen_place place)) standing
told-more place true found standing told = refl
told-more place false found standing told = told

told-fewer : (is : Bool) (found : Option Place) (standing : Option Standing) → option_map seen_place found ≡ standing → option_map seen_place (cond is None found) ≡ cond is None standing
told-fewer true found standing told = refl
told-fewer false found standing told = told

pub some_from : {A B : Type 0} (f : A → B) (found : Option A) (y : B) → option_map f found ≡ Some y → is_some found ≡ true
some_from f None y is = cc
some_from f (Some x) y is = refl

pub none_mapped : {A B : Type 0} (f : A → B) (found : Option A) → option_map f found ≡ None → found ≡ None
none_mapped f None is = refl
none_mapped f (Some x) is = cc

-- a map of places with one more, whose number had none
more-entries : (held old : ℕ) (found : Bool) → found ≡ false → old ≡ held + (if found then 0 else 1) → old ≡ held + 1
more-entries held old found none is = is ∙ ap (λ (b : Bool). held + (if b then 0 else 1)) none

-- the places once one is entered at the next serial number
pub record IsEntered {S : Type 0} (places after : IndexMap ℕ Place S) (given : ℕ) (place : Place) : Type 0 where
  pub gets : (serial : ℕ) → get nat_eq after serial ≡ cond (given == serial) (Some place) (get nat_eq places serial)
  pub longer : index_map_len after ≡ index_map_len places + 1

pub entered :
    {S : Type 0} (places room after : IndexMap ℕ Place S) (given : ℕ) (place : Place) {E : Type 0} (result : Result (Option Place) E) {old : Option Place} → IsUnchanged places room → get nat_eq places given ≡ None → result ≡ Ok old →
    OnOk result (Updates nat_eq room after given (Some place)) → IfOk result (λ (old : Option Place). old ≡ get nat_eq room given) →
    IfOk result (λ (old : Option Place). index_map_len after ≡ index_map_len room + (if is_some old then 0 else 1)) → IsEntered places after given place
entered places room after given place {E} result {old} unchanged free ok updates was longer =
    let updated : Updates nat_eq room after given (Some place) = subst (λ (r : Result (Option Place) E). OnOk r (Updates nat_eq room after given (Some place))) ok updates in
    let before : old ≡ get nat_eq room given = subst (λ (r : Result (Option Place) E). IfOk r (λ (old : Option Place). old ≡ get nat_eq room given)) ok was in
    let count : index_map_len after ≡ index_map_len room + (if is_some old then 0 else 1) = subst (λ (r : Result (Option Place) E). IfOk r (λ (old : Option Place). index_map_len after ≡ index_map_len room + (if is_some old then 0 else 1))) ok longer in
    record {
      gets = λ serial. updated.0 serial ∙ ap (λ (entries : List (ℕ × Place)). cond (given == serial) (Some place) (lookup (nat_eq serial) entries)) unchanged;
      longer =
          more-entries (index_map_len room) (index_map_len after) (is_some old) (ap is_some (before ∙ ap (lookup (nat_eq given)) unchanged ∙ free)) count
          ∙ ap (λ (entries : List (ℕ × Place)). length entries + 1) unchanged;
    }

module _ {S : Type 0} (most_watchers most_registrations : ℕ) where
  pub held-made :
      (places : IndexMap ℕ Place S) (given : ℕ) (made : List IntersectionObserver) (new : IntersectionObserver) → new.registrations ≡ [] → length made < most_watchers →
      IsHeld places (part_of given made) most_watchers most_registrations → IsHeld places (part_of given (made ++ new ∷ [])) most_watchers most_registrations
  unfolding held_in
  held-made places given made new none room was =
      let sums : held_in (made ++ new ∷ []) ≡ held_in made + length (new.registrations) = sum_by_push (λ (it : IntersectionObserver). length (it.registrations)) made new in
      let empty : length (new.registrations) ≡ 0 = ap (λ these. length these) none in
      let same : held_in (made ++ new ∷ []) ≡ held_in made = omega (arith, sums, empty) in
      let longer : length (made ++ new ∷ []) ≡ length made + 1 = length-append made (new ∷ []) in
      record {
        watchers = omega (arith, longer, room);
        numbers = was.numbers;
        told = λ serial. was.told serial ∙ sym (standing-made serial 0 made new none);
        counted = was.counted ∙ sym same;
        registrations = subst (λ n. n ≤ most_registrations) (sym same) was.registrations;
        serials = serials-made given made new none was.serials;
      }

  pub held-kept :
      (places : IndexMap ℕ Place S) (given : ℕ) (made : List IntersectionObserver) (place : ℕ) (old new : IntersectionObserver) → place < length made → old ≡ get_or made place old → subjects_of (new.registrations) ≡ subjects_of (old.registrations) →
      IsHeld places (part_of given made) most_watchers most_registrations → IsHeld places (part_of given (set made place new)) most_watchers most_registrations
  unfolding held_in
  held-kept places given made place old new there is same was =
      let sums : held_in (set made place new) + length (old.registrations) ≡ held_in made + length (new.registrations) = recounted made place old new there is in
      let counts : length (new.registrations) ≡ length (old.registrations) = same-count (new.registrations) (old.registrations) same in
      let held : held_in (set made place new) ≡ held_in made = omega (arith, sums, counts) in
      record {
        watchers = subst (λ n. n ≤ most_watchers) (sym (length-set made place new)) was.watchers;
        numbers = was.numbers;
        told = λ serial. was.told serial ∙ sym (standing-kept made place old new there is same serial);
        counted = was.counted ∙ sym held;
        registrations = subst (λ n. n ≤ most_registrations) (sym held) was.registrations;
        serials = serials-kept given made place old new there is same was.serials;
      }

  pub held-observed :
      (places after : IndexMap ℕ Place S) (made : List IntersectionObserver) (place : ℕ) (old new : IntersectionObserver) (it : Registration) → place < length made → old ≡ get_or made place old → new.registrations ≡ old.registrations ++ it ∷ [] →
      is_registered (it.target) (old.registrations) ≡ false → index_map_len places < most_registrations →
      ((serial : ℕ) → get nat_eq after serial ≡ cond (it.serial == serial) (Some (record { watcher = place; target = it.target })) (get nat_eq places serial)) →
      index_map_len after ≡ index_map_len places + 1 →
      IsHeld places (part_of (it.serial) made) most_watchers most_registrations → IsHeld after (part_of (it.serial + 1) (set made place new)) most_watchers most_registrations
  unfolding held_in
  held-observed places after made place old new it there is more free room gets longer was =
      let sums : held_in (set made place new) + length (old.registrations) ≡ held_in made + length (new.registrations) = recounted made place old new there is in
      let grown : length (new.registrations) ≡ length (old.registrations) + 1 = ap (λ these. length these) more ∙ length-append (old.registrations) (it ∷ []) in
      let counts : index_map_len places ≡ held_in made = was.counted in
      let following : suc it.serial ≡ it.serial + 1 = omega arith in
      record {
        watchers = subst (λ n. n ≤ most_watchers) (sym (length-set made place new)) was.watchers;
        numbers = was.numbers;
        told =
            λ serial.
            ap (option_map seen_place) (gets serial)
            ∙ told-more (record { watcher = place; target = it.target }) (it.serial == serial) (get nat_eq places serial) (standing_from serial 0 made) (was.told serial)
            ∙ sym (standing-observed made place old new it there is more (was.serials.fresh (it.serial) (omega arith)) serial);
        counted = omega (arith, sums, grown, counts, longer);
        registrations = omega (arith, sums, grown, counts, room);
        serials = subst (λ n. HasSerials (part_of n (set made place new))) following (serials-observed made place old new it there is more free was.serials);
      }

  pub held-unobserved :
      (places after : IndexMap ℕ Place S) (given : ℕ) (made : List IntersectionObserver) (place n number : ℕ) (old new : IntersectionObserver) → place < length made → old ≡ get_or made place old → new.registrations ≡ without_target n (old.registrations) →
      IsSole n number (old.registrations) →
      ((serial : ℕ) → get nat_eq after serial ≡ cond (number == serial) None (get nat_eq places serial)) →
      index_map_len after + 1 ≡ index_map_len places →
      IsHeld places (part_of given made) most_watchers most_registrations → IsHeld after (part_of given (set made place new)) most_watchers most_registrations
  unfolding held_in
  held-unobserved places after given made place n number old new there is fewer sole gets shorter was =
      let sums : held_in (set made place new) + length (old.registrations) ≡ held_in made + length (new.registrations) = recounted made place old new there is in
      let less : length (new.registrations) + 1 ≡ length (old.registrations) = ap (λ these. length these + 1) fewer ∙ only-count n sole.place sole.registration (old.registrations) sole.only in
      let counts : index_map_len places ≡ held_in made = was.counted in
      let bound : held_in made ≤ most_registrations = was.registrations in
      record {
        watchers = subst (λ n. n ≤ most_watchers) (sym (length-set made place new)) was.watchers;
        numbers = was.numbers;
        told =
            λ serial.
            ap (option_map seen_place) (gets serial) ∙ told-fewer (number == serial) (get nat_eq places serial) (standing_from serial 0 made) (was.told serial)
            ∙ sym (standing-unobserved given made place n number old new there is fewer was.serials sole serial);
        counted = omega (arith, sums, less, counts, shorter);
        registrations = omega (arith, sums, less, bound);
        serials = serials-unobserved given made place n number old new there is fewer sole was.serials;
      }

  -- the place of a registration is held
  pub held-there :
      (places : IndexMap ℕ Place S) (given : ℕ) (made : List IntersectionObserver) (place n number : ℕ) (old : IntersectionObserver) → place < length made → old ≡ get_or made place old → IsSole n number (old.registrations) →
      IsHeld places (part_of given made) most_watchers most_registrations → is_some (get nat_eq places number) ≡ true
  held-there places given made place n number old there is sole was =
      some_from seen_place (get nat_eq places number) (record { watcher = place; target = n }) (was.told number ∙ stands-sole given made place n number old there is was.serials sole)

  -- the next serial number has no place
  pub held-free :
      (places : IndexMap ℕ Place S) (given : ℕ) (made : List IntersectionObserver) → IsHeld places (part_of given made) most_watchers most_registrations → get nat_eq places given ≡ None
  held-free places given made was = none_mapped seen_place (get nat_eq places given) (was.told given ∙ was.serials.fresh given (omega arith))
