-- Serial numbers through the changes of observers.
use Rattle.std.proofs.Common.{◌≡◌, ℕ, suc, ◌<◌, ◌∙◌, ap, refl, sym, subst, set, get_or, length, arith, ⊎_elim}
use Rattle.std.specs.Prelude.{Bool, true, false, cond, ◌==◌, nat_eq, List, [], ◌∷◌, ◌++◌, All, Option, Some, None}
use Rattle.std.specs.List.{IsDistinct}
use Rattle.std.proofs.lemmas.Bool.{eq-eqb, eqb-true, eqb-false, ne_eqb, cond-true, cond-false, cases_Bool}
use Rattle.std.proofs.lemmas.Option.{same_Some, none-some}
use Rattle.std.proofs.lemmas.List.Elements.{All-weaker, All-push}
use Rattle.page_model.specs.World.{Registration, IntersectionObserver, IntersectionObservers}
use Rattle.page_model.specs.IntersectionObserving.{is_registered}
use Rattle.intersection_observer.specs.Places.{Standing, target_in, standing_from, standing_of}
use Rattle.intersection_observer.specs.Serials.{HasSerials, IsFound, targets_of}
use Rattle.intersection_observer.specs.Watchers.{without_target}
use Rattle.intersection_observer.proofs.Standing.{registrations_in, standing-made, standing-set, standing-new, standing-none, none-standing, at-made, at-place, at-set}
use Rattle.intersection_observer.proofs.Subjects.{subjects_of, same-target_in, same-all, same-targets, push-other, push-itself, push-distinct, IsSole, sole, without-other, without-itself, kept_all, without-distinct, found-all, only-all, only-target}

abbrev pub part_of : ℕ → List IntersectionObserver → IntersectionObservers
part_of given made = record { given = given; made = made }

-- one more observer
pub serials-made : (given : ℕ) (made : List IntersectionObserver) (new : IntersectionObserver) → new.registrations ≡ [] → HasSerials (part_of given made) → HasSerials (part_of given (made ++ new ∷ []))
serials-made given made new none was = record {
  found =
      λ watcher.
      subst (All (IsFound (part_of given (made ++ new ∷ [])) watcher)) (sym (at-made made new none watcher))
      (All-weaker (IsFound (part_of given made) watcher) (IsFound (part_of given (made ++ new ∷ [])) watcher) (λ it is. standing-made it.serial 0 made new none ∙ is) (registrations_in made watcher) (was.found watcher));
  fresh = λ serial above. standing-made serial 0 made new none ∙ was.fresh serial above;
  targets = λ watcher. subst (λ these. IsDistinct nat_eq (targets_of these)) (sym (at-made made new none watcher)) (was.targets watcher);
}

-- an observer changed that keeps the serial numbers and targets of its registrations
pub standing-kept :
    (made : List IntersectionObserver) (place : ℕ) (old new : IntersectionObserver) → place < length made → old ≡ get_or made place old → subjects_of (new.registrations) ≡ subjects_of (old.registrations) →
    (serial : ℕ) → standing_from serial 0 (set made place new) ≡ standing_from serial 0 made
standing-kept made place old new there is same serial = standing-set serial 0 made place old new there is (same-target_in serial (new.registrations) (old.registrations) same)

pub serials-kept :
    (given : ℕ) (made : List IntersectionObserver) (place : ℕ) (old new : IntersectionObserver) → place < length made → old ≡ get_or made place old → subjects_of (new.registrations) ≡ subjects_of (old.registrations) →
    HasSerials (part_of given made) → HasSerials (part_of given (set made place new))
serials-kept given made place old new there is same was =
    let now : IntersectionObservers = part_of given (set made place new) in
    let weaker : (watcher : ℕ) → All (IsFound now watcher) (registrations_in made watcher) =
    λ watcher. All-weaker (IsFound (part_of given made) watcher) (IsFound now watcher) (λ it found. standing-kept made place old new there is same it.serial ∙ found) (registrations_in made watcher) (was.found watcher)
    in record {
      found =
          at-set (λ watcher these. All (IsFound now watcher) these) made place new there
          (same-all (λ it. standing_of (it.0) now ≡ Some (record { watcher = place; target = it.1 })) (new.registrations) (old.registrations) same (subst (All (IsFound now place)) (at-place made place old there is) (weaker place)))
          (λ watcher apart. weaker watcher);
      fresh = λ serial above. standing-kept made place old new there is same serial ∙ was.fresh serial above;
      targets =
          at-set (λ watcher these. IsDistinct nat_eq (targets_of these)) made place new there
          (subst (IsDistinct nat_eq) (sym (same-targets (new.registrations) (old.registrations) same)) (subst (λ these. IsDistinct nat_eq (targets_of these)) (at-place made place old there is) (was.targets place)))
          (λ watcher apart. was.targets watcher);
    }

-- a registration with the next serial number, last
pub standing-observed :
    (made : List IntersectionObserver) (place : ℕ) (old new : IntersectionObserver) (it : Registration) → place < length made → old ≡ get_or made place old → new.registrations ≡ old.registrations ++ it ∷ [] →
    standing_from (it.serial) 0 made ≡ None →
    (serial : ℕ) → standing_from serial 0 (set made place new) ≡ cond (it.serial == serial) (Some (record { watcher = place; target = it.target })) (standing_from serial 0 made)
standing-observed made place old new it there is more none serial =
    ⊎_elim
    (λ (yes : (it.serial == serial) ≡ true).
    subst (λ (n : ℕ). standing_from n 0 (set made place new) ≡ Some (record { watcher = place; target = it.target })) (eqb-true (it.serial) serial yes)
    (standing-new (it.serial) 0 made place (it.target) new there none
    (ap (target_in (it.serial)) more ∙ push-itself (old.registrations) it (ap (target_in (it.serial)) (sym (at-place made place old there is)) ∙ none-standing (it.serial) 0 made none place)) ∙ ap (λ (n : ℕ). Some (record { watcher = n; target = it.target })) (omega arith))
    ∙ sym (cond-true (it.serial == serial) (Some (record { watcher = place; target = it.target })) (standing_from serial 0 made) yes))
    (λ (not : (it.serial == serial) ≡ false).
    standing-set serial 0 made place old new there is (ap (target_in serial) more ∙ push-other serial (old.registrations) it not)
    ∙ sym (cond-false (it.serial == serial) (Some (record { watcher = place; target = it.target })) (standing_from serial 0 made) not))
    (cases_Bool (it.serial == serial))

pub serials-observed :
    (made : List IntersectionObserver) (place : ℕ) (old new : IntersectionObserver) (it : Registration) → place < length made → old ≡ get_or made place old → new.registrations ≡ old.registrations ++ it ∷ [] →
    is_registered (it.target) (old.registrations) ≡ false → HasSerials (part_of (it.serial) made) → HasSerials (part_of (suc it.serial) (set made place new))
serials-observed made place old new it there is more free was =
    let now : IntersectionObservers = part_of (suc it.serial) (set made place new) in
    let none : standing_from (it.serial) 0 made ≡ None = was.fresh (it.serial) (omega arith) in
    let stands : (serial : ℕ) → standing_of serial now ≡ cond (it.serial == serial) (Some (record { watcher = place; target = it.target })) (standing_from serial 0 made) = standing-observed made place old new it there is more none in
    let other : (each : Registration) (watcher : ℕ) → standing_from (each.serial) 0 made ≡ Some (record { watcher = watcher; target = each.target }) → (it.serial == each.serial) ≡ false =
    λ each watcher found. ne_eqb (it.serial) (each.serial) (λ same. none-some _ (sym none ∙ ap (λ n. standing_from n 0 made) same ∙ found))
    in
    let weaker : (watcher : ℕ) → All (IsFound now watcher) (registrations_in made watcher) =
    λ watcher. All-weaker (IsFound (part_of (it.serial) made) watcher) (IsFound now watcher) (λ each found. stands (each.serial) ∙ cond-false (it.serial == each.serial) _ _ (other each watcher found) ∙ found) (registrations_in made watcher) (was.found watcher)
    in record {
      found =
          at-set (λ watcher these. All (IsFound now watcher) these) made place new there
          (subst (All (IsFound now place)) (sym more) (All-push (IsFound now place) (old.registrations) it (subst (All (IsFound now place)) (at-place made place old there is) (weaker place)) (stands (it.serial) ∙ cond-true (it.serial == it.serial) _ _ (eq-eqb (it.serial) (it.serial) refl))))
          (λ watcher apart. weaker watcher);
      fresh = λ serial above. stands serial ∙ cond-false (it.serial == serial) _ _ (ne_eqb (it.serial) serial (λ same. omega (arith, above, same))) ∙ was.fresh serial (omega (arith, above));
      targets =
          at-set (λ watcher these. IsDistinct nat_eq (targets_of these)) made place new there
          (subst (λ these. IsDistinct nat_eq (targets_of these)) (sym more) (push-distinct (old.registrations) it (subst (λ these. IsDistinct nat_eq (targets_of these)) (at-place made place old there is) (was.targets place)) free))
          (λ watcher apart. was.targets watcher);
    }

-- a registration taken out

pub stands-sole :
    (given : ℕ) (made : List IntersectionObserver) (place n serial : ℕ) (old : IntersectionObserver) → place < length made → old ≡ get_or made place old → HasSerials (part_of given made) → IsSole n serial (old.registrations) →
    standing_from serial 0 made ≡ Some (record { watcher = place; target = n })
stands-sole given made place n serial old there is was sole =
    ap (λ (s : ℕ). standing_from s 0 made) (sym sole.number)
    ∙ only-all (IsFound (part_of given made) place) n sole.place sole.registration (old.registrations) sole.only (subst (All (IsFound (part_of given made) place)) (at-place made place old there is) (was.found place))
    ∙ ap (λ (t : ℕ). Some (record { watcher = place; target = t })) (only-target n sole.place sole.registration (old.registrations) sole.only)

-- no other observer has its serial number
apart_from : (serial k place n : ℕ) (made : List IntersectionObserver) (these : List Registration) (found : Option ℕ) → standing_from serial 0 made ≡ Some (record { watcher = place; target = n }) → (k ≡ place → ⊥)
    → All (λ (it : Registration). standing_from (it.serial) 0 made ≡ Some (record { watcher = k; target = it.target })) these → target_in serial these ≡ found → found ≡ None
apart_from serial k place n made these None stands apart all is = refl
apart_from serial k place n made these (Some target) stands apart all is =
    absurd (apart (ap (λ (it : Standing). it.watcher) (same_Some (record { watcher = k; target = target }) (record { watcher = place; target = n })
    (sym (found-all (λ it. standing_from (it.0) 0 made ≡ Some (record { watcher = k; target = it.1 })) serial target these is all) ∙ stands))))

pub standing-unobserved :
    (given : ℕ) (made : List IntersectionObserver) (place n number : ℕ) (old new : IntersectionObserver) → place < length made → old ≡ get_or made place old → new.registrations ≡ without_target n (old.registrations) →
    HasSerials (part_of given made) → IsSole n number (old.registrations) →
    (serial : ℕ) → standing_from serial 0 (set made place new) ≡ cond (number == serial) None (standing_from serial 0 made)
standing-unobserved given made place n number old new there is fewer was sole serial =
    let stands : standing_from number 0 made ≡ Some (record { watcher = place; target = n }) = stands-sole given made place n number old there is was sole in
    let found : All (IsFound (part_of given made) place) (old.registrations) = subst (All (IsFound (part_of given made) place)) (at-place made place old there is) (was.found place) in
    let same : All (λ (each : Registration). each.serial ≡ number → each.target ≡ n) (old.registrations) =
    All-weaker (IsFound (part_of given made) place) (λ (each : Registration). each.serial ≡ number → each.target ≡ n)
    (λ each at its. ap (λ (it : Standing). it.target) (same_Some (record { watcher = place; target = each.target }) (record { watcher = place; target = n }) (sym at ∙ ap (λ (s : ℕ). standing_from s 0 made) its ∙ stands)))
    (old.registrations) found
    in
    ⊎_elim
    (λ (yes : (number == serial) ≡ true).
    ap (λ (s : ℕ). standing_from s 0 (set made place new)) (sym (eqb-true number serial yes))
    ∙ standing-none number 0 (set made place new)
    (at-set (λ k these. target_in number these ≡ None) made place new there (ap (target_in number) fewer ∙ without-itself number n (old.registrations) same)
    (λ k apart. apart_from number k place n made (registrations_in made k) (target_in number (registrations_in made k)) stands apart (was.found k) refl))
    ∙ sym (cond-true (number == serial) None (standing_from serial 0 made) yes))
    (λ (not : (number == serial) ≡ false).
    standing-set serial 0 made place old new there is
    (ap (target_in serial) fewer ∙ without-other serial n sole.place sole.registration (old.registrations) sole.only (ap (λ (s : ℕ). s == serial) sole.number ∙ not))
    ∙ sym (cond-false (number == serial) None (standing_from serial 0 made) not))
    (cases_Bool (number == serial))

either_none : (b : Bool) (found : Option Standing) → found ≡ None → cond b None found ≡ None
either_none true found none = refl
either_none false found none = none

pub serials-unobserved :
    (given : ℕ) (made : List IntersectionObserver) (place n number : ℕ) (old new : IntersectionObserver) → place < length made → old ≡ get_or made place old → new.registrations ≡ without_target n (old.registrations) →
    IsSole n number (old.registrations) → HasSerials (part_of given made) → HasSerials (part_of given (set made place new))
serials-unobserved given made place n number old new there is fewer sole was =
    let now : IntersectionObservers = part_of given (set made place new) in
    let stands : standing_from number 0 made ≡ Some (record { watcher = place; target = n }) = stands-sole given made place n number old there is was sole in
    let after : (serial : ℕ) → standing_of serial now ≡ cond (number == serial) None (standing_from serial 0 made) = standing-unobserved given made place n number old new there is fewer was sole in
    let still : (watcher : ℕ) (each : Registration) → (watcher ≡ place → each.target ≡ n → ⊥) → IsFound (part_of given made) watcher each → IsFound now watcher each =
    λ watcher each apart at. after (each.serial)
    ∙ cond-false (number == each.serial) None (standing_from (each.serial) 0 made)
    (ne_eqb number (each.serial) (λ same.
    let one : record { watcher = watcher; target = each.target } ≡ record { watcher = place; target = n } =
    same_Some (record { watcher = watcher; target = each.target }) (record { watcher = place; target = n }) (sym at ∙ ap (λ (s : ℕ). standing_from s 0 made) (sym same) ∙ stands)
    in apart (ap (λ (it : Standing). it.watcher) one) (ap (λ (it : Standing). it.target) one)))
    ∙ at
    in record {
      found =
          at-set (λ watcher these. All (IsFound now watcher) these) made place new there
          (subst (All (IsFound now place)) (sym fewer)
          (All-weaker (λ (each : Registration). IsFound (part_of given made) place each × ((each.target == n) ≡ false)) (IsFound now place)
          (λ each both. still place each (λ here its. eqb-false (each.target) n (both.1) its) (both.0)) (without_target n (old.registrations))
          (kept_all (IsFound (part_of given made) place) n (old.registrations) (subst (All (IsFound (part_of given made) place)) (at-place made place old there is) (was.found place)))))
          (λ watcher apart. All-weaker (IsFound (part_of given made) watcher) (IsFound now watcher) (λ each at. still watcher each (λ here its. apart here) at) (registrations_in made watcher) (was.found watcher));
      fresh = λ serial above. after serial ∙ either_none (number == serial) (standing_from serial 0 made) (was.fresh serial above);
      targets =
          at-set (λ watcher these. IsDistinct nat_eq (targets_of these)) made place new there
          (subst (λ these. IsDistinct nat_eq (targets_of these)) (sym fewer) (without-distinct n (old.registrations) (subst (λ these. IsDistinct nat_eq (targets_of these)) (at-place made place old there is) (was.targets place))))
          (λ watcher apart. was.targets watcher);
    }

pub distinct_at :
    (given : ℕ) (made : List IntersectionObserver) (place : ℕ) (old : IntersectionObserver) → place < length made → old ≡ get_or made place old → HasSerials (part_of given made) → IsDistinct nat_eq (targets_of (old.registrations))
distinct_at given made place old there is serials = subst (λ these. IsDistinct nat_eq (targets_of these)) (at-place made place old there is) (serials.targets place)
