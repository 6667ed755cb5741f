-- The serial numbers and targets of an observer's registrations, through changes of them.
use Rattle.std.proofs.Common.{◌≡◌, ℕ, zero, suc, ◌<◌, ◌+◌, ◌∙◌, ap, refl, sym, subst, length, arith}
use Rattle.std.specs.Prelude.{true, false, cond, not, ◌==◌, ◌||◌, nat_eq, List, [], ◌∷◌, ◌++◌, map, find, All, Option, Some, None, option_map}
use Rattle.std.specs.List.{list_any, IsDistinct, AllByRecursion}
use Rattle.std.proofs.lemmas.Bool.{eq-eqb, eqb-true, eqb-false, ne_eqb, or_parts}
use Rattle.std.proofs.lemmas.Cmp.{nat_eq_equiv}
use Rattle.std.proofs.lemmas.Option.{same_Some}
use Rattle.std.proofs.lemmas.List.{map_push}
use Rattle.std.proofs.lemmas.List.Edits.{length-remove}
use Rattle.std.proofs.lemmas.List.Elements.{All-nil, All-cons, All-head, All-tail}
use Rattle.std.proofs.lemmas.Map.Keys.{IsDistinct-push}
use Rattle.page_model.specs.World.{Finding, Registration}
use Rattle.page_model.specs.Intersections.{Settled, settled}
use Rattle.page_model.specs.IntersectionObserving.{is_registered}
use Rattle.intersection_observer.specs.Places.{has_serial, target_in}
use Rattle.intersection_observer.specs.Serials.{targets_of}
use Rattle.intersection_observer.specs.Settling.{settled_if}
use Rattle.intersection_observer.specs.Watchers.{serial_of, without_target}
use Rattle.intersection_observer.proofs.Only.{NoneFor, IsOnly, none-without, only-without}

-- these have the same serial numbers and targets in the same order

abbrev pub subjects_of : List Registration → List (ℕ × ℕ)
subjects_of xs = map {B = ℕ × ℕ} (λ (it : Registration). (it.serial, it.target)) xs

found_in : ℕ → List (ℕ × ℕ) → Option ℕ
found_in serial subjects = option_map (λ (it : ℕ × ℕ). it.1) (find (λ (it : ℕ × ℕ). it.0 == serial) subjects)

by_subjects : (serial : ℕ) (xs : List Registration) → target_in serial xs ≡ found_in serial (subjects_of xs)
unfolding found_in
by_subjects serial [] = refl
by_subjects serial (x ∷ xs) =
    elim (x.serial == serial) as (λ is. option_map (λ (it : Registration). it.target) (cond is (Some x) (find (has_serial serial) xs)) ≡ option_map {T = ℕ × ℕ} (λ (it : ℕ × ℕ). it.1) (cond is (Some (x.serial, x.target)) (find (λ (it : ℕ × ℕ). it.0 == serial) (subjects_of xs)))) [
      | true ↦ refl
      | false ↦ by_subjects serial xs
    ]

pub same-target_in : (serial : ℕ) (xs ys : List Registration) → subjects_of xs ≡ subjects_of ys → target_in serial xs ≡ target_in serial ys
same-target_in serial xs ys same = by_subjects serial xs ∙ ap (found_in serial) same ∙ sym (by_subjects serial ys)

all_subjects : (P : ℕ × ℕ → Type 0) (xs : List Registration) → All (λ (it : Registration). P (it.serial, it.target)) xs → All P (subjects_of xs)
all_subjects P [] all = All-nil P
all_subjects P (x ∷ xs) all = All-cons P (x.serial, x.target) (subjects_of xs) (All-head (λ (it : Registration). P (it.serial, it.target)) x xs all) (all_subjects P xs (All-tail (λ (it : Registration). P (it.serial, it.target)) x xs all))

of_subjects : (P : ℕ × ℕ → Type 0) (xs : List Registration) → All P (subjects_of xs) → All (λ (it : Registration). P (it.serial, it.target)) xs
of_subjects P [] all = All-nil (λ (it : Registration). P (it.serial, it.target))
of_subjects P (x ∷ xs) all = All-cons (λ (it : Registration). P (it.serial, it.target)) x xs (All-head P (x.serial, x.target) (subjects_of xs) all) (of_subjects P xs (All-tail P (x.serial, x.target) (subjects_of xs) all))

pub same-all : (P : ℕ × ℕ → Type 0) (xs ys : List Registration) → subjects_of xs ≡ subjects_of ys → All (λ (it : Registration). P (it.serial, it.target)) ys → All (λ (it : Registration). P (it.serial, it.target)) xs
same-all P xs ys same all = of_subjects P xs (subst (All P) (sym same) (all_subjects P ys all))

targets_by : (xs : List Registration) → targets_of xs ≡ map (λ (it : ℕ × ℕ). it.1) (subjects_of xs)
targets_by [] = refl
targets_by (x ∷ xs) = ap (λ others. x.target ∷ others) (targets_by xs)

pub same-targets : (xs ys : List Registration) → subjects_of xs ≡ subjects_of ys → targets_of xs ≡ targets_of ys
same-targets xs ys same = targets_by xs ∙ ap (map (λ (it : ℕ × ℕ). it.1)) same ∙ sym (targets_by ys)

count_by_subjects : (xs : List Registration) → length (subjects_of xs) ≡ length xs
count_by_subjects [] = refl
count_by_subjects (x ∷ xs) = ap suc (count_by_subjects xs)

pub same-count : (xs ys : List Registration) → subjects_of xs ≡ subjects_of ys → length xs ≡ length ys
same-count xs ys same = sym (count_by_subjects xs) ∙ ap (λ these. length these) same ∙ count_by_subjects ys

pub settled-subjects : (n time : ℕ) (now : Finding) (xs : List Registration) → subjects_of (map (λ (it : Settled). it.registration) (map (settled_if n time now) xs)) ≡ subjects_of xs
settled-subjects n time now [] = refl
settled-subjects n time now (x ∷ xs) =
    elim (x.target == n) as (λ is. subjects_of ((cond is (settled time now x) (record { registration = x; entry = None })).registration ∷ map (λ (it : Settled). it.registration) (map (settled_if n time now) xs)) ≡ subjects_of (x ∷ xs)) [
      | true ↦ ap (λ others. (x.serial, x.target) ∷ others) (settled-subjects n time now xs)
      | false ↦ ap (λ others. (x.serial, x.target) ∷ others) (settled-subjects n time now xs)
    ]

-- one more registration, last

pub push-other : (serial : ℕ) (xs : List Registration) (new : Registration) → (new.serial == serial) ≡ false → target_in serial (xs ++ new ∷ []) ≡ target_in serial xs
push-other serial [] new other = ap (λ b. option_map (λ (it : Registration). it.target) (cond b (Some new) None)) other
push-other serial (x ∷ xs) new other =
    elim (x.serial == serial) as (λ is. option_map (λ (it : Registration). it.target) (cond is (Some x) (find (has_serial serial) (xs ++ new ∷ []))) ≡ option_map (λ (it : Registration). it.target) (cond is (Some x) (find (has_serial serial) xs))) [
      | true ↦ refl
      | false ↦ push-other serial xs new other
    ]

pub push-itself : (xs : List Registration) (new : Registration) → target_in (new.serial) xs ≡ None → target_in (new.serial) (xs ++ new ∷ []) ≡ Some (new.target)
push-itself [] new none = ap (λ b. option_map (λ (it : Registration). it.target) (cond b (Some new) None)) (eq-eqb (new.serial) (new.serial) refl)
push-itself (x ∷ xs) new none =
    elim (x.serial == new.serial) as (λ is. option_map (λ (it : Registration). it.target) (cond is (Some x) (find (has_serial (new.serial)) xs)) ≡ None → option_map (λ (it : Registration). it.target) (cond is (Some x) (find (has_serial (new.serial)) (xs ++ new ∷ []))) ≡ Some (new.target)) [
      | true ↦ λ absent. cc
      | false ↦ λ absent. push-itself xs new absent
    ] none

not_among : (n : ℕ) (xs : List Registration) → is_registered n xs ≡ false → list_any (nat_eq n) (targets_of xs) ≡ false
not_among n [] none = refl
not_among n (x ∷ xs) none =
    let parts = or_parts (x.target == n) (is_registered n xs) none in
    ap (λ b. b || list_any (nat_eq n) (targets_of xs)) (nat_eq_equiv.symm n (x.target) ∙ parts.0) ∙ not_among n xs (parts.1)

pub push-distinct : (xs : List Registration) (new : Registration) → IsDistinct nat_eq (targets_of xs) → is_registered (new.target) xs ≡ false → IsDistinct nat_eq (targets_of (xs ++ new ∷ []))
push-distinct xs new distinct none =
    subst (IsDistinct nat_eq) (sym (map_push (λ (it : Registration). it.target) xs new)) (IsDistinct-push nat_eq_equiv (targets_of xs) (new.target) distinct (not_among (new.target) xs none))

-- a registration taken out

pub record IsSole (n serial : ℕ) (xs : List Registration) : Type 0 where
  pub place : ℕ
  pub registration : Registration
  pub only : IsOnly n place registration xs
  pub number : registration.serial ≡ serial

pub none_of : (n k : ℕ) (xs : List Registration) → AllByRecursion (λ other. nat_eq k other ≡ false) (targets_of xs) → n ≡ k → NoneFor n xs
none_of n k [] apart same = tt
none_of n k (x ∷ xs) apart same = (nat_eq_equiv.symm (x.target) n ∙ ap (λ m. m == x.target) same ∙ apart.0, none_of n k xs (apart.1) same)

pub sole : (n serial : ℕ) (xs : List Registration) → IsDistinct nat_eq (targets_of xs) → serial_of n xs ≡ Some serial → IsSole n serial xs
unfolding IsDistinct
sole n serial [] distinct found = cc
sole n serial (x ∷ xs) distinct found =
    elim (x.target == n) as (λ is. (x.target == n) ≡ is → option_map (λ (it : Registration). it.serial) (cond is (Some x) (find (λ (it : Registration). it.target == n) xs)) ≡ Some serial → IsSole n serial (x ∷ xs)) [
      | true ↦ λ is at. record { place = 0; registration = x; only = (refl, is, none_of n (x.target) xs (distinct.0) (sym (eqb-true (x.target) n is))); number = same_Some (x.serial) serial at }
      | false ↦ λ is at. let rest : IsSole n serial xs = sole n serial xs (distinct.1) at in record { place = suc rest.place; registration = rest.registration; only = (is, rest.only); number = rest.number }
    ] refl found

-- other serial numbers stay
pub without-other : (serial n place : ℕ) (it : Registration) (xs : List Registration) → IsOnly n place it xs → (it.serial == serial) ≡ false → target_in serial (without_target n xs) ≡ target_in serial xs
without-other serial n place it [] only other = absurd only
without-other serial n zero it (x ∷ xs) only other =
    ap (λ b. target_in serial (cond (not b) (x ∷ without_target n xs) (without_target n xs))) (only.1)
    ∙ ap (target_in serial) (none-without n xs (only.2))
    ∙ ap (λ b. option_map (λ (it : Registration). it.target) (cond b (Some x) (find (has_serial serial) xs))) (sym (ap (λ (y : Registration). y.serial == serial) (sym (only.0)) ∙ other))
without-other serial n (suc place) it (x ∷ xs) only other =
    ap (λ b. target_in serial (cond (not b) (x ∷ without_target n xs) (without_target n xs))) (only.0) ∙ elim (x.serial == serial) as (λ is. option_map (λ (it : Registration). it.target) (cond is (Some x) (find (has_serial serial) (without_target n xs))) ≡ option_map (λ (it : Registration). it.target) (cond is (Some x) (find (has_serial serial) xs))) [
      | true ↦ refl
      | false ↦ without-other serial n place it xs (only.1) other
    ]

-- its own is gone
pub without-itself : (serial n : ℕ) (xs : List Registration) → All (λ (each : Registration). each.serial ≡ serial → each.target ≡ n) xs → target_in serial (without_target n xs) ≡ None
without-itself serial n [] all = refl
without-itself serial n (x ∷ xs) all =
    let rest : target_in serial (without_target n xs) ≡ None = without-itself serial n xs (All-tail (λ (each : Registration). each.serial ≡ serial → each.target ≡ n) x xs all) in
    elim (x.target == n) as (λ is. (x.target == n) ≡ is → target_in serial (cond (not is) (x ∷ without_target n xs) (without_target n xs)) ≡ None) [
      | true ↦ λ is. rest
      | false ↦ λ is. let other : (x.serial == serial) ≡ false = ne_eqb (x.serial) serial (λ same. eqb-false (x.target) n is (All-head (λ (each : Registration). each.serial ≡ serial → each.target ≡ n) x xs all same)) in ap (λ b. option_map (λ (it : Registration). it.target) (cond b (Some x) (find (has_serial serial) (without_target n xs)))) other ∙ rest
    ] refl

pub kept_all : (P : Registration → Type 0) (n : ℕ) (xs : List Registration) → All P xs → All (λ (it : Registration). P it × ((it.target == n) ≡ false)) (without_target n xs)
kept_all P n [] all = All-nil (λ (it : Registration). P it × ((it.target == n) ≡ false))
kept_all P n (x ∷ xs) all =
    elim (x.target == n) as (λ is. (x.target == n) ≡ is → All (λ (it : Registration). P it × ((it.target == n) ≡ false)) (cond (not is) (x ∷ without_target n xs) (without_target n xs))) [
      | true ↦ λ is. kept_all P n xs (All-tail P x xs all)
      | false ↦ λ is. All-cons (λ (it : Registration). P it × ((it.target == n) ≡ false)) x (without_target n xs) (All-head P x xs all, is) (kept_all P n xs (All-tail P x xs all))
    ] refl

apart_without : (k n : ℕ) (xs : List Registration) → AllByRecursion (λ other. nat_eq k other ≡ false) (targets_of xs) → AllByRecursion (λ other. nat_eq k other ≡ false) (targets_of (without_target n xs))
apart_without k n [] apart = tt
apart_without k n (x ∷ xs) apart =
    elim (x.target == n) as (λ is. AllByRecursion (λ other. nat_eq k other ≡ false) (targets_of (cond (not is) (x ∷ without_target n xs) (without_target n xs)))) [
      | true ↦ apart_without k n xs (apart.1)
      | false ↦ (apart.0, apart_without k n xs (apart.1))
    ]

pub without-distinct : (n : ℕ) (xs : List Registration) → IsDistinct nat_eq (targets_of xs) → IsDistinct nat_eq (targets_of (without_target n xs))
unfolding IsDistinct
without-distinct n [] distinct = tt
without-distinct n (x ∷ xs) distinct =
    elim (x.target == n) as (λ is. IsDistinct nat_eq (targets_of (cond (not is) (x ∷ without_target n xs) (without_target n xs)))) [
      | true ↦ without-distinct n xs (distinct.1)
      | false ↦ (apart_without (x.target) n xs (distinct.0), without-distinct n xs (distinct.1))
    ]

-- the registration of a serial number is among these
pub found-all : (P : ℕ × ℕ → Type 0) (serial target : ℕ) (xs : List Registration) → target_in serial xs ≡ Some target → All (λ (it : Registration). P (it.serial, it.target)) xs → P (serial, target)
found-all P serial target [] found all = cc
found-all P serial target (x ∷ xs) found all =
    elim (x.serial == serial) as (λ is. (x.serial == serial) ≡ is → option_map (λ (it : Registration). it.target) (cond is (Some x) (find (has_serial serial) xs)) ≡ Some target → P (serial, target)) [
      | true ↦ λ is at. subst P (ap (λ (s : ℕ). (s, x.target)) (eqb-true (x.serial) serial is) ∙ ap (λ (t : ℕ). (serial, t)) (same_Some (x.target) target at)) (All-head (λ (it : Registration). P (it.serial, it.target)) x xs all)
      | false ↦ λ is at. found-all P serial target xs at (All-tail (λ (it : Registration). P (it.serial, it.target)) x xs all)
    ] refl found

only-within : (n place : ℕ) (it : Registration) (xs : List Registration) → IsOnly n place it xs → place < length xs
only-within n place it [] only = absurd only
only-within n zero it (x ∷ xs) only = omega arith
only-within n (suc place) it (x ∷ xs) only = omega (arith, only-within n place it xs (only.1))

-- what holds of each holds of the only one for a target

pub only-all : (P : Registration → Type 0) (n place : ℕ) (it : Registration) (xs : List Registration) → IsOnly n place it xs → All P xs → P it
only-all P n place it [] only all = absurd only
only-all P n zero it (x ∷ xs) only all = subst P (sym (only.0)) (All-head P x xs all)
only-all P n (suc place) it (x ∷ xs) only all = only-all P n place it xs (only.1) (All-tail P x xs all)

pub only-target : (n place : ℕ) (it : Registration) (xs : List Registration) → IsOnly n place it xs → it.target ≡ n
only-target n place it [] only = absurd only
only-target n zero it (x ∷ xs) only = ap (λ (each : Registration). each.target) (only.0) ∙ eqb-true (x.target) n (only.1)
only-target n (suc place) it (x ∷ xs) only = only-target n place it xs (only.1)

pub only-count : (n place : ℕ) (it : Registration) (xs : List Registration) → IsOnly n place it xs → length (without_target n xs) + 1 ≡ length xs
only-count n place it xs only = ap (λ these. length these + 1) (sym (only-without n place it xs only)) ∙ length-remove xs place (only-within n place it xs only)
