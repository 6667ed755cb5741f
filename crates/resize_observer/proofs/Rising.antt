-- Observations in order of their serial numbers, and what a search by halves finds among them.
use Rattle.std.proofs.Common.{◌≡◌, ℕ, zero, suc, ◌<◌, ◌≤◌, ◌∙◌, ap, refl, sym, subst, get_or, set, length, arith, ◌==◌, inl, inr}
use Rattle.std.proofs.lemmas.Bool.{eq-eqb, ne_eqb, cond-true, cond-false, cases_lt}
use Rattle.std.proofs.lemmas.Bool.Decides.{nat_tests}
use Rattle.std.proofs.lemmas.List.{get_or-map, length-map}
use Rattle.std.proofs.lemmas.List.Elements.{All-head, All-tail, All-weaker, All-filter, All-map}
use Rattle.std.proofs.lemmas.List.Quantifiers.{all_pairs_push}
use Rattle.std.proofs.lemmas.List.Sorted.{IsNonDecreasingBy-from_default}
use Rattle.std.specs.List.Sorted.{IsNonDecreasingBy, IsPartitionPoint}
use Rattle.std.specs.Ordering.{nat_cmp, ordering_index}
use Rattle.std.specs.declared.cmp.Ordering.TheVariants.{Less, Equal, Greater}
use Rattle.std.specs.Prelude.{Bool, true, false, cond, List, [], ◌∷◌, ◌++◌, All, map, filter}
use Rattle.page_model.specs.World.{Extent, Observation as ModelObservation}
use Rattle.resize_observer.specs.declared.observation.Observation.{Observation}
use Rattle.resize_observer.specs.Observations.{seen_observation, seen_observations}
use Rattle.resize_observer.specs.Reports.{with_last}
use Rattle.resize_observer.specs.Serials.{IsRising, IsAbove}

-- the first of a list and the others

abbrev before : ModelObservation → ModelObservation → Type 0
before earlier later = earlier.serial < later.serial

first_before : (x : ModelObservation) (xs : List ModelObservation) → IsRising (x ∷ xs) → All (before x) xs
first_before x xs rising k d within = rising 0 (suc k) d (omega arith) (omega arith)

others_rise : (x : ModelObservation) (xs : List ModelObservation) → IsRising (x ∷ xs) → IsRising xs
others_rise x xs rising i j d earlier within = rising (suc i) (suc j) d (omega arith) (omega arith)

put_first : (x : ModelObservation) (xs : List ModelObservation) → All (before x) xs → IsRising xs → IsRising (x ∷ xs)
put_first x xs first rising i zero d earlier within = absurd (omega arith)
put_first x xs first rising zero (suc j) d earlier within = first j d (omega arith)
put_first x xs first rising (suc i) (suc j) d earlier within = rising i j d (omega arith) (omega arith)

-- what keeps the order

kept_or_not : (keeps : Bool) (x : ModelObservation) (xs : List ModelObservation) → All (before x) xs → IsRising xs → IsRising (cond keeps (x ∷ xs) xs)
kept_or_not true x xs first rising = put_first x xs first rising
kept_or_not false x xs first rising = rising

pub filter-rising : (keeps : ModelObservation → Bool) (xs : List ModelObservation) → IsRising xs → IsRising (filter keeps xs)
filter-rising keeps [] rising = rising
filter-rising keeps (x ∷ xs) rising =
    kept_or_not (keeps x) x (filter keeps xs) (All-filter keeps (before x) xs (first_before x xs rising)) (filter-rising keeps xs (others_rise x xs rising))

pub push-rising : (xs : List ModelObservation) (new : ModelObservation) → IsRising xs → IsAbove new.serial xs → IsRising (xs ++ new ∷ [])
push-rising xs new rising above = all_pairs_push before xs new rising above

same_serial : (last : Extent) (x : ModelObservation) (is : Bool) → (cond is (record x { last = last }) x).serial ≡ x.serial
same_serial last x true = refl
same_serial last x false = refl

pub reported-rising : (number : ℕ) (last : Extent) (xs : List ModelObservation) → IsRising xs → IsRising (map (with_last number last) xs)
reported-rising number last xs rising i j d earlier within =
    let inside : j < length xs = subst (λ n. j < n) (length-map xs (with_last number last)) within in
    let serial : (place : ℕ) → place < length xs → (get_or (map (with_last number last) xs) place d).serial ≡ (get_or xs place d).serial =
    λ place there. ap (λ (it : ModelObservation). it.serial) (get_or-map (with_last number last) xs place d d there) ∙ same_serial last (get_or xs place d) (number == (get_or xs place d).serial) in
    omega (arith, serial i (omega arith), serial j inside, rising i j d earlier inside)

-- a search by halves

numbers_rise : (xs : List Observation) (d : Observation) → IsRising (seen_observations xs) → (i j : ℕ) → i ≤ j → j < length xs → (get_or xs i d).number ≤ (get_or xs j d).number
numbers_rise xs d rising i j le within =
    let serial : (place : ℕ) → place < length xs → (get_or (seen_observations xs) place (seen_observation d)).serial ≡ (get_or xs place d).number =
    λ place there. ap (λ (it : ModelObservation). it.serial) (get_or-map seen_observation xs place d (seen_observation d) there) in
    elim (cases_lt i j) [
      | inl earlier ↦ omega (arith, serial i (omega arith), serial j within, rising i j (seen_observation d) earlier (subst (λ n. j < n) (sym (length-map xs seen_observation)) within))
      | inr later ↦ let same : i ≡ j = omega arith in omega (arith, ap (λ place. (get_or xs place d).number) same)
    ]

module _ (number : ℕ) (last : Extent) where
  others_kept : (xs : List ModelObservation) → All (λ (each : ModelObservation). number ≡ each.serial → ⊥) xs → map (with_last number last) xs ≡ xs
  others_kept [] others = refl
  others_kept (x ∷ xs) others =
      let other : ModelObservation → Type 0 = λ each. number ≡ each.serial → ⊥ in
      ap (λ (first : ModelObservation). first ∷ map (with_last number last) xs) (cond-false (number == x.serial) (record x { last = last }) x (ne_eqb number (x.serial) (All-head other x xs others)))
      ∙ ap (λ (rest : List ModelObservation). x ∷ rest) (others_kept xs (All-tail other x xs others))

  here : (xs : List ModelObservation) (place : ℕ) (d : ModelObservation) → IsRising xs → place < length xs → (get_or xs place d).serial ≡ number → set xs place (record (get_or xs place d) { last = last }) ≡ map (with_last number last) xs
  here [] place d rising within its = refl
  here (x ∷ xs) zero d rising within its =
      let later : (each : ModelObservation) → before x each → number ≡ each.serial → ⊥ = λ each above same. omega (arith, its) in
      ap (λ (first : ModelObservation). first ∷ xs) (sym (cond-true (number == x.serial) (record x { last = last }) x (eq-eqb number (x.serial) (sym its))))
      ∙ ap (λ (rest : List ModelObservation). with_last number last x ∷ rest) (sym (others_kept xs (All-weaker (before x) _ later xs (first_before x xs rising))))
  here (x ∷ xs) (suc place) d rising within its =
      let above : x.serial < (get_or xs place d).serial = first_before x xs rising place d (omega arith) in
      ap (λ (rest : List ModelObservation). x ∷ rest) (here xs place d (others_rise x xs rising) (omega arith) its)
      ∙ ap (λ (first : ModelObservation). first ∷ map (with_last number last) xs)
      (sym (cond-false (number == x.serial) (record x { last = last }) x (ne_eqb number (x.serial) (λ same. omega (arith, above, its)))))

  -- the observation at a place has the number
  pub found-reported : (xs : List Observation) (place : ℕ) (d : Observation) → IsRising (seen_observations xs) → place < length xs → nat_cmp (get_or xs place d).number number ≡ Equal → set (seen_observations xs) place (record (seen_observation (get_or xs place d)) { last = last }) ≡ map (with_last number last) (seen_observations xs)
  found-reported xs place d rising within equal =
      let at : get_or (seen_observations xs) place (seen_observation d) ≡ seen_observation (get_or xs place d) = get_or-map seen_observation xs place d (seen_observation d) within in
      let its : (get_or xs place d).number ≡ number = grind (arith, nat_tests) in
      ap (λ (it : ModelObservation). set (seen_observations xs) place (record it { last = last })) (sym at)
      ∙ here (seen_observations xs) place (seen_observation d) rising (subst (λ n. place < n) (sym (length-map xs seen_observation)) within) (ap (λ (it : ModelObservation). it.serial) at ∙ its)

  -- none has it
  pub missed-reported : (xs : List Observation) (place : ℕ) (d : Observation) → IsRising (seen_observations xs) → (IsNonDecreasingBy (λ (each : Observation). ordering_index (nat_cmp each.number number)) xs → IsPartitionPoint (λ (each : Observation). nat_cmp each.number number ≡ Less) (λ (each : Observation). nat_cmp each.number number ≡ Greater) xs place) → seen_observations xs ≡ map (with_last number last) (seen_observations xs)
  missed-reported xs place d rising parted =
      let serials_rise : (i j : ℕ) → i ≤ j → j < length xs → (get_or xs i d).number ≤ (get_or xs j d).number = numbers_rise xs d rising in
      let comparisons_rise : IsNonDecreasingBy (λ (each : Observation). ordering_index (nat_cmp each.number number)) xs = IsNonDecreasingBy-from_default (λ (each : Observation). ordering_index (nat_cmp each.number number)) xs d (λ i j le within.
      grind (arith, nat_tests, serials_rise i j le within)) in
      let parts = parted comparisons_rise in
      let none : All (λ (each : Observation). number ≡ each.number → ⊥) xs = λ k d within same. elim (cases_lt k place) [
        | inl below ↦ grind (arith, nat_tests, parts.0 k d (omega arith) below)
        | inr above ↦ grind (arith, nat_tests, parts.1 k d above within)
      ] in
      sym (others_kept (seen_observations xs) (All-map (λ (each : ModelObservation). number ≡ each.serial → ⊥) seen_observation xs none))
