-- Gathering target by target, and observer by observer.
use Rattle.std.proofs.Common.{◌≡◌, ℕ, ◌+◌, ◌<◌, ◌≤◌, ◌∙◌, ap, refl, sym, subst, length, take, drop, get_or, arith, add-one}
use Rattle.std.proofs.lemmas.List.{append-nil, take_all, take_more, length-take}
use Rattle.std.proofs.lemmas.Option.{get_or_from_slice_get, slice_get_within}
use Rattle.std.proofs.lemmas.List.Elements.{filter-append}
use Rattle.std.proofs.lemmas.List.Filters.{length-filter_both}
use Rattle.std.proofs.lemmas.List.Sums.{sum_by-cons}
use Rattle.std.proofs.lemmas.Bool.{false≢true}
use Rattle.std.proofs.lemmas.Option.{slice_get-get_or, slice_get-map}
use Rattle.std.specs.Prelude.{Bool, true, false, cond, not, List, [], ◌∷◌, ◌++◌, filter, map, sum_by, slice_get, Some, None, option_map, option_to_list}
use Rattle.page_model.specs.World.{Observation as ModelObservation, ResizeObserver, ResizeObservers}
use Rattle.page_model.specs.Lookups.{no_resize_observer, change_at, change_each}
use Rattle.page_model.specs.Gathering.{Sight, has_changed, is_deeper, gathered, gathered_if, gathering, is_of}
use Rattle.page_model.specs.ResizeObserving.{resize_observations}
use Rattle.resize_observer.specs.declared.observation.Observation.{Observation}
use Rattle.resize_observer.specs.Observations.{seen_observation, seen_observations}
use Rattle.resize_observer.specs.Observers.{HeldObservers, observers_of, observer_at, nth_of, changing, gathered_at, list_for}
use Rattle.depth_gather.specs.Gathering.{gathered_of, gathered_first, active_count}
use Rattle.depth_gather.proofs.Places.{from_place, past_end}
use Rattle.depth_gather.proofs.Changes.{changed-twice, changed-same, unchanged, at-changed, places-kept, changed-each}

-- one observer changed, and changed again

pub changing_twice : (f g : ResizeObserver → ResizeObserver) (n : ℕ) (it : HeldObservers) → changing f n (changing g n it) ≡ changing (λ x. f (g x)) n it
changing_twice f g n it = ap (λ (made : List ResizeObserver). record it { part = record (it.part) { made = made } }) (changed-twice f g n it.part.made)

pub changing_same : (f g : ResizeObserver → ResizeObserver) (n : ℕ) (it : HeldObservers) → f (observer_at it n) ≡ g (observer_at it n) → changing f n it ≡ changing g n it
changing_same f g n it same = ap (λ (made : List ResizeObserver). record it { part = record (it.part) { made = made } }) (changed-same f g n it.part.made no_resize_observer same)

pub changing_none : (n : ℕ) (it : HeldObservers) → changing (λ x. x) n it ≡ it
changing_none n it = ap (λ (made : List ResizeObserver). record it { part = record (it.part) { made = made } }) (unchanged n it.part.made)

pub at_changing : (f : ResizeObserver → ResizeObserver) (n : ℕ) (it now : HeldObservers) → now ≡ changing f n it → n < length it.part.made → observer_at now n ≡ f (observer_at it n)
at_changing f n it now is there = ap (λ (these : HeldObservers). observer_at these n) is ∙ at-changed f n it.part.made no_resize_observer there

-- one target more

pub filter_last : {A : Type 0} (test : A → Bool) (xs : List A) (x : A) (is : Bool) → test x ≡ is → filter test (xs ++ x ∷ []) ≡ cond is (filter test xs ++ x ∷ []) (filter test xs)
filter_last test xs x true is = filter-append test xs (x ∷ []) ∙ ap (λ passes. filter test xs ++ cond passes (x ∷ []) []) is
filter_last test xs x false is = filter-append test xs (x ∷ []) ∙ ap (λ passes. filter test xs ++ cond passes (x ∷ []) []) is ∙ append-nil (filter test xs)

pub one_more : {A : Type 0} (xs : List A) (place : ℕ) (x : A) → slice_get xs place ≡ Some x → take (place + 1) xs ≡ take place xs ++ x ∷ []
one_more xs place x there = take_more xs place x (slice_get_within xs place x there) ∙ ap (λ last. take place xs ++ last ∷ []) (get_or_from_slice_get xs place x x there)

-- what stands at a place of the observations is seen there
pub target_read : (items : List Observation) (targets : List ModelObservation) (place : ℕ) (none : Observation) → seen_observations items ≡ targets → place < length items → slice_get targets place ≡ Some (seen_observation (get_or items place none))
target_read items targets place none seen there =
    ap (λ (these : List ModelObservation). slice_get these place) (sym seen) ∙ slice_get-map seen_observation items place ∙ ap (option_map seen_observation) (slice_get-get_or items place none there)

-- the lists that an observation was put on
abbrev with_last_of : Bool → ModelObservation → ResizeObserver → ResizeObserver
with_last_of true x o = record o { active = o.active ++ x ∷ [] }
with_last_of false x o = record o { skipped = o.skipped ++ x ∷ [] }

put-last : (deeper : Bool) (x : ModelObservation) (o : ResizeObserver) (active skipped : List ModelObservation) →
    record o { active = cond deeper (active ++ x ∷ []) active; skipped = cond (not deeper) (skipped ++ x ∷ []) skipped } ≡ with_last_of deeper x (record o { active = active; skipped = skipped })
put-last true x o active skipped = refl
put-last false x o active skipped = refl

of-changed :
    (sight : Sight) (depth : ℕ) (xs : List ModelObservation) (x : ModelObservation) (o : ResizeObserver) → has_changed sight x ≡ true →
    gathered_of sight depth (xs ++ x ∷ []) o ≡ with_last_of (is_deeper sight depth x) x (gathered_of sight depth xs o)
of-changed sight depth xs x o changed =
    let before : List ModelObservation = filter (has_changed sight) xs in
    let deeper : ModelObservation → Bool = is_deeper sight depth in
    ap (λ (these : List ModelObservation). record o { active = filter deeper these; skipped = filter (λ each. not (deeper each)) these }) (filter_last (has_changed sight) xs x true changed)
    ∙ ap (λ (these : List ModelObservation). record o { active = these; skipped = filter (λ each. not (deeper each)) (before ++ x ∷ []) }) (filter_last deeper before x (deeper x) refl)
    ∙ ap (λ (these : List ModelObservation). record o { active = cond (deeper x) (filter deeper before ++ x ∷ []) (filter deeper before); skipped = these }) (filter_last (λ each. not (deeper each)) before x (not (deeper x)) refl)
    ∙ put-last (deeper x) x o (filter deeper before) (filter (λ each. not (deeper each)) before)

put-there : (active : Bool) (place : ℕ) (x : ModelObservation) (o : ResizeObserver) → slice_get o.targets place ≡ Some x → gathered_at place active o ≡ with_last_of active x o
put-there true place x o there = ap (λ found. record o { active = o.active ++ option_to_list found }) there
put-there false place x o there = ap (λ found. record o { skipped = o.skipped ++ option_to_list found }) there

step_changed :
    (sight : Sight) (depth place : ℕ) (x : ModelObservation) (o : ResizeObserver) (active : Bool) → o ≡ gathered_first sight depth place o → slice_get o.targets place ≡ Some x →
    has_changed sight x ≡ true → active ≡ is_deeper sight depth x → gathered_at place active o ≡ gathered_first sight depth (place + 1) o
step_changed sight depth place x o active before there changed is =
    put-there active place x o there
    ∙ ap (λ deeper. with_last_of deeper x o) is
    ∙ ap (with_last_of (is_deeper sight depth x) x) before
    ∙ sym (of-changed sight depth (take place o.targets) x o changed)
    ∙ ap (λ (these : List ModelObservation). gathered_of sight depth these o) (sym (one_more o.targets place x there))

step_same :
    (sight : Sight) (depth place : ℕ) (x : ModelObservation) (o : ResizeObserver) → o ≡ gathered_first sight depth place o → slice_get o.targets place ≡ Some x →
    has_changed sight x ≡ false → o ≡ gathered_first sight depth (place + 1) o
step_same sight depth place x o before there changed =
    let deeper : ModelObservation → Bool = is_deeper sight depth in
    before
    ∙ ap (λ (these : List ModelObservation). record o { active = filter deeper these; skipped = filter (λ each. not (deeper each)) these }) (sym (filter_last (has_changed sight) (take place o.targets) x false changed))
    ∙ ap (λ (these : List ModelObservation). gathered_of sight depth these o) (sym (one_more o.targets place x there))

-- a list that is gathered from the first targets leaves room for one more

filter-most : {A : Type 0} (test : A → Bool) (xs : List A) → length (filter test xs) ≤ length xs
filter-most test xs = omega (arith, length-filter_both test (λ x. not (test x)) (λ x. refl) xs)

list-most : (sight : Sight) (depth : ℕ) (xs : List ModelObservation) (o : ResizeObserver) (active : Bool) → length (list_for active (gathered_of sight depth xs o)) ≤ length xs
list-most sight depth xs o true = omega (arith, filter-most (has_changed sight) xs, filter-most (is_deeper sight depth) (filter (has_changed sight) xs))
list-most sight depth xs o false = omega (arith, filter-most (has_changed sight) xs, filter-most (λ x. not (is_deeper sight depth x)) (filter (has_changed sight) xs))

pub room_left : (sight : Sight) (depth place : ℕ) (o : ResizeObserver) (active : Bool) → o ≡ gathered_first sight depth place o → place < length o.targets → length (list_for active o) < length o.targets
room_left sight depth place o active before there =
    let most : length (list_for active o) ≤ length (take place o.targets) = subst (λ (it : ResizeObserver). length (list_for active it) ≤ length (take place o.targets)) (sym before) (list-most sight depth (take place o.targets) o active) in
    omega (arith, most, length-take place o.targets, there)

-- the target at a place is gathered, where those before it are

pub gathered_changed :
    (sight : Sight) (depth place n : ℕ) (it now : HeldObservers) (items : List Observation) (none : Observation) (active : Bool) →
    observer_at it n ≡ gathered_first sight depth place (observer_at it n) → seen_observations items ≡ (observer_at it n).targets → place < length items →
    has_changed sight (seen_observation (get_or items place none)) ≡ true → active ≡ is_deeper sight depth (seen_observation (get_or items place none)) →
    now ≡ changing (gathered_at place active) n it → now ≡ changing (gathered_first sight depth (place + 1)) n it
gathered_changed sight depth place n it now items none active before seen there changed deeper is =
    is
    ∙ changing_same (gathered_at place active) (gathered_first sight depth (place + 1)) n it
    (step_changed sight depth place (seen_observation (get_or items place none)) (observer_at it n) active before (target_read items (observer_at it n).targets place none seen there) changed deeper)

pub gathered_same :
    (sight : Sight) (depth place n : ℕ) (it : HeldObservers) (items : List Observation) (none : Observation) →
    observer_at it n ≡ gathered_first sight depth place (observer_at it n) → seen_observations items ≡ (observer_at it n).targets → place < length items →
    has_changed sight (seen_observation (get_or items place none)) ≡ false → it ≡ changing (gathered_first sight depth (place + 1)) n it
gathered_same sight depth place n it items none before seen there changed =
    sym (changing_none n it)
    ∙ changing_same (λ x. x) (gathered_first sight depth (place + 1)) n it
    (step_same sight depth place (seen_observation (get_or items place none)) (observer_at it n) before (target_read items (observer_at it n).targets place none seen there) changed)

pub all_gathered : (sight : Sight) (depth place : ℕ) (o : ResizeObserver) → length o.targets ≤ place → gathered_first sight depth place o ≡ gathered sight depth o
all_gathered sight depth place o all = ap (λ (these : List ModelObservation). gathered_of sight depth these o) (take_all place o.targets all)

-- what is active after gathering is no more than all observers hold

first-within : {A : Type 0} (f g : A → ℕ) (is : Bool) (x : A) (xs ys : List A) → (is ≡ true → f x ≤ g x) → sum_by f xs ≤ sum_by g ys → sum_by f (cond is (x ∷ xs) xs) ≤ sum_by g (x ∷ ys)
first-within f g true x xs ys one rest = omega (arith, one refl, rest, sum_by-cons f x xs, sum_by-cons g x ys)
first-within f g false x xs ys one rest = omega (arith, rest, sum_by-cons g x ys)

sum-within : {A B : Type 0} (test : B → Bool) (f g : B → ℕ) (made : A → B) → ((x : A) → test (made x) ≡ true → f (made x) ≤ g (made x)) → (xs : List A) → sum_by f (filter test (map made xs)) ≤ sum_by g (map made xs)
sum-within test f g made each [] = omega arith
sum-within test f g made each (x ∷ xs) = first-within f g (test (made x)) (made x) (filter test (map made xs)) (map made xs) (each x) (sum-within test f g made each xs)

one-within : (sight : Sight) (document depth : ℕ) (o : ResizeObserver) (is : Bool) → is_of document o ≡ is → is_of document (gathered_if is sight depth o) ≡ true → length (gathered_if is sight depth o).active ≤ length (gathered_if is sight depth o).targets
one-within sight document depth o true same its = list-most sight depth o.targets o true
one-within sight document depth o false same its = absurd (false≢true (sym same ∙ its))

pub active_within : (sight : Sight) (document depth : ℕ) (it : ResizeObservers) → active_count document (gathering sight document depth it) ≤ resize_observations (gathering sight document depth it)
active_within sight document depth it =
    sum-within (is_of document) (λ (o : ResizeObserver). length o.active) (λ (o : ResizeObserver). length o.targets) (λ (o : ResizeObserver). gathered_if (is_of document o) sight depth o)
    (λ o. one-within sight document depth o (is_of document o) refl) it.made

-- observer by observer

-- what is to come of gathering, from a place on
abbrev pub left_from : Sight → ℕ → ℕ → ℕ → HeldObservers → HeldObservers
left_from sight document depth place it = record it { part = record (it.part) { made = change_each (gathered sight depth) (drop place (observers_of it.part document)) it.part.made } }

if_same : (is : Bool) (sight : Sight) (depth : ℕ) (o : ResizeObserver) → cond is (gathered sight depth o) o ≡ gathered_if is sight depth o
if_same true sight depth o = refl
if_same false sight depth o = refl

pub left_first : (sight : Sight) (document depth : ℕ) (it : HeldObservers) → left_from sight document depth 0 it ≡ record it { part = gathering sight document depth (it.part) }
left_first sight document depth it = ap (λ (made : List ResizeObserver). record it { part = record (it.part) { made = made } }) (changed-each (is_of document) (gathered sight depth) (λ observer. gathered_if (is_of document observer) sight depth observer) (λ observer. if_same (is_of document observer) sight depth observer) it.part.made)

-- gathering leaves the document's observers where they are
pub places_same : (sight : Sight) (document depth n : ℕ) (it now : HeldObservers) → now ≡ changing (gathered sight depth) n it → observers_of now.part document ≡ observers_of it.part document
places_same sight document depth n it now is =
    ap (λ (these : HeldObservers). observers_of these.part document) is ∙ places-kept (is_of document) (gathered sight depth) (λ x. refl) 0 n it.part.made

pub left_next : (sight : Sight) (document depth place n : ℕ) (it now : HeldObservers) → Some n ≡ nth_of it document place → now ≡ changing (gathered sight depth) n it → left_from sight document depth (place + 1) now ≡ left_from sight document depth place it
left_next sight document depth place n it now found is =
    let change : ResizeObserver → ResizeObserver = gathered sight depth in
    let made : List ResizeObserver = change_at change n it.part.made in
    ap (left_from sight document depth (place + 1)) is
    ∙ ap (λ (places : List ℕ). record it { part = record (it.part) { made = change_each change (drop (place + 1) places) made } }) (places-kept (is_of document) change (λ x. refl) 0 n it.part.made)
    ∙ ap (λ next. record it { part = record (it.part) { made = change_each change (drop next (observers_of it.part document)) made } }) (add-one place)
    ∙ ap (λ (places : List ℕ). record it { part = record (it.part) { made = change_each change places it.part.made } }) (sym (from_place (observers_of it.part document) place n (sym found)))

pub left_none : (sight : Sight) (document depth place : ℕ) (it : HeldObservers) → None ≡ nth_of it document place → left_from sight document depth place it ≡ it
left_none sight document depth place it past =
    ap (λ (places : List ℕ). record it { part = record (it.part) { made = change_each (gathered sight depth) places it.part.made } }) (past_end (observers_of it.part document) place (sym past))
