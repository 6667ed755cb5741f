-- A document's observers by place: their numbers, and the observers themselves.
use Rattle.std.proofs.Common.{◌≡◌, ℕ, zero, suc, ◌+◌, ◌<◌, ◌≤◌, ◌∙◌, ap, refl, sym, length, drop, arith, add-one}
use Rattle.std.proofs.lemmas.Option.{none-some, same_Some, slice_get-map, slice_get_within}
use Rattle.std.proofs.lemmas.List.Sums.{sum_by-cons}
use Rattle.std.specs.Prelude.{Bool, true, false, cond, ◌&&◌, ◌||◌, List, [], ◌∷◌, filter, map, sum_by, slice_get, unwrap_or, Option, Some, None, option_map}
use Rattle.std.specs.List.{list_any}
use Rattle.page_model.specs.World.{ResizeObserver, ResizeObservers}
use Rattle.page_model.specs.Lookups.{no_resize_observer, resize_observer_at}
use Rattle.page_model.specs.Gathering.{is_of}
use Rattle.page_model.specs.Intersections.{places_from}
use Rattle.resize_observer.specs.Observers.{observers_of}

-- a list from a place on begins with what stands there, and is empty past its end
pub from_place : {A : Type 0} (xs : List A) (place : ℕ) (x : A) → slice_get xs place ≡ Some x → drop place xs ≡ x ∷ drop (suc place) xs
from_place [] place x there = absurd (none-some x there)
from_place (y ∷ ys) zero x there = ap (λ first. first ∷ ys) (same_Some y x there)
from_place (y ∷ ys) (suc place) x there = from_place ys place x there

pub past_end : {A : Type 0} (xs : List A) (place : ℕ) → slice_get xs place ≡ None → drop place xs ≡ []
past_end [] zero past = refl
past_end [] (suc place) past = refl
past_end (y ∷ ys) zero past = absurd (none-some y (sym past))
past_end (y ∷ ys) (suc place) past = past_end ys place past

got-dropped : {A : Type 0} (xs : List A) (place : ℕ) → slice_get xs place ≡ slice_get (drop place xs) 0
got-dropped [] zero = refl
got-dropped [] (suc place) = refl
got-dropped (x ∷ xs) zero = refl
got-dropped (x ∷ xs) (suc place) = got-dropped xs place

dropped-again : {A : Type 0} (xs : List A) (place : ℕ) → drop (suc place) xs ≡ drop 1 (drop place xs)
dropped-again [] zero = refl
dropped-again [] (suc place) = refl
dropped-again (x ∷ xs) zero = refl
dropped-again (x ∷ xs) (suc place) = dropped-again xs place

-- what stands at a place from which a list is known, and the list behind it
pub first_from : {A : Type 0} (xs : List A) (place : ℕ) (y : A) (ys : List A) → drop place xs ≡ y ∷ ys → slice_get xs place ≡ Some y
first_from xs place y ys from = got-dropped xs place ∙ ap (λ these. slice_get these 0) from

pub rest_from : {A : Type 0} (xs : List A) (place : ℕ) (y : A) (ys : List A) → drop place xs ≡ y ∷ ys → drop (suc place) xs ≡ ys
rest_from xs place y ys from = dropped-again xs place ∙ ap (drop 1) from

abbrev pub at_in : List ResizeObserver → ℕ → ResizeObserver
at_in made n = unwrap_or (slice_get made n) no_resize_observer

listed-first : (is : Bool) (made : List ResizeObserver) (number : ℕ) (x : ResizeObserver) (places : List ℕ) (others : List ResizeObserver) → at_in made number ≡ x → map (at_in made) places ≡ others → map (at_in made) (cond is (number ∷ places) places) ≡ cond is (x ∷ others) others
listed-first true made number x places others same rest = ap (λ first. first ∷ map (at_in made) places) same ∙ ap (λ these. x ∷ these) rest
listed-first false made number x places others same rest = rest

-- the observers at the numbers that pass are those that pass
listed : (test : ResizeObserver → Bool) (made : List ResizeObserver) (number : ℕ) (xs : List ResizeObserver) → drop number made ≡ xs → map (at_in made) (places_from number test xs) ≡ filter test xs
listed test made number [] from = refl
listed test made number (x ∷ xs) from =
    listed-first (test x) made number x (places_from (suc number) test xs) (filter test xs)
    (ap (λ found. unwrap_or found no_resize_observer) (first_from made number x xs from))
    (listed test made (suc number) xs (rest_from made number x xs from))

-- the observer of a document that stands at a place among those of this document
abbrev pub nth_in : ResizeObservers → ℕ → ℕ → Option ℕ
nth_in it document place = slice_get (observers_of it document) place

-- a document's observers
abbrev pub its_of : ℕ → ResizeObservers → List ResizeObserver
its_of document it = filter (is_of document) it.made

at-place : (document : ℕ) (it : ResizeObservers) (place : ℕ) → slice_get (its_of document it) place ≡ option_map (resize_observer_at it) (nth_in it document place)
at-place document it place =
    ap (λ (these : List ResizeObserver). slice_get these place) (sym (listed (is_of document) it.made 0 it.made refl))
    ∙ slice_get-map (resize_observer_at it) (observers_of it document) place

pub its_next : (document : ℕ) (it : ResizeObservers) (place n : ℕ) → Some n ≡ nth_in it document place → drop place (its_of document it) ≡ resize_observer_at it n ∷ drop (place + 1) (its_of document it)
its_next document it place n found =
    from_place (its_of document it) place (resize_observer_at it n) (at-place document it place ∙ ap (option_map (resize_observer_at it)) (sym found))
    ∙ ap (λ next. resize_observer_at it n ∷ drop next (its_of document it)) (sym (add-one place))

abbrev pub active_in : List ResizeObserver → ℕ
active_in observers = sum_by (λ (it : ResizeObserver). length it.active) observers

-- what is active in the next observer is counted, and what is active in those behind it is still to be
pub counted_next :
    (document : ℕ) (it : ResizeObservers) (place n number total : ℕ) → Some n ≡ nth_in it document place → number + active_in (drop place (its_of document it)) ≡ total →
    number + length (resize_observer_at it n).active + active_in (drop (place + 1) (its_of document it)) ≡ total
counted_next document it place n number total found so_far =
    let more : active_in (drop place (its_of document it)) ≡ length (resize_observer_at it n).active + active_in (drop (place + 1) (its_of document it)) =
    ap active_in (its_next document it place n found) ∙ sum_by-cons (λ (each : ResizeObserver). length each.active) (resize_observer_at it n) (drop (place + 1) (its_of document it)) in
    omega (arith, more, so_far)

pub its_end : (document : ℕ) (it : ResizeObservers) (place : ℕ) → None ≡ nth_in it document place → drop place (its_of document it) ≡ []
its_end document it place past = past_end (its_of document it) place (at-place document it place ∙ ap (option_map (resize_observer_at it)) (sym past))

pub its_within : (document : ℕ) (it : ResizeObservers) (place n : ℕ) → Some n ≡ nth_in it document place → place < length (its_of document it)
its_within document it place n found = slice_get_within (its_of document it) place (resize_observer_at it n) (at-place document it place ∙ ap (option_map (resize_observer_at it)) (sym found))

any-first : {A : Type 0} (is : Bool) (also : A → Bool) (x : A) (ys : List A) (others : Bool) → list_any also ys ≡ others → list_any also (cond is (x ∷ ys) ys) ≡ ((is && also x) || others)
any-first true also x ys others rest = ap (λ more. also x || more) rest
any-first false also x ys others rest = rest

pub any_of : {A : Type 0} (test also : A → Bool) (xs : List A) → list_any also (filter test xs) ≡ list_any (λ x. test x && also x) xs
any_of test also [] = refl
any_of test also (x ∷ xs) = any-first (test x) also x (filter test xs) (list_any (λ y. test y && also y) xs) (any_of test also xs)

-- an observer's number is no less than its place
number-first : (is : Bool) (number : ℕ) (places : List ℕ) (place n : ℕ) → ((p : ℕ) → slice_get places p ≡ Some n → suc number + p ≤ n) → slice_get (cond is (number ∷ places) places) place ≡ Some n → number + place ≤ n
number-first true number places zero n later found = let same : number ≡ n = same_Some number n found in omega (arith, same)
number-first true number places (suc place) n later found = let more : suc number + place ≤ n = later place found in omega (arith, more)
number-first false number places place n later found = let more : suc number + place ≤ n = later place found in omega (arith, more)

number-bound : (test : ResizeObserver → Bool) (number : ℕ) (xs : List ResizeObserver) (place n : ℕ) → slice_get (places_from number test xs) place ≡ Some n → number + place ≤ n
number-bound test number [] place n found = absurd (none-some n found)
number-bound test number (x ∷ xs) place n found = number-first (test x) number (places_from (suc number) test xs) place n (λ p. number-bound test (suc number) xs p n) found

pub place_bound : (document : ℕ) (it : ResizeObservers) (place n : ℕ) → Some n ≡ nth_in it document place → place ≤ n
place_bound document it place n found = let bound : 0 + place ≤ n = number-bound (is_of document) 0 it.made place n (sym found) in omega (arith, bound)
