-- Observers that are passed over because nothing is active.
use Rattle.std.proofs.Common.{◌≡◌, ℕ, zero, suc, ◌+◌, ◌<◌, ◌≤◌, ◌∙◌, ap, refl, sym, subst, length, length-drop, length-append, take, drop, arith, add-one, inl, inr}
use Rattle.std.proofs.Math.Nat.{eq-or-lt_of_le}
use Rattle.std.proofs.lemmas.Option.{slice_get_past}
use Rattle.std.proofs.lemmas.Bool.{false≢true, cond-true, cond-false, ne_eqb}
use Rattle.std.specs.Prelude.{Bool, true, false, not, cond, ◌==◌, List, [], ◌∷◌, ◌++◌, filter, slice_get, Option, Some, None, unwrap_or}
use Rattle.page_model.specs.World.{Observation, ResizeObserver, ResizeObservers}
use Rattle.page_model.specs.Lookups.{no_resize_observer, resize_observer_at}
use Rattle.page_model.specs.Gathering.{is_filled, is_of, due_at}
use Rattle.page_model.specs.Intersections.{places_from}
use Rattle.resize_observer.specs.Observers.{observers_of}
use Rattle.depth_gather.specs.Deliveries.{Turn, first_turn, active_at, turn_from}
use Rattle.depth_gather.specs.Turning.{IsNext}
use Rattle.depth_gather.proofs.Gatherings.{filter_last, one_more}
use Rattle.depth_gather.proofs.Places.{nth_in, from_place, past_end, first_from, rest_from}

abbrev turn_at : ℕ → ℕ → Turn
turn_at observer place = record { observer = observer; place = place }

pub turn_here : (document : ℕ) (it : ResizeObservers) (place n : ℕ) → Some n ≡ nth_in it document place → is_filled (active_at it n) ≡ true → Some (turn_at n (place + 1)) ≡ turn_from document place it
turn_here document it place n found filled =
    let places : List ℕ = observers_of it document in
    ap (λ next. Some (turn_at n next)) (add-one place)
    ∙ sym (cond-true (is_filled (active_at it n)) (Some (turn_at n (suc place))) (first_turn (active_at it) (suc place) (drop (suc place) places)) filled)
    ∙ ap (first_turn (active_at it) place) (sym (from_place places place n (sym found)))

pub turn_later : (document : ℕ) (it : ResizeObservers) (place n : ℕ) → Some n ≡ nth_in it document place → is_filled (active_at it n) ≡ false → turn_from document (place + 1) it ≡ turn_from document place it
turn_later document it place n found filled =
    let places : List ℕ = observers_of it document in
    ap (λ next. first_turn (active_at it) next (drop next places)) (add-one place)
    ∙ sym (cond-false (is_filled (active_at it n)) (Some (turn_at n (suc place))) (first_turn (active_at it) (suc place) (drop (suc place) places)) filled)
    ∙ ap (first_turn (active_at it) place) (sym (from_place places place n (sym found)))

pub turn_none : (document : ℕ) (it : ResizeObservers) (place : ℕ) → None ≡ nth_in it document place → turn_from document place it ≡ None
turn_none document it place past = ap (first_turn (active_at it) place) (past_end (observers_of it document) place (sym past))

-- whether a list has something, by its length
pub filled : (xs : List Observation) (count : ℕ) (empty : Bool) → count ≡ length xs → empty ≡ (count == 0) → is_filled xs ≡ not empty
filled [] count empty counted is = sym (ap not (is ∙ ap (λ n. n == 0) counted))
filled (x ∷ xs) count empty counted is = sym (ap not (is ∙ ne_eqb count 0 (λ none. omega (arith, none, counted))))

-- places beside numbers: nothing is due at the numbers that are passed over

pub record Reached (document : ℕ) (it : ResizeObservers) (number : ℕ) (turn : Turn) : Type 0 where
  pub ahead : number ≤ turn.observer
  pub between : (n : ℕ) → number ≤ n → n < turn.observer → due_at document n it ≡ []
  pub due : due_at document turn.observer it ≡ active_at it turn.observer
  pub next : IsNext document turn.place (suc turn.observer) it

abbrev pub Passed : ℕ → ResizeObservers → ℕ → Option Turn → Type 0
Passed document it number None = (n : ℕ) → number ≤ n → due_at document n it ≡ []
Passed document it number (Some turn) = Reached document it number turn

at-or-later : (P : ℕ → Type 0) (number n : ℕ) → P number → number ≤ n → (suc number ≤ n → P n) → P n
at-or-later P number n here from later = elim (eq-or-lt_of_le from) [ inl same ↦ subst P same here | inr less ↦ later (omega (arith, less)) ]

one-passed : (document : ℕ) (it : ResizeObservers) (number : ℕ) (turn : Option Turn) → due_at document number it ≡ [] → Passed document it (suc number) turn → Passed document it number turn
one-passed document it number None idle later = λ n from. at-or-later (λ m. due_at document m it ≡ []) number n idle from (λ after. later n after)
one-passed document it number (Some turn) idle later = record {
  ahead = omega (arith, later.ahead);
  between = λ n from below. at-or-later (λ m. due_at document m it ≡ []) number n idle from (λ after. later.between n after below);
  due = later.due;
  next = later.next;
}

none-filled : (xs : List Observation) → is_filled xs ≡ false → xs ≡ []
none-filled [] is = refl
none-filled (x ∷ xs) is = absurd (false≢true (sym is))

passed-filled :
    (is : Bool) (document : ℕ) (it : ResizeObservers) (place number : ℕ) (others : Option Turn) → is_filled (active_at it number) ≡ is → due_at document number it ≡ active_at it number →
    IsNext document (suc place) (suc number) it → Passed document it (suc number) others → Passed document it number (cond is (Some (turn_at number (suc place))) others)
passed-filled true document it place number others filled due next later = record { ahead = omega arith; between = λ n from below. absurd (omega (arith, from, below)); due = due; next = next }
passed-filled false document it place number others filled due next later = one-passed document it number others (due ∙ none-filled (active_at it number) filled) later

passed-first :
    (is : Bool) (document : ℕ) (it : ResizeObservers) (place number : ℕ) (others : List ℕ) → ((resize_observer_at it number).document == document) ≡ is →
    length (filter (is_of document) (take (suc number) it.made)) ≡ cond is (suc place) place →
    ((next : ℕ) → IsNext document next (suc number) it → Passed document it (suc number) (first_turn (active_at it) next others)) → Passed document it number (first_turn (active_at it) place (cond is (number ∷ others) others))
passed-first true document it place number others its counted later =
    passed-filled (is_filled (active_at it number)) document it place number (first_turn (active_at it) (suc place) others) refl
    (cond-true ((resize_observer_at it number).document == document) (resize_observer_at it number).active [] its) (sym counted) (later (suc place) (sym counted))
passed-first false document it place number others its counted later =
    one-passed document it number (first_turn (active_at it) place others) (cond-false ((resize_observer_at it number).document == document) (resize_observer_at it number).active [] its) (later place (sym counted))

last-counted : {A : Type 0} (is : Bool) (xs : List A) (x : A) (place : ℕ) → place ≡ length xs → length (cond is (xs ++ x ∷ []) xs) ≡ cond is (suc place) place
last-counted true xs x place long = omega (arith, length-append xs (x ∷ []), long)
last-counted false xs x place long = sym long

one-counted : (test : ResizeObserver → Bool) (made : List ResizeObserver) (number place : ℕ) (x : ResizeObserver) → slice_get made number ≡ Some x → place ≡ length (filter test (take number made)) → length (filter test (take (suc number) made)) ≡ cond (test x) (suc place) place
one-counted test made number place x there counted =
    ap (λ (these : List ResizeObserver). length (filter test these)) (ap (λ n. take n made) (sym (add-one number)) ∙ one_more made number x there)
    ∙ ap (λ (these : List ResizeObserver). length these) (filter_last test (take number made) x (test x) refl)
    ∙ last-counted (test x) (filter test (take number made)) x place counted

either-none : (is : Bool) (xs : List Observation) → xs ≡ [] → cond is xs [] ≡ []
either-none true xs idle = idle
either-none false xs idle = refl

none-past : (document : ℕ) (it : ResizeObservers) (number n : ℕ) → drop number it.made ≡ [] → number ≤ n → due_at document n it ≡ []
none-past document it number n end from =
    let short : length it.made ≤ number = omega (arith, length-drop number it.made, ap (λ (these : List ResizeObserver). length these) end) in
    either-none ((resize_observer_at it n).document == document) (resize_observer_at it n).active
    (ap (λ found. (unwrap_or found no_resize_observer).active) (slice_get_past it.made n (omega (arith, short, from))))

passed-from : (document : ℕ) (it : ResizeObservers) (xs : List ResizeObserver) (place number : ℕ) → drop number it.made ≡ xs → IsNext document place number it → Passed document it number (first_turn (active_at it) place (places_from number (is_of document) xs))
passed-from document it [] place number is next = λ n from. none-past document it number n is from
passed-from document it (x ∷ xs) place number is next =
    let there : slice_get it.made number ≡ Some x = first_from it.made number x xs is in
    passed-first (is_of document x) document it place number (places_from (suc number) (is_of document) xs) (ap (λ found. is_of document (unwrap_or found no_resize_observer)) there)
    (one-counted (is_of document) it.made number place x there next)
    (λ after behind. passed-from document it xs after (suc number) (rest_from it.made number x xs is) behind)

-- the document's observers from the place that a number has are those from this number on
dropped-first : {A : Type 0} (is : Bool) (x : A) (xs : List A) (number : ℕ) (places others : List ℕ) → drop (length xs) places ≡ others → drop (length (cond is (x ∷ xs) xs)) (cond is (number ∷ places) places) ≡ others
dropped-first true x xs number places others rest = rest
dropped-first false x xs number places others rest = rest

dropped-places : (test : ResizeObserver → Bool) (start number from : ℕ) (made : List ResizeObserver) → from ≡ start + number → drop (length (filter test (take number made))) (places_from start test made) ≡ places_from from test (drop number made)
dropped-places test start zero from made sum = let same : start ≡ from = omega (arith, sum) in ap (λ n. places_from n test made) same
dropped-places test start (suc number) from [] sum = refl
dropped-places test start (suc number) from (x ∷ xs) sum =
    dropped-first (test x) x (filter test (take number xs)) start (places_from (suc start) test xs) (places_from from test (drop number xs)) (dropped-places test (suc start) number from xs (omega (arith, sum)))

pub passed : (document : ℕ) (it : ResizeObservers) (place number : ℕ) → IsNext document place number it → Passed document it number (turn_from document place it)
passed document it place number next =
    let from : drop place (observers_of it document) ≡ places_from number (is_of document) (drop number it.made) =
    ap (λ at. drop at (observers_of it document)) next ∙ dropped-places (is_of document) 0 number number it.made (omega arith) in
    subst (λ (places : List ℕ). Passed document it number (first_turn (active_at it) place places)) (sym from) (passed-from document it (drop number it.made) place number refl next)
