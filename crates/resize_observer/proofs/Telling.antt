-- The tables that tell where the observers of each document are, through the changes of observers.
use Rattle.std.proofs.Common.{◌≡◌, ℕ, zero, suc, ◌<◌, ◌≤◌, ◌+◌, ◌∙◌, ap, refl, sym, get_or, set, length, length-append, arith, cond, nat_eq}
use Rattle.std.proofs.lemmas.Bool.{eqb-true}
use Rattle.std.proofs.lemmas.Bool.Decides.{nat_tests}
use Rattle.std.proofs.lemmas.List.{append-nil}
use Rattle.std.specs.HashMap.{get}
use Rattle.std.specs.Prelude.{Bool, true, false, ◌&&◌, List, [], ◌∷◌, ◌++◌, slice_get, unwrap_or, Option, Some}
use Rattle.page_model.specs.World.{ResizeObserver}
use Rattle.page_model.specs.Gathering.{is_of}
use Rattle.page_model.specs.Intersections.{places_from}
use Rattle.resize_observer.specs.declared.documents.Documents.{Documents}
use Rattle.resize_observer.specs.Documents.{Tells, numbers_of, same_key}

-- the places at which a test holds
module _ {A : Type 0} (test : A → Bool) where
  before_more : (passes : Bool) (from : ℕ) (xs ys : List ℕ) → cond passes (from ∷ (xs ++ ys)) (xs ++ ys) ≡ cond passes (from ∷ xs) xs ++ ys
  before_more true from xs ys = refl
  before_more false from xs ys = refl

  pub places-push : (from : ℕ) (xs : List A) (x : A) → places_from from test (xs ++ x ∷ []) ≡ places_from from test xs ++ cond (test x) ((from + length xs) ∷ []) []
  places-push from [] x = let same : from ≡ from + 0 = omega arith in ap (λ n. cond (test x) (n ∷ []) []) same
  places-push from (y ∷ ys) x =
      let same : suc from + length ys ≡ from + suc (length ys) = omega arith in
      ap (λ others. cond (test y) (from ∷ others) others) (places-push (suc from) ys x ∙ ap (λ n. places_from (suc from) test ys ++ cond (test x) (n ∷ []) []) same)
      ∙ before_more (test y) from (places_from (suc from) test ys) (cond (test x) ((from + suc (length ys)) ∷ []) [])

  pub places-set : (from : ℕ) (xs : List A) (place : ℕ) (x y : A) → place < length xs → x ≡ get_or xs place x → test y ≡ test x → places_from from test (set xs place y) ≡ places_from from test xs
  places-set from [] place x y within is same = refl
  places-set from (z ∷ zs) zero x y within is same = ap (λ passes. cond passes (from ∷ places_from (suc from) test zs) (places_from (suc from) test zs)) (same ∙ ap test is)
  places-set from (z ∷ zs) (suc place) x y within is same = ap (λ others. cond (test z) (from ∷ others) others) (places-set (suc from) zs place x y (omega arith) is same)

  one_more : (passes : Bool) (from : ℕ) (others : List ℕ) (n : ℕ) → length others ≤ n → length (cond passes (from ∷ others) others) ≤ suc n
  one_more true from others n few = omega arith
  one_more false from others n few = omega arith

  pub places-few : (from : ℕ) (xs : List A) → length (places_from from test xs) ≤ length xs
  places-few from [] = omega arith
  places-few from (x ∷ xs) = one_more (test x) from (places_from (suc from) test xs) (length xs) (places-few (suc from) xs)

  within_more : (passes : Bool) (from : ℕ) (others : List ℕ) (count place n : ℕ) → ((k : ℕ) → slice_get others k ≡ Some n → n < suc from + count) → slice_get (cond passes (from ∷ others) others) place ≡ Some n → n < from + suc count
  within_more true from others count zero n below is = omega (arith, ap (λ found. unwrap_or found 0) is)
  within_more true from others count (suc place) n below is = omega (arith, below place is)
  within_more false from others count place n below is = omega (arith, below place is)

  pub places-within : (from : ℕ) (xs : List A) (place n : ℕ) → slice_get (places_from from test xs) place ≡ Some n → n < from + length xs
  places-within from [] place n is = absurd (cc)
  places-within from (x ∷ xs) place n is = within_more (test x) from (places_from (suc from) test xs) (length xs) place n (λ k. places-within (suc from) xs k n) is

-- one more observer

slice_get-push : (xs : List ℕ) (x k : ℕ) → slice_get (xs ++ x ∷ []) k ≡ cond (nat_eq (length xs) k) (Some x) (slice_get xs k)
slice_get-push [] x zero = refl
slice_get-push [] x (suc k) = grind (arith, nat_tests)
slice_get-push (y ∷ ys) x zero = grind (arith, nat_tests)
slice_get-push (y ∷ ys) x (suc k) = grind (arith, nat_tests, slice_get-push ys x k)

looked_up : (own : Bool) (count place number : ℕ) (xs : List ℕ) → (own ≡ true → count ≡ length xs) → cond (own && nat_eq count place) (Some number) (slice_get xs place) ≡ slice_get (xs ++ cond own (number ∷ []) []) place
looked_up true count place number xs counts = ap (λ n. cond (nat_eq n place) (Some number) (slice_get xs place)) (counts refl) ∙ sym (slice_get-push xs number place)
looked_up false count place number xs counts = ap (λ these. slice_get these place) (sym (append-nil xs))

counted_up : (own : Bool) (count number : ℕ) (xs : List ℕ) (was : Option ℕ) → (own ≡ true → count ≡ length xs) → unwrap_or was 0 ≡ length xs → unwrap_or (cond own (Some (count + 1)) was) 0 ≡ length (xs ++ cond own (number ∷ []) [])
counted_up true count number xs was counts told = omega (arith, counts refl, length-append xs (number ∷ []))
counted_up false count number xs was counts told = told ∙ ap (λ (these : List ℕ). length these) (sym (append-nil xs))

pub tells-more :
    (document number : ℕ) (before after : Documents) (made : List ResizeObserver) (new : ResizeObserver) →
    ((q : ℕ) → get nat_eq after.counts q ≡ cond (nat_eq document q) (Some (unwrap_or (get nat_eq before.counts document) 0 + 1)) (get nat_eq before.counts q)) →
    ((q : ℕ × ℕ) → get same_key after.numbers q ≡ cond (same_key (document, unwrap_or (get nat_eq before.counts document) 0) q) (Some number) (get same_key before.numbers q)) →
    Tells before made → length made ≡ number → new.document ≡ document → Tells after (made ++ new ∷ [])
tells-more document number before after made new counts numbers told long its =
    let count : ℕ = unwrap_or (get nat_eq before.counts document) 0 in
    let of_own : (q : ℕ) → nat_eq document q ≡ true → count ≡ length (numbers_of q made) = λ q own. told.counted document ∙ ap (λ d. length (numbers_of d made)) (eqb-true document q own) in
    let more : (q : ℕ) → numbers_of q made ++ cond (nat_eq document q) (number ∷ []) [] ≡ numbers_of q (made ++ new ∷ []) = λ q.
    let at : number ≡ 0 + length made = omega (arith, long) in
    ap (λ d. numbers_of q made ++ cond (nat_eq d q) (number ∷ []) []) (sym its)
    ∙ ap (λ n. numbers_of q made ++ cond (is_of q new) (n ∷ []) []) at
    ∙ sym (places-push (is_of q) 0 made new) in
    record {
      counted = λ q.
          ap (λ found. unwrap_or found 0) (counts q)
          ∙ counted_up (nat_eq document q) count number (numbers_of q made) (get nat_eq before.counts q) (of_own q) (told.counted q)
          ∙ ap (λ (these : List ℕ). length these) (more q);
      found = λ q place.
          numbers (q, place)
          ∙ ap (cond (nat_eq document q && nat_eq count place) (Some number)) (told.found q place)
          ∙ looked_up (nat_eq document q) count place number (numbers_of q made) (of_own q)
          ∙ ap (λ these. slice_get these place) (more q);
    }

-- one observer changed in its place, which stays its document's
pub tells-changed : (it : Documents) (made : List ResizeObserver) (place : ℕ) (old new : ResizeObserver) → place < length made → old ≡ get_or made place old → new.document ≡ old.document → Tells it made → Tells it (set made place new)
tells-changed it made place old new there is same told =
    let stay : (q : ℕ) → numbers_of q made ≡ numbers_of q (set made place new) = λ q. sym (places-set (is_of q) 0 made place old new there is (ap (λ d. nat_eq d q) same)) in
    record {
      counted = λ q. told.counted q ∙ ap (λ (these : List ℕ). length these) (stay q);
      found = λ q at. told.found q at ∙ ap (λ these. slice_get these at) (stay q);
    }
