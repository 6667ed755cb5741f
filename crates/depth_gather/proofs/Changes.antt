-- Observers changed in their places.
use Rattle.std.proofs.Common.{◌≡◌, ℕ, zero, suc, ◌<◌, ◌∙◌, ap, refl, length, arith}
use Rattle.std.specs.Prelude.{Bool, true, false, cond, List, [], ◌∷◌, map, slice_get, unwrap_or}
use Rattle.page_model.specs.Lookups.{change_at, change_each}
use Rattle.page_model.specs.Intersections.{places_from}

module _ {A : Type 0} where
  pub changed-twice : (f g : A → A) (n : ℕ) (xs : List A) → change_at f n (change_at g n xs) ≡ change_at (λ x. f (g x)) n xs
  changed-twice f g n [] = refl
  changed-twice f g zero (x ∷ xs) = refl
  changed-twice f g (suc n) (x ∷ xs) = ap (λ others. x ∷ others) (changed-twice f g n xs)

  -- changes that agree where they change
  pub changed-same : (f g : A → A) (n : ℕ) (xs : List A) (none : A) → f (unwrap_or (slice_get xs n) none) ≡ g (unwrap_or (slice_get xs n) none) → change_at f n xs ≡ change_at g n xs
  changed-same f g n [] none same = refl
  changed-same f g zero (x ∷ xs) none same = ap (λ first. first ∷ xs) same
  changed-same f g (suc n) (x ∷ xs) none same = ap (λ others. x ∷ others) (changed-same f g n xs none same)

  pub unchanged : (n : ℕ) (xs : List A) → change_at (λ x. x) n xs ≡ xs
  unchanged n [] = refl
  unchanged zero (x ∷ xs) = refl
  unchanged (suc n) (x ∷ xs) = ap (λ others. x ∷ others) (unchanged n xs)

  pub at-changed : (f : A → A) (n : ℕ) (xs : List A) (none : A) → n < length xs → unwrap_or (slice_get (change_at f n xs) n) none ≡ f (unwrap_or (slice_get xs n) none)
  at-changed f n [] none there = absurd (omega arith)
  at-changed f zero (x ∷ xs) none there = refl
  at-changed f (suc n) (x ∷ xs) none there = at-changed f n xs none (omega arith)

  -- a change that a test doesn't see
  pub places-kept : (test : A → Bool) (f : A → A) → ((x : A) → test (f x) ≡ test x) → (number n : ℕ) (xs : List A) → places_from number test (change_at f n xs) ≡ places_from number test xs
  places-kept test f keeps number n [] = refl
  places-kept test f keeps number zero (x ∷ xs) = ap (λ is. cond is (number ∷ places_from (suc number) test xs) (places_from (suc number) test xs)) (keeps x)
  places-kept test f keeps number (suc n) (x ∷ xs) = ap (λ others. cond (test x) (number ∷ others) others) (places-kept test f keeps (suc number) n xs)

  later-if :
      (is : Bool) (f : A → A) (number : ℕ) (places before : List ℕ) (y : A) (ys : List A) → ((these : List A) → change_each f places (y ∷ these) ≡ y ∷ change_each f before these) →
      change_each f (cond is (suc number ∷ places) places) (y ∷ ys) ≡ y ∷ change_each f (cond is (number ∷ before) before) ys
  later-if true f number places before y ys later = later (change_at f number ys)
  later-if false f number places before y ys later = later ys

  changed-later : (test : A → Bool) (f : A → A) (number : ℕ) (xs : List A) (y : A) (ys : List A) → change_each f (places_from (suc number) test xs) (y ∷ ys) ≡ y ∷ change_each f (places_from number test xs) ys
  changed-later test f number [] y ys = refl
  changed-later test f number (x ∷ xs) y ys = later-if (test x) f number (places_from (suc (suc number)) test xs) (places_from (suc number) test xs) y ys (changed-later test f (suc number) xs y)

  first-if :
      (is : Bool) (f : A → A) (places : List ℕ) (x : A) (xs others : List A) → ((y : A) → change_each f places (y ∷ xs) ≡ y ∷ others) →
      change_each f (cond is (0 ∷ places) places) (x ∷ xs) ≡ cond is (f x) x ∷ others
  first-if true f places x xs others later = later (f x)
  first-if false f places x xs others later = later x

  -- changing each that passes, place by place or all at once
  pub changed-each : (test : A → Bool) (f g : A → A) → ((x : A) → cond (test x) (f x) x ≡ g x) → (xs : List A) → change_each f (places_from 0 test xs) xs ≡ map g xs
  changed-each test f g same [] = refl
  changed-each test f g same (x ∷ xs) =
      first-if (test x) f (places_from 1 test xs) x xs (map g xs) (λ y. changed-later test f 0 xs y xs ∙ ap (λ others. y ∷ others) (changed-each test f g same xs))
      ∙ ap (λ first. first ∷ map g xs) (same x)
