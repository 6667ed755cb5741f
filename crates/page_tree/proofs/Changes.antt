-- Changes at a place of two lists, of which the second shows the first entry by entry.
use Rattle.std.proofs.Common.{◌≡◌, ℕ, zero, suc, List, [], ◌∷◌, map, Some, slice_get, refl, ap}
use Rattle.page_model.specs.Lookups.{change_at}
use Rattle.element_tree.specs.Edits.{change_at as changed_at}

module _ {A B : Type 0} (show : A → B) where
  -- what need agree is the changes of the entry at the place
  pub change_shown : (f : A → A) (g : B → B) (place : ℕ) (xs : List A) → ((x : A) → slice_get xs place ≡ Some x → g (show x) ≡ show (f x))
      → change_at g place (map show xs) ≡ map show (changed_at f place xs)
  change_shown f g place [] agree = refl
  change_shown f g zero (x ∷ xs) agree = ap (λ y. y ∷ map show xs) (agree x refl)
  change_shown f g (suc place) (x ∷ xs) agree = ap (λ ys. show x ∷ ys) (change_shown f g place xs agree)

-- changes that don't meddle with one another may be made in any order
pub changes_commute : {A : Type 0} (f g : A → A) → ((x : A) → f (g x) ≡ g (f x)) → (i j : ℕ) (xs : List A)
    → changed_at f i (changed_at g j xs) ≡ changed_at g j (changed_at f i xs)
changes_commute f g apart i j [] = refl
changes_commute f g apart zero zero (x ∷ xs) = ap (λ y. y ∷ xs) (apart x)
changes_commute f g apart zero (suc j) (x ∷ xs) = refl
changes_commute f g apart (suc i) zero (x ∷ xs) = refl
changes_commute f g apart (suc i) (suc j) (x ∷ xs) = ap (λ ys. x ∷ ys) (changes_commute f g apart i j xs)

-- what shows nothing of a change
pub change_unseen : {A B : Type 0} (show : A → B) (f : A → A) (place : ℕ) (xs : List A) → ((x : A) → slice_get xs place ≡ Some x → show (f x) ≡ show x)
    → map show (changed_at f place xs) ≡ map show xs
change_unseen show f place [] same = refl
change_unseen show f zero (x ∷ xs) same = ap (λ y. y ∷ map show xs) (same x refl)
change_unseen show f (suc place) (x ∷ xs) same = ap (λ ys. show x ∷ ys) (change_unseen show f place xs same)
