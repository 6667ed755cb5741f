-- What is left of a batch once an entry was handed out.
use Rattle.std.proofs.Common.{◌≡◌, ◌<◌, Bool, true, false, List, [], ◌∷◌, length, Option, refl, arith}
use Rattle.std.specs.Prelude.{Some, None, cond, filter, find, option_map, IfSome}
use Rattle.std.specs.List.{AllByRecursion}
use Rattle.event_tables.specs.Handed.{behind_first}

-- nothing was handed out
pub none_found : {A B : Type 0} (f : A → B) (found : Option A) → None ≡ option_map f found → found ≡ None
none_found f None is = refl
none_found f (Some it) is = cc

shorter-at : {A B : Type 0} (f : A → B) (test : A → Bool) (y : B) (first : A) (others : List A) (answer : Bool) → Some y ≡ option_map f (cond answer (Some first) (find test others))
    → (Some y ≡ option_map f (find test others) → length (behind_first test others) < length others) → length (cond answer others (behind_first test others)) < length (first ∷ others)
shorter-at f test y first others true is later = omega arith
shorter-at f test y first others false is later = let less : length (behind_first test others) < length others = later is in omega arith

-- fewer are left
pub fewer_left : {A B : Type 0} (f : A → B) (test : A → Bool) (y : B) (entries : List A) → Some y ≡ option_map f (find test entries) → length (behind_first test entries) < length entries
fewer_left f test y [] is = absurd (cc)
fewer_left f test y (first ∷ others) is = shorter-at f test y first others (test first) is (fewer_left f test y others)

module _ {A : Type 0} (P : A → Type 0) (test : A → Bool) where
  found-at : (first : A) (others : List A) (answer : Bool) → P first → IfSome (find test others) P → IfSome (cond answer (Some first) (find test others)) P
  found-at first others true is later = is
  found-at first others false is later = later

  -- what is so of all is so of the one that was handed out
  pub found_of_all : (entries : List A) → AllByRecursion P entries → IfSome (find test entries) P
  found_of_all [] all = tt
  found_of_all (first ∷ others) all = found-at first others (test first) all.0 (found_of_all others all.1)

  left-at : (others : List A) (answer : Bool) → AllByRecursion P others → AllByRecursion P (behind_first test others) → AllByRecursion P (cond answer others (behind_first test others))
  left-at others true all later = all
  left-at others false all later = later

  -- and of those that are left
  pub left_of_all : (entries : List A) → AllByRecursion P entries → AllByRecursion P (behind_first test entries)
  left_of_all [] all = tt
  left_of_all (first ∷ others) all = left-at others (test first) all.1 (left_of_all others all.1)

module _ {A : Type 0} (P : A → Type 0) (test : A → Bool) (so : (entry : A) → test entry ≡ true → P entry) where
  passed-at : (first : A) (passed : List A) (answer : Bool) → (answer ≡ true → P first) → AllByRecursion P passed → AllByRecursion P (cond answer (first ∷ passed) passed)
  passed-at first passed true is later = (is refl, later)
  passed-at first passed false is later = later

  -- what a test means is so of all that pass it
  pub passed_of_all : (entries : List A) → AllByRecursion P (filter test entries)
  passed_of_all [] = tt
  passed_of_all (first ∷ others) = passed-at first (filter test others) (test first) (so first) (passed_of_all others)

-- no entry passes a test that none passes
pub none_passes : {A : Type 0} (entries : List A) → find (λ (it : A). false) entries ≡ None
none_passes [] = refl
none_passes (first ∷ others) = none_passes others
