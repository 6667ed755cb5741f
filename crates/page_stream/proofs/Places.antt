-- Places of pages, and what is added behind a list.
use Rattle.std.proofs.Common.{◌≡◌, refl, ap, ℕ, suc, ◌+◌, ◌<◌, ◌≤◌, nat_lt, Bool, true, false, cond, not, ◌||◌, List, [], ◌∷◌, ◌++◌, length, Some, None, unwrap_or, arith}
use Rattle.std.proofs.lemmas.Bool.Decides.{nat_tests}
use Rattle.std.specs.List.{AllByRecursion, list_any, position, position_or_len}

any-at : (test rest : Bool) (n len : ℕ) → (n < len → rest ≡ true) → cond (not test) (1 + n) 0 < suc len → (test || rest) ≡ true
any-at true rest n len later less = refl
any-at false rest n len later less = later (omega arith)

pub any_placed : {A : Type 0} (p : A → Bool) (xs : List A) → position_or_len p xs < length xs → list_any p xs ≡ true
any_placed p [] less = absurd (omega arith)
any_placed p (x ∷ xs) less = any-at (p x) (list_any p xs) (position_or_len p xs) (length xs) (any_placed p xs) less

none-at : (test rest : Bool) (n len : ℕ) → (len ≤ n → rest ≡ false) → suc len ≤ cond (not test) (1 + n) 0 → (test || rest) ≡ false
none-at true rest n len later past = absurd (omega arith)
none-at false rest n len later past = later (omega arith)

pub none_placed : {A : Type 0} (p : A → Bool) (xs : List A) → length xs ≤ position_or_len p xs → list_any p xs ≡ false
none_placed p [] past = refl
none_placed p (x ∷ xs) past = none-at (p x) (list_any p xs) (position_or_len p xs) (length xs) (none_placed p xs) past

within-at : (test : Bool) (n len : ℕ) → n ≤ len → cond (not test) (1 + n) 0 ≤ suc len
within-at true n len within = omega arith
within-at false n len within = omega arith

place_within : {A : Type 0} (p : A → Bool) (xs : List A) → position_or_len p xs ≤ length xs
place_within p [] = omega arith
place_within p (x ∷ xs) = within-at (p x) (position_or_len p xs) (length xs) (place_within p xs)

found-at : (less : Bool) (n len : ℕ) → nat_lt n len ≡ less → n ≤ len → unwrap_or (cond less (Some n) None) len ≡ n
found-at true n len is within = refl
found-at false n len is within = grind (arith, nat_tests)

-- the place that is found, or how many there are
pub place_found : {A : Type 0} (p : A → Bool) (xs : List A) → unwrap_or (position p xs) (length xs) ≡ position_or_len p xs
place_found p xs = found-at (nat_lt (position_or_len p xs) (length xs)) (position_or_len p xs) (length xs) refl (place_within p xs)

kept-at : (test : Bool) (n m len : ℕ) → (n < len → m ≡ n) → cond (not test) (1 + n) 0 < suc len → cond (not test) (1 + m) 0 ≡ cond (not test) (1 + n) 0
kept-at true n m len later less = refl
kept-at false n m len later less = ap (λ k. 1 + k) (later (omega arith))

-- the place of what stands in a list is the same in a longer one
pub place_kept : {A : Type 0} (p : A → Bool) (xs : List A) (y : A) → position_or_len p xs < length xs → position_or_len p (xs ++ (y ∷ [])) ≡ position_or_len p xs
place_kept p [] y less = absurd (omega arith)
place_kept p (x ∷ xs) y less =
    kept-at (p x) (position_or_len p xs) (position_or_len p (xs ++ (y ∷ []))) (length xs) (place_kept p xs y) less

added-at : (test : Bool) (n m len : ℕ) → (len ≤ n → m ≡ len) → suc len ≤ cond (not test) (1 + n) 0 → cond (not test) (1 + m) 0 ≡ suc len
added-at true n m len later past = absurd (omega arith)
added-at false n m len later past = let same : m ≡ len = later (omega arith) in omega arith

-- what isn't in a list stands behind it once it is added
pub place_added : {A : Type 0} (p : A → Bool) (xs : List A) (y : A) → length xs ≤ position_or_len p xs → p y ≡ true → position_or_len p (xs ++ (y ∷ [])) ≡ length xs
place_added p [] y past passes = ap (λ test. cond (not test) (1 + 0) 0) passes
place_added p (x ∷ xs) y past passes =
    added-at (p x) (position_or_len p xs) (position_or_len p (xs ++ (y ∷ []))) (length xs) (λ later. place_added p xs y later passes) past

pub all_more : {A : Type 0} (P : A → Type 0) (xs : List A) (y : A) → AllByRecursion P xs → P y → AllByRecursion P (xs ++ (y ∷ []))
all_more P [] y here last = (last, tt)
all_more P (x ∷ xs) y here last = (here.0, all_more P xs y here.1 last)
