-- Entries put at a number of a list that has a default past its end.
use Rattle.std.proofs.Common.{◌≡◌, ℕ, zero, suc, ◌<◌, ◌≤◌, ◌+◌, ◌∙◌, List, [], ◌∷◌, ◌++◌, length, set, replicate, refl, ap, arith}
use Rattle.std.specs.Prelude.{map}
use Rattle.page_model.specs.Lookups.{entry_or, put_at}

put_only : {A : Type 0} (d v : A) (n : ℕ) → replicate n d ++ v ∷ [] ≡ put_at d n v []
put_only d v zero = refl
put_only d v (suc n) = ap (λ more. d ∷ more) (put_only d v n)

-- past the end: the list is filled up, and the entry follows
pub put_behind : {A : Type 0} (d v : A) (n k : ℕ) (xs : List A) → length xs + k ≡ n → (xs ++ replicate k d) ++ v ∷ [] ≡ put_at d n v xs
put_behind d v n k [] same = let all : k ≡ n = omega (arith, same) in ap (λ m. replicate m d ++ v ∷ []) all ∙ put_only d v n
put_behind d v zero k (x ∷ xs) same = absurd (omega (arith, same))
put_behind d v (suc n) k (x ∷ xs) same = ap (λ more. x ∷ more) (put_behind d v n k xs (omega (arith, same)))

pub put_within : {A : Type 0} (d v : A) (n : ℕ) (xs : List A) → n < length xs → set xs n v ≡ put_at d n v xs
put_within d v n [] there = absurd (omega (arith, there))
put_within d v zero (x ∷ xs) there = refl
put_within d v (suc n) (x ∷ xs) there = ap (λ more. x ∷ more) (put_within d v n xs (omega (arith, there)))

pub map-put : {A B : Type 0} (f : A → B) (d v : A) (n : ℕ) (xs : List A) → map f (put_at d n v xs) ≡ put_at (f d) n (f v) (map f xs)
map-put f d v zero [] = refl
map-put f d v (suc n) [] = ap (λ more. f d ∷ more) (map-put f d v n [])
map-put f d v zero (x ∷ xs) = refl
map-put f d v (suc n) (x ∷ xs) = ap (λ more. f x ∷ more) (map-put f d v n xs)

pub put_read : {A : Type 0} (d v : A) (n : ℕ) (xs : List A) → entry_or d (put_at d n v xs) n ≡ v
put_read d v zero [] = refl
put_read d v (suc n) [] = put_read d v n []
put_read d v zero (x ∷ xs) = refl
put_read d v (suc n) (x ∷ xs) = put_read d v n xs

pub put_there : {A : Type 0} (d v : A) (n : ℕ) (xs : List A) → n < length (put_at d n v xs)
put_there d v zero [] = omega arith
put_there d v (suc n) [] = let more = put_there d v n [] in omega (arith, more)
put_there d v zero (x ∷ xs) = omega arith
put_there d v (suc n) (x ∷ xs) = let more = put_there d v n xs in omega (arith, more)

pub put_grows : {A : Type 0} (d v : A) (n : ℕ) (xs : List A) → length xs ≤ length (put_at d n v xs)
put_grows d v n [] = omega arith
put_grows d v zero (x ∷ xs) = omega arith
put_grows d v (suc n) (x ∷ xs) = let more = put_grows d v n xs in omega (arith, more)
