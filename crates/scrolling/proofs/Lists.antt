-- Facts of each entry of a list, and tests of its entries.
use Rattle.std.proofs.Common.{◌≡◌, ℕ, zero, suc, ◌∙◌, Bool, false, List, [], ◌∷◌, ◌++◌, refl, ap}
use Rattle.std.proofs.lemmas.Bool.{false≢true, or_parts}
use Rattle.std.specs.Prelude.{map, ◌||◌}
use Rattle.std.specs.List.{list_any, AllByRecursion, IsDistinct}
use Rattle.page_model.specs.Lookups.{change_at, entry_or, put_at}

pub any-map : {A B : Type 0} (f : A → B) (test : B → Bool) (xs : List A) → list_any test (map f xs) ≡ list_any (λ x. test (f x)) xs
any-map f test [] = refl
any-map f test (x ∷ xs) = ap (λ more. test (f x) || more) (any-map f test xs)

pub all-map : {A : Type 0} (P Q : A → Type 0) → ((x : A) → P x → Q x) → (xs : List A) → AllByRecursion P xs → AllByRecursion Q xs
all-map P Q each [] all = tt
all-map P Q each (x ∷ xs) all = (each x (all.0), all-map P Q each xs (all.1))

pub all-add : {A : Type 0} (P : A → Type 0) (xs : List A) (y : A) → AllByRecursion P xs → P y → AllByRecursion P (xs ++ y ∷ [])
all-add P [] y all last = (last, tt)
all-add P (x ∷ xs) y all last = (all.0, all-add P xs y (all.1) last)

pub all-change : {A : Type 0} (P : A → Type 0) (change : A → A) → ((x : A) → P (change x)) → (n : ℕ) (xs : List A) → AllByRecursion P xs → AllByRecursion P (change_at change n xs)
all-change P change each n [] all = tt
all-change P change each zero (x ∷ xs) all = (each x, all.1)
all-change P change each (suc n) (x ∷ xs) all = (all.0, all-change P change each n xs (all.1))

module _ {A : Type 0} (P : A → Type 0) (d : A) (blank : P d) where
  pub all-entry : (n : ℕ) (xs : List A) → AllByRecursion P xs → P (entry_or d xs n)
  all-entry n [] all = blank
  all-entry zero (x ∷ xs) all = all.0
  all-entry (suc n) (x ∷ xs) all = all-entry n xs (all.1)

  pub all-put : (v : A) → P v → (n : ℕ) (xs : List A) → AllByRecursion P xs → AllByRecursion P (put_at d n v xs)
  all-put v is zero [] all = (is, tt)
  all-put v is (suc n) [] all = (blank, all-put v is n [] tt)
  all-put v is zero (x ∷ xs) all = (is, all.1)
  all-put v is (suc n) (x ∷ xs) all = (all.0, all-put v is n xs (all.1))

-- one that is equal to none of a list can be put behind it
pub distinct-add : {A : Type 0} (same : A → A → Bool) → ((x y : A) → same x y ≡ same y x) → (xs : List A) (y : A) → IsDistinct same xs → list_any (same y) xs ≡ false → IsDistinct same (xs ++ y ∷ [])
unfolding IsDistinct
distinct-add same swapped [] y distinct none = (tt, tt)
distinct-add same swapped (x ∷ xs) y distinct none =
    let apart = or_parts (same y x) (list_any (same y) xs) none in
    (all-add (λ z. same x z ≡ false) xs y (distinct.0) (swapped x y ∙ apart.0), distinct-add same swapped xs y (distinct.1) (apart.1))
