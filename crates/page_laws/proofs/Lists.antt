-- What holds of every entry of a list, after the changes that lists undergo.
use Rattle.std.proofs.Common.{◌≡◌, refl, ap, ◌∙◌, arith, ◌≤◌}
use Rattle.std.specs.Prelude.{ℕ, zero, suc, ◌<◌, Bool, true, false, cond, map, List, [], ◌∷◌, ◌++◌, length, filter, Option, Some, None, IfSome, ⊤}
use Rattle.std.specs.List.{AllByRecursion}
use Rattle.page_model.specs.Lookups.{change_at, change_each, put_at}

pub all-map : {A : Type 0} (P Q : A → Type 0) → ((x : A) → P x → Q x) → (xs : List A) → AllByRecursion P xs → AllByRecursion Q xs
all-map P Q each [] all = tt
all-map P Q each (x ∷ xs) all = (each x (all.0), all-map P Q each xs (all.1))

-- the entries after a function
pub all-mapped : {A B : Type 0} (P : A → Type 0) (Q : B → Type 0) (change : A → B) → ((x : A) → P x → Q (change x)) → (xs : List A) → AllByRecursion P xs →
    AllByRecursion Q (map change xs)
all-mapped P Q change each [] all = tt
all-mapped P Q change each (x ∷ xs) all = (each x (all.0), all-mapped P Q change each xs (all.1))

pub all-append : {A : Type 0} (P : A → Type 0) (xs ys : List A) → AllByRecursion P xs → AllByRecursion P ys → AllByRecursion P (xs ++ ys)
all-append P [] ys left right = right
all-append P (x ∷ xs) ys left right = (left.0, all-append P xs ys (left.1) right)

pub all-add : {A : Type 0} (P : A → Type 0) (xs : List A) (y : A) → AllByRecursion P xs → P y → AllByRecursion P (xs ++ y ∷ [])
all-add P xs y all last = all-append P xs (y ∷ []) all (last, tt)

all-filter_step : {A : Type 0} (P : A → Type 0) (x : A) (rest : List A) (passes : Bool) → P x → AllByRecursion P rest →
    AllByRecursion P (cond passes (x ∷ rest) rest)
all-filter_step P x rest true first others = (first, others)
all-filter_step P x rest false first others = others

pub all-filter : {A : Type 0} (P : A → Type 0) (test : A → Bool) (xs : List A) → AllByRecursion P xs → AllByRecursion P (filter test xs)
all-filter P test [] all = tt
all-filter P test (x ∷ xs) all = all-filter_step P x (filter test xs) (test x) (all.0) (all-filter P test xs (all.1))

pub all-put : {A : Type 0} (P : A → Type 0) (default : A) (place : ℕ) (value : A) (xs : List A) → P default → P value → AllByRecursion P xs →
    AllByRecursion P (put_at default place value xs)
all-put P default zero value [] plain new all = (new, tt)
all-put P default zero value (x ∷ xs) plain new all = (new, all.1)
all-put P default (suc place) value [] plain new all = (plain, all-put P default place value [] plain new tt)
all-put P default (suc place) value (x ∷ xs) plain new all = (all.0, all-put P default place value xs plain new (all.1))

pub some-map : {A : Type 0} (P Q : A → Type 0) → ((x : A) → P x → Q x) → (found : Option A) → IfSome found P → IfSome found Q
some-map P Q each None all = tt
some-map P Q each (Some x) all = each x all

pub some-so : {A : Type 0} (found : Option A) → IfSome found (λ (x : A). ⊤)
some-so None = tt
some-so (Some x) = tt

-- lengths

pub one-more : {A : Type 0} (xs : List A) (y : A) → length xs < length (xs ++ y ∷ [])
one-more [] y = omega arith
one-more (x ∷ xs) y = let more : length xs < length (xs ++ y ∷ []) = one-more xs y in omega arith

pub less-more : {A : Type 0} (xs : List A) (y : A) → length xs ≤ length (xs ++ y ∷ [])
less-more xs y = let more : length xs < length (xs ++ y ∷ []) = one-more xs y in omega arith

pub put-within : {A : Type 0} (most : ℕ) (default : A) (place : ℕ) (value : A) (xs : List A) → place < most → length xs ≤ most →
    length (put_at default place value xs) ≤ most
put-within zero default place value xs is fits = absurd (omega arith)
put-within (suc most) default zero value [] is fits = omega arith
put-within (suc most) default zero value (x ∷ xs) is fits = fits
put-within (suc most) default (suc place) value [] is fits =
    let more : length (put_at default place value []) ≤ most = put-within most default place value [] (omega arith) (omega arith) in omega arith
put-within (suc most) default (suc place) value (x ∷ xs) is fits =
    let more : length (put_at default place value xs) ≤ most = put-within most default place value xs (omega arith) (omega arith) in omega arith

-- a list after another one that is as long, what holds of the entries kept
pub record IsKept {A : Type 0} (P : A → Type 0) (before after : List A) : Type 0 where
  pub within : AllByRecursion P before → AllByRecursion P after
  pub same : length after ≡ length before

pub still-kept : {A : Type 0} (P : A → Type 0) (xs : List A) → IsKept P xs xs
still-kept P xs = record { within = λ all. all; same = refl }

pub then-kept : {A : Type 0} {P : A → Type 0} {first second third : List A} → IsKept P first second → IsKept P second third → IsKept P first third
then-kept one two = record { within = λ all. two.within (one.within all); same = two.same ∙ one.same }

pub changed : {A : Type 0} (P : A → Type 0) (change : A → A) → ((x : A) → P x → P (change x)) → (place : ℕ) (xs : List A) →
    IsKept P xs (change_at change place xs)
changed P change each place [] = still-kept P []
changed P change each zero (x ∷ xs) = record { within = λ all. (each x (all.0), all.1); same = refl }
changed P change each (suc place) (x ∷ xs) =
    let others : IsKept P xs (change_at change place xs) = changed P change each place xs in
    record { within = λ all. (all.0, others.within (all.1)); same = ap suc (others.same) }

pub changed-each : {A : Type 0} (P : A → Type 0) (change : A → A) → ((x : A) → P x → P (change x)) → (places : List ℕ) (xs : List A) →
    IsKept P xs (change_each change places xs)
changed-each P change each [] xs = still-kept P xs
changed-each P change each (place ∷ places) xs = then-kept (changed P change each place xs) (changed-each P change each places (change_at change place xs))

pub mapped : {A : Type 0} (P : A → Type 0) (change : A → A) → ((x : A) → P x → P (change x)) → (xs : List A) → IsKept P xs (map change xs)
mapped P change each [] = still-kept P []
mapped P change each (x ∷ xs) =
    let others : IsKept P xs (map change xs) = mapped P change each xs in
    record { within = λ all. (each x (all.0), others.within (all.1)); same = ap suc (others.same) }
