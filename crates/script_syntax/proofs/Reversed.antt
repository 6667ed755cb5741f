-- Lists that are read from their end.
use Rattle.std.proofs.Common.{◌≡◌, ℕ, ◌+◌, Bool, true, false, List, [], ◌∷◌, ◌++◌, reverse, refl, sym, ap, ◌∙◌, cond, count_by, if◌then◌else◌, zero-add, add_comm}
use Rattle.std.specs.Prelude.{◌||◌, bytes_eq}
use Rattle.std.specs.List.{list_any}
use Rattle.indexmap.specs.IndexSet.{insert_key}
use Rattle.std.proofs.lemmas.List.{reverse-append}
use Rattle.std.proofs.lemmas.List.Sums.{sum_by-append, sum_by-cons}
use Rattle.std.proofs.lemmas.List.Folds.{list_any-append}

pub reversed : {A : Type 0} (x : A) (xs : List A) → reverse (x ∷ xs) ≡ reverse xs ++ (x ∷ [])
reversed x xs = reverse-append (x ∷ []) xs

or_swapped : (a b : Bool) → (a || (b || false)) ≡ (b || a)
or_swapped true true = refl
or_swapped true false = refl
or_swapped false true = refl
or_swapped false false = refl

pub any_reversed : {A : Type 0} (p : A → Bool) (xs : List A) → list_any p (reverse xs) ≡ list_any p xs
any_reversed p [] = refl
any_reversed p (x ∷ xs) =
    ap (list_any p) (reversed x xs)
    ∙ list_any-append p (reverse xs) (x ∷ []) ∙ or_swapped (list_any p (reverse xs)) (p x) ∙ ap (λ (rest : Bool). p x || rest) (any_reversed p xs)

pub name_added : (names after : List (List ℕ)) (name : List ℕ) → list_any (bytes_eq name) (reverse names) ≡ false
    → after ≡ insert_key bytes_eq names name → reverse after ≡ name ∷ reverse names
name_added names after name fresh made =
    ap reverse (made ∙ ap (λ (taken : Bool). if taken then names else names ++ name ∷ []) (sym (any_reversed (bytes_eq name) names) ∙ fresh))
    ∙ reverse-append names (name ∷ [])

count_last : {A : Type 0} (p : A → Bool) (xs : List A) (y : A) → count_by p (xs ++ (y ∷ [])) ≡ cond (p y) 1 0 + count_by p xs
count_last p xs y =
    sum_by-append (λ x. cond (p x) 1 0) xs (y ∷ []) ∙ ap (λ (n : ℕ). count_by p xs + n) (zero-add (cond (p y) 1 0))
    ∙ add_comm (count_by p xs) (cond (p y) 1 0)

pub count_reversed : {A : Type 0} (p : A → Bool) (xs : List A) → count_by p (reverse xs) ≡ count_by p xs
count_reversed p [] = refl
count_reversed p (x ∷ xs) =
    ap (count_by p) (reversed x xs) ∙ count_last p (reverse xs) x ∙ ap (λ (n : ℕ). cond (p x) 1 0 + n) (count_reversed p xs)
    ∙ sym (sum_by-cons (λ y. cond (p y) 1 0) x xs)
