-- What stands in a list of numbers.
use Rattle.std.proofs.Common.{◌≡◌, ◌≢◌, ℕ, Bool, true, false, cond, not, List, [], ◌∷◌, ◌++◌, Option, Some, None, ◌⊎◌, inl, inr, refl, ap, sym, subst, ◌∙◌}
use Rattle.std.specs.Prelude.{◌==◌, ◌||◌, filter, filter_map, flat_map}
use Rattle.std.specs.List.{cons_option}
use Rattle.std.proofs.lemmas.Bool.{false≢true, true≢false, or_cases, or_left, or_right, eqb-true, eq-eqb, ne_eqb}
use Rattle.page_model.specs.Lookups.{is_listed, without}
use Rattle.page_model.specs.Documents.{is_number, placed_before}

abbrev pub Among : ℕ → List ℕ → Type 0
Among n [] = ⊥
Among n (x ∷ xs) = (x ≡ n) ⊎ Among n xs

pub among : (n : ℕ) (xs : List ℕ) → is_listed n xs ≡ true → Among n xs
among n [] is = absurd (false≢true is)
among n (x ∷ xs) is = elim (or_cases (x == n) (is_listed n xs) is) [ inl here ↦ inl (eqb-true x n here) | inr there ↦ inr (among n xs there) ]

pub listed : (n : ℕ) (xs : List ℕ) → Among n xs → is_listed n xs ≡ true
listed n [] is = absurd is
listed n (x ∷ xs) (inl here) = or_left (x == n) (is_listed n xs) (eq-eqb x n here)
listed n (x ∷ xs) (inr there) = or_right (x == n) (is_listed n xs) (listed n xs there)

-- whether it is there
pub decided : (n : ℕ) (xs : List ℕ) → Among n xs ⊎ (Among n xs → ⊥)
decided n xs = by_test (is_listed n xs) refl
  where
    by_test : (test : Bool) → is_listed n xs ≡ test → Among n xs ⊎ (Among n xs → ⊥)
    by_test true is = inl (among n xs is)
    by_test false is = inr (λ it. true≢false (sym (listed n xs it) ∙ is))

pub among_append : (n : ℕ) (xs ys : List ℕ) → Among n (xs ++ ys) → Among n xs ⊎ Among n ys
among_append n [] ys is = inr is
among_append n (x ∷ xs) ys (inl here) = inl (inl here)
among_append n (x ∷ xs) ys (inr there) = elim (among_append n xs ys there) [ inl left ↦ inl (inr left) | inr right ↦ inr right ]

append_left : (n : ℕ) (xs ys : List ℕ) → Among n xs → Among n (xs ++ ys)
append_left n [] ys is = absurd is
append_left n (x ∷ xs) ys (inl here) = inl here
append_left n (x ∷ xs) ys (inr there) = inr (append_left n xs ys there)

append_right : (n : ℕ) (xs ys : List ℕ) → Among n ys → Among n (xs ++ ys)
append_right n [] ys is = is
append_right n (x ∷ xs) ys is = inr (append_right n xs ys is)

-- what comes of an entry of a list
pub record Comes (n : ℕ) (f : ℕ → List ℕ) (xs : List ℕ) : Type 0 where
  pub entry : ℕ
  pub among : Among entry xs
  pub of : Among n (f entry)

pub among_flat : (f : ℕ → List ℕ) (n : ℕ) (xs : List ℕ) → Among n (flat_map f xs) → Comes n f xs
among_flat f n [] is = absurd is
among_flat f n (x ∷ xs) is = elim (among_append n (f x) (flat_map f xs) is) [
  | inl here ↦ record { entry = x; among = inl refl; of = here }
  | inr there ↦ let it : Comes n f xs = among_flat f n xs there in record { entry = it.entry; among = inr (it.among); of = it.of }
]

pub flat_among : (f : ℕ → List ℕ) (n x : ℕ) (xs : List ℕ) → Among x xs → Among n (f x) → Among n (flat_map f xs)
flat_among f n x [] is of = absurd is
flat_among f n x (y ∷ xs) (inl same) of = append_left n (f y) (flat_map f xs) (subst (λ z. Among n (f z)) (sym same) of)
flat_among f n x (y ∷ xs) (inr there) of = append_right n (f y) (flat_map f xs) (flat_among f n x xs there of)

filter_step : (test : ℕ → Bool) (n x : ℕ) (rest xs : List ℕ) (passes : Bool) → test x ≡ passes → (Among n rest → Among n xs × (test n ≡ true)) →
    Among n (cond passes (x ∷ rest) rest) → Among n (x ∷ xs) × (test n ≡ true)
filter_step test n x rest xs true is others (inl here) = (inl here, ap test (sym here) ∙ is)
filter_step test n x rest xs true is others (inr there) = (inr ((others there).0), (others there).1)
filter_step test n x rest xs false is others there = (inr ((others there).0), (others there).1)

pub among_filter : (test : ℕ → Bool) (n : ℕ) (xs : List ℕ) → Among n (filter test xs) → Among n xs × (test n ≡ true)
among_filter test n [] is = absurd is
among_filter test n (x ∷ xs) is = filter_step test n x (filter test xs) xs (test x) refl (among_filter test n xs) is

pub filter_among : (test : ℕ → Bool) (n : ℕ) (xs : List ℕ) → Among n xs → test n ≡ true → Among n (filter test xs)
filter_among test n [] is passes = absurd is
filter_among test n (x ∷ xs) (inl here) passes =
    subst (λ b. Among n (cond b (x ∷ filter test xs) (filter test xs))) (sym (ap test here ∙ passes)) (inl here)
filter_among test n (x ∷ xs) (inr there) passes = by_test (test x) (filter_among test n xs there passes)
  where
    by_test : (b : Bool) → Among n (filter test xs) → Among n (cond b (x ∷ filter test xs) (filter test xs))
    by_test true rest = inr rest
    by_test false rest = rest

-- what comes of an entry that may come to nothing
pub record ComesOf (d : ℕ) (f : ℕ → Option ℕ) (xs : List ℕ) : Type 0 where
  pub entry : ℕ
  pub among : Among entry xs
  pub is : f entry ≡ Some d

pub among_filter_map : (f : ℕ → Option ℕ) (d : ℕ) (xs : List ℕ) → Among d (filter_map f xs) → ComesOf d f xs
among_filter_map f d [] is = absurd is
among_filter_map f d (x ∷ xs) is = by_entry (f x) refl (among_filter_map f d xs) is
  where
    further : ComesOf d f xs → ComesOf d f (x ∷ xs)
    further it = record { entry = it.entry; among = inr (it.among); is = it.is }

    by_entry : (found : Option ℕ) → f x ≡ found → (Among d (filter_map f xs) → ComesOf d f xs) → Among d (cons_option found (filter_map f xs)) →
        ComesOf d f (x ∷ xs)
    by_entry None same rest there = further (rest there)
    by_entry (Some y) same rest (inl here) = record { entry = x; among = inl refl; is = same ∙ ap Some here }
    by_entry (Some y) same rest (inr there) = further (rest there)

pub filter_map_among : (f : ℕ → Option ℕ) (d x : ℕ) (xs : List ℕ) → Among x xs → f x ≡ Some d → Among d (filter_map f xs)
filter_map_among f d x [] is found = absurd is
filter_map_among f d x (y ∷ xs) (inl here) found =
    subst (λ o. Among d (cons_option o (filter_map f xs))) (sym (ap f here ∙ found)) (inl refl)
filter_map_among f d x (y ∷ xs) (inr there) found = by_entry (f y) (filter_map_among f d x xs there found)
  where
    by_entry : (o : Option ℕ) → Among d (filter_map f xs) → Among d (cons_option o (filter_map f xs))
    by_entry None rest = rest
    by_entry (Some z) rest = inr rest

-- the entries once one is taken out
pub listed_without : (n m : ℕ) (xs : List ℕ) → m ≢ n → is_listed m (without n xs) ≡ is_listed m xs
listed_without n m [] other = refl
listed_without n m (x ∷ xs) other = by_test (x == n) refl (listed_without n m xs other)
  where
    by_test : (b : Bool) → (x == n) ≡ b → is_listed m (without n xs) ≡ is_listed m xs →
        is_listed m (cond (not b) (x ∷ without n xs) (without n xs)) ≡ ((x == m) || is_listed m xs)
    by_test true same rest = rest ∙ ap (λ b. b || is_listed m xs) (sym (ne_eqb x m (λ it. other (sym it ∙ eqb-true x n same))))
    by_test false same rest = ap (λ b. (x == m) || b) rest

pub itself_without : (n : ℕ) (xs : List ℕ) → is_listed n (without n xs) ≡ false
itself_without n [] = refl
itself_without n (x ∷ xs) = by_test (x == n) refl (itself_without n xs)
  where
    by_test : (b : Bool) → (x == n) ≡ b → is_listed n (without n xs) ≡ false → is_listed n (cond (not b) (x ∷ without n xs) (without n xs)) ≡ false
    by_test true same rest = rest
    by_test false same rest = ap (λ b. b || is_listed n (without n xs)) same ∙ rest

-- and once one is put in
pub itself_placed : (n : ℕ) (sibling : Option ℕ) (xs : List ℕ) → is_listed n (placed_before n sibling xs) ≡ true
itself_placed n None xs = listed n (xs ++ n ∷ []) (append_right n xs (n ∷ []) (inl refl))
itself_placed n (Some sibling) [] = listed n (n ∷ []) (inl refl)
itself_placed n (Some sibling) (x ∷ xs) = by_test (x == sibling) (itself_placed n (Some sibling) xs)
  where
    by_test : (b : Bool) → is_listed n (placed_before n (Some sibling) xs) ≡ true →
        is_listed n (cond b (n ∷ x ∷ xs) (x ∷ placed_before n (Some sibling) xs)) ≡ true
    by_test true rest = listed n (n ∷ x ∷ xs) (inl refl)
    by_test false rest = or_right (x == n) (is_listed n (placed_before n (Some sibling) xs)) rest

pub listed_placed : (n m : ℕ) (sibling : Option ℕ) (xs : List ℕ) → m ≢ n → is_listed m (placed_before n sibling xs) ≡ is_listed m xs
listed_placed n m None [] other = ap (λ b. b || false) (ne_eqb n m (λ it. other (sym it)))
listed_placed n m None (x ∷ xs) other = ap (λ b. (x == m) || b) (listed_placed n m None xs other)
listed_placed n m (Some sibling) [] other = ap (λ b. b || false) (ne_eqb n m (λ it. other (sym it)))
listed_placed n m (Some sibling) (x ∷ xs) other = by_test (x == sibling) (listed_placed n m (Some sibling) xs other)
  where
    by_test : (b : Bool) → is_listed m (placed_before n (Some sibling) xs) ≡ is_listed m xs →
        is_listed m (cond b (n ∷ x ∷ xs) (x ∷ placed_before n (Some sibling) xs)) ≡ ((x == m) || is_listed m xs)
    by_test true rest = ap (λ b. b || is_listed m (x ∷ xs)) (ne_eqb n m (λ it. other (sym it)))
    by_test false rest = ap (λ b. (x == m) || b) rest

pub number_is : (found : Option ℕ) (n : ℕ) → is_number found n ≡ true → found ≡ Some n
number_is None n is = absurd (false≢true is)
number_is (Some m) n is = ap Some (eqb-true m n is)

pub its_number : (found : Option ℕ) (n : ℕ) → found ≡ Some n → is_number found n ≡ true
its_number found n is = ap (λ o. is_number o n) is ∙ eq-eqb n n refl

pub no_number : (found : Option ℕ) (n : ℕ) → found ≢ Some n → is_number found n ≡ false
no_number None n other = refl
no_number (Some m) n other = ne_eqb m n (λ it. other (ap Some it))

pub not_some : (x : ℕ) → None ≡ Some x → ⊥
not_some x is = cc
