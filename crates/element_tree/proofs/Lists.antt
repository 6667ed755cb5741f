-- Lists in which no number stands twice: what stands ahead of a number and behind it.
use Rattle.std.proofs.Common.{◌≡◌, ℕ, List, [], ◌∷◌, ◌++◌, Option, Some, None, true, false, cond, nat_eq, ◌||◌, refl, sym, ap, subst, ◌∙◌, arith, inl, inr, is_none, unwrap_or}
use Rattle.std.proofs.lemmas.Bool.{cases_Bool, or_parts}
use Rattle.std.proofs.lemmas.Bool.Decides.{nat_tests}
use Rattle.element_tree.specs.Forest.{has, names, IsOnce, first_of, last_of, ahead, behind, next_of, previous_of, rest_from}
use Rattle.element_tree.specs.Edits.{put_before, without}

pub has-append : (n : ℕ) (xs ys : List ℕ) → has (xs ++ ys) n ≡ (has xs n || has ys n)
has-append n [] ys = refl
has-append n (x ∷ xs) ys = grind (arith, has-append n xs ys)

-- a number put between a front and a rest
pub next_here : (c : ℕ) (front rest : List ℕ) → has front c ≡ false → next_of c (front ++ c ∷ rest) ≡ first_of rest
next_here c [] rest h = grind (arith, nat_tests)
next_here c (x ∷ front) rest h = grind (arith, nat_tests, next_here c front rest)

pub previous_here : (c : ℕ) (front rest : List ℕ) → has front c ≡ false → previous_of c (front ++ c ∷ rest) ≡ last_of front
previous_here c [] rest h = grind (arith, nat_tests)
previous_here c (x ∷ front) rest h = grind (arith, nat_tests, previous_here c front rest)

pub last_has : (m : ℕ) (xs : List ℕ) → names (last_of xs) m ≡ true → has xs m ≡ true
last_has m [] h = grind arith
last_has m (x ∷ []) h = grind (arith, nat_tests)
last_has m (x ∷ y ∷ xs) h = grind (arith, nat_tests, last_has m (y ∷ xs))

pub first_has : (m : ℕ) (xs : List ℕ) → names (first_of xs) m ≡ true → has xs m ≡ true
first_has m [] h = grind arith
first_has m (x ∷ xs) h = grind (arith, nat_tests)

pub next_joined : (m : ℕ) (front rest : List ℕ) → IsOnce front → names (last_of front) m ≡ true → next_of m (front ++ rest) ≡ first_of rest
next_joined m [] rest once h = grind (arith)
next_joined m (x ∷ []) rest once h = grind (arith, nat_tests)
next_joined m (x ∷ y ∷ front) rest once h = grind (arith, nat_tests, next_joined m (y ∷ front) rest once.1 h, last_has m (y ∷ front) h)

pub next_with : (c m : ℕ) (front rest : List ℕ) → IsOnce front → nat_eq m c ≡ false → next_of m (front ++ c ∷ rest) ≡ cond (names (last_of front) m) (Some c) (next_of m (front ++ rest))
next_with c m [] rest once ne = grind (arith, nat_tests)
next_with c m (x ∷ []) rest once ne = grind (arith, nat_tests)
next_with c m (x ∷ y ∷ front) rest once ne = grind (arith, nat_tests, next_with c m (y ∷ front) rest once.1 ne, last_has m (y ∷ front))

pub previous_joined : (m : ℕ) (front rest : List ℕ) → has front m ≡ false → names (first_of rest) m ≡ true → previous_of m (front ++ rest) ≡ last_of front
previous_joined m [] [] h e = grind (arith, nat_tests)
previous_joined m [] (r ∷ rest) h e = grind (arith, nat_tests)
previous_joined m (x ∷ front) rest h e = grind (arith, nat_tests, previous_joined m front rest)

pub once_apart : (m : ℕ) (front rest : List ℕ) → IsOnce (front ++ rest) → has rest m ≡ true → has front m ≡ false
once_apart m [] rest h e = refl
once_apart m (x ∷ front) rest h e = grind (arith, nat_tests, once_apart m front rest h.1 e, has-append x front rest, has-append m front rest)

ahead_once : (m : ℕ) (c : ℕ) (front rest : List ℕ) → has front m ≡ false → nat_eq m c ≡ false → names (first_of rest) m ≡ true → previous_of m (front ++ c ∷ rest) ≡ Some c
ahead_once m c [] [] h ne e = grind (arith, nat_tests)
ahead_once m c [] (r ∷ rest) h ne e = grind (arith, nat_tests)
ahead_once m c (x ∷ front) rest h ne e = grind (arith, nat_tests, ahead_once m c front rest)

previous_apart : (c m : ℕ) (front rest : List ℕ) → nat_eq m c ≡ false → has (front ++ rest) m ≡ true → names (first_of rest) m ≡ false → previous_of m (front ++ c ∷ rest) ≡ previous_of m (front ++ rest)
previous_apart c m [] [] ne h e = grind (arith, nat_tests)
previous_apart c m [] (r ∷ rest) ne h e = grind (arith, nat_tests)
previous_apart c m (x ∷ front) rest ne h e = grind (arith, nat_tests, previous_apart c m front rest)

pub previous_with : (c m : ℕ) (front rest : List ℕ) → IsOnce (front ++ rest) → nat_eq m c ≡ false → has (front ++ rest) m ≡ true → previous_of m (front ++ c ∷ rest) ≡ cond (names (first_of rest) m) (Some c) (previous_of m (front ++ rest))
previous_with c m front rest once ne h =
    elim (cases_Bool (names (first_of rest) m)) [
      | inl e ↦ rw e (ahead_once m c front rest (once_apart m front rest once (first_has m rest e)) ne e)
      | inr e ↦ rw e (previous_apart c m front rest ne h e)
    ]

pub first_with : (c : ℕ) (front rest : List ℕ) → first_of (front ++ c ∷ rest) ≡ cond (is_none (last_of front)) (Some c) (first_of (front ++ rest))
first_with c [] rest = refl
first_with c (x ∷ front) rest = refl

pub first_joined : (c : ℕ) (front rest : List ℕ) → first_of (front ++ rest) ≡ cond (is_none (last_of front)) (first_of rest) (first_of (front ++ c ∷ rest))
first_joined c [] rest = refl
first_joined c (x ∷ front) rest = refl

pub last_with : (c : ℕ) (front rest : List ℕ) → last_of (front ++ c ∷ rest) ≡ cond (is_none (first_of rest)) (Some c) (last_of (front ++ rest))
last_with c [] [] = refl
last_with c [] (r ∷ rest) = refl
last_with c (x ∷ front) [] = ap (λ (o : Option ℕ). Some (unwrap_or o x)) (last_with c front [])
last_with c (x ∷ front) (r ∷ rest) = ap (λ (o : Option ℕ). Some (unwrap_or o x)) (last_with c front (r ∷ rest))

pub last_joined : (c : ℕ) (front rest : List ℕ) → last_of (front ++ rest) ≡ cond (is_none (first_of rest)) (last_of front) (last_of (front ++ c ∷ rest))
last_joined c [] [] = refl
last_joined c [] (r ∷ rest) = refl
last_joined c (x ∷ front) [] = ap (λ (o : Option ℕ). Some (unwrap_or o x)) (last_joined c front [])
last_joined c (x ∷ front) (r ∷ rest) = ap (λ (o : Option ℕ). Some (unwrap_or o x)) (last_joined c front (r ∷ rest))

-- what a number leads and follows in a list that holds it
pub split_at : (c : ℕ) (xs : List ℕ) → has xs c ≡ true → xs ≡ ahead c xs ++ c ∷ behind c xs
split_at c [] h = grind arith
split_at c (x ∷ xs) h = grind (arith, nat_tests, split_at c xs)

pub without_parts : (c : ℕ) (xs : List ℕ) → has xs c ≡ true → without c xs ≡ ahead c xs ++ behind c xs
without_parts c [] h = grind arith
without_parts c (x ∷ xs) h = grind (arith, nat_tests, without_parts c xs)

-- the list before the marked number, and from it on
abbrev pub before : Option ℕ → List ℕ → List ℕ
before None xs = xs
before (Some s) xs = ahead s xs

pub marked_parts : (mark : Option ℕ) (xs : List ℕ) → xs ≡ before mark xs ++ rest_from mark xs
marked_parts None [] = refl
marked_parts None (x ∷ xs) = ap (λ ys. x ∷ ys) (marked_parts None xs)
marked_parts (Some s) [] = refl
marked_parts (Some s) (x ∷ xs) = grind (arith, nat_tests, marked_parts (Some s) xs)

pub put_before_parts : (mark : Option ℕ) (n : ℕ) (xs : List ℕ) → put_before mark n xs ≡ before mark xs ++ n ∷ rest_from mark xs
put_before_parts None n [] = refl
put_before_parts None n (x ∷ xs) = ap (λ ys. x ∷ ys) (put_before_parts None n xs)
put_before_parts (Some s) n [] = refl
put_before_parts (Some s) n (x ∷ xs) = grind (arith, nat_tests, put_before_parts (Some s) n xs)

pub first_from : (s : ℕ) (xs : List ℕ) → has xs s ≡ true → first_of (rest_from (Some s) xs) ≡ Some s
first_from s [] h = grind arith
first_from s (x ∷ xs) h = grind (arith, nat_tests, first_from s xs)

-- lists with no number twice
pub once_parts : (front rest : List ℕ) → IsOnce (front ++ rest) → IsOnce front × IsOnce rest
once_parts [] rest h = (tt, h)
once_parts (x ∷ front) rest h = let r = once_parts front rest h.1 in let a : has front x ≡ false = grind (arith, has-append x front rest) in ((a, r.0), r.1)

pub once_without : (c : ℕ) (front rest : List ℕ) → IsOnce (front ++ c ∷ rest) → IsOnce (front ++ rest) × (has (front ++ rest) c ≡ false)
once_without c [] rest h = (h.1, h.0)
once_without c (x ∷ front) rest h =
    let r = once_without c front rest h.1 in
    let a : has (front ++ rest) x ≡ false = grind (arith, has-append x front rest, has-append x front (c ∷ rest)) in
    let n : nat_eq c x ≡ false = grind (arith, nat_tests, has-append x front (c ∷ rest)) in
    ((a, r.0), grind (arith, r.1, n))

pub once_with : (c : ℕ) (front rest : List ℕ) → IsOnce (front ++ rest) → has (front ++ rest) c ≡ false → IsOnce (front ++ c ∷ rest)
once_with c [] rest h e = (e, h)
once_with c (x ∷ front) rest h e =
    let n : has (front ++ c ∷ rest) x ≡ false = grind (arith, nat_tests, has-append x front rest, has-append x front (c ∷ rest)) in
    (n, once_with c front rest h.1 (grind (arith, nat_tests)))

pub has_with : (m c : ℕ) (front rest : List ℕ) → has (front ++ c ∷ rest) m ≡ (nat_eq m c || has (front ++ rest) m)
has_with m c [] rest = refl
has_with m c (x ∷ front) rest = grind (arith, nat_tests, has_with m c front rest)

-- a walk by next siblings
pub next_has : (c d : ℕ) (xs : List ℕ) → next_of c xs ≡ Some d → has xs d ≡ true
next_has c d [] h = grind arith
next_has c d (x ∷ []) h = grind (arith, nat_tests)
next_has c d (x ∷ y ∷ xs) h = grind (arith, nat_tests, next_has c d (y ∷ xs))

rest_beyond : (x : ℕ) (o : Option ℕ) (xs : List ℕ) → has xs x ≡ false → ((d : ℕ) → o ≡ Some d → has xs d ≡ true) → rest_from o (x ∷ xs) ≡ rest_from o xs
rest_beyond x None xs e h = refl
rest_beyond x (Some d) xs e h = grind (arith, nat_tests, h d refl)

pub rest_step : (c : ℕ) (xs : List ℕ) → IsOnce xs → has xs c ≡ true → rest_from (Some c) xs ≡ c ∷ rest_from (next_of c xs) xs
rest_step c [] once h = grind arith
rest_step c (x ∷ []) once h = grind (arith, nat_tests)
rest_step c (x ∷ y ∷ xs) once h = grind (arith, nat_tests, rest_step c (y ∷ xs) once.1, rest_beyond x (next_of c (y ∷ xs)) (y ∷ xs) once.0 (λ d e. next_has c d (y ∷ xs) e))

-- a number taken out
module _ (n : ℕ) (xs : List ℕ) (once : IsOnce xs) (held : has xs n ≡ true) where
  parts : IsOnce (ahead n xs ++ behind n xs) × (has (ahead n xs ++ behind n xs) n ≡ false)
  parts = once_without n (ahead n xs) (behind n xs) (subst IsOnce (split_at n xs held) once)

  pub once_taken : IsOnce (without n xs)
  once_taken = subst IsOnce (sym (without_parts n xs held)) parts.0

  pub has_taken : (m : ℕ) → has (without n xs) m ≡ cond (nat_eq m n) false (has xs m)
  has_taken m =
      let e : has xs m ≡ (nat_eq m n || has (ahead n xs ++ behind n xs) m) = ap (λ ys. has ys m) (split_at n xs held) ∙ has_with m n (ahead n xs) (behind n xs) in
      let f : has (without n xs) m ≡ has (ahead n xs ++ behind n xs) m = ap (λ ys. has ys m) (without_parts n xs held) in
      let g : has (ahead n xs ++ behind n xs) n ≡ false = parts.1 in
      grind (arith, nat_tests)

  module _ (m : ℕ) (ne : nat_eq m n ≡ false) where
    next_back : next_of m xs ≡ cond (names (last_of (ahead n xs)) m) (Some n) (next_of m (ahead n xs ++ behind n xs))
    next_back = ap (next_of m) (split_at n xs held) ∙ next_with n m (ahead n xs) (behind n xs) (once_parts _ _ parts.0).0 ne

    pub next_taken : next_of m (without n xs) ≡ cond (names (previous_of n xs) m) (next_of n xs) (next_of m xs)
    next_taken =
        let e = next_back in
        let f : next_of m (without n xs) ≡ next_of m (ahead n xs ++ behind n xs) = ap (next_of m) (without_parts n xs held) in
        elim (cases_Bool (names (previous_of n xs) m)) [
          | inl y ↦ rw y (f ∙ next_joined m (ahead n xs) (behind n xs) (once_parts _ _ parts.0).0 y)
          | inr y ↦ rw y (f ∙ sym (rw y at e))
        ]

    previous_back : has (ahead n xs ++ behind n xs) m ≡ true → previous_of m xs ≡ cond (names (first_of (behind n xs)) m) (Some n) (previous_of m (ahead n xs ++ behind n xs))
    previous_back h = ap (previous_of m) (split_at n xs held) ∙ previous_with n m (ahead n xs) (behind n xs) parts.0 ne h

    pub previous_taken : has xs m ≡ true → previous_of m (without n xs) ≡ cond (names (next_of n xs) m) (previous_of n xs) (previous_of m xs)
    previous_taken h =
        let there : has (without n xs) m ≡ true = has_taken m ∙ rw ne h in
        let e = previous_back (sym (ap (λ ys. has ys m) (without_parts n xs held)) ∙ there) in
        let f : previous_of m (without n xs) ≡ previous_of m (ahead n xs ++ behind n xs) = ap (previous_of m) (without_parts n xs held) in
        elim (cases_Bool (names (next_of n xs) m)) [
          | inl y ↦ rw y (f ∙ previous_joined m (ahead n xs) (behind n xs) (once_apart m (ahead n xs) (behind n xs) parts.0 (first_has m (behind n xs) y)) y)
          | inr y ↦ rw y (f ∙ sym (rw y at e))
        ]

  pub first_taken : first_of (without n xs) ≡ cond (is_none (previous_of n xs)) (next_of n xs) (first_of xs)
  first_taken = ap first_of (without_parts n xs held) ∙ first_joined n (ahead n xs) (behind n xs) ∙ ap (λ ys. cond (is_none (previous_of n xs)) (next_of n xs) (first_of ys)) (sym (split_at n xs held))

  pub last_taken : last_of (without n xs) ≡ cond (is_none (next_of n xs)) (previous_of n xs) (last_of xs)
  last_taken = ap last_of (without_parts n xs held) ∙ last_joined n (ahead n xs) (behind n xs) ∙ ap (λ ys. cond (is_none (next_of n xs)) (previous_of n xs) (last_of ys)) (sym (split_at n xs held))

-- a number put before the marked one, which stands in the list
pub first_marked : (mark : Option ℕ) (xs : List ℕ) → ((s : ℕ) → mark ≡ Some s → has xs s ≡ true) → first_of (rest_from mark xs) ≡ mark
first_marked None xs h = refl
first_marked (Some s) xs h = first_from s xs (h s refl)

module _ (n : ℕ) (mark : Option ℕ) (xs : List ℕ) (once : IsOnce xs) (new : has xs n ≡ false) where
  parted : IsOnce (before mark xs ++ rest_from mark xs) × (has (before mark xs ++ rest_from mark xs) n ≡ false)
  parted = (subst IsOnce (marked_parts mark xs) once, subst (λ ys. has ys n ≡ false) (marked_parts mark xs) new)

  pub once_put : IsOnce (put_before mark n xs)
  once_put = subst IsOnce (sym (put_before_parts mark n xs)) (once_with n (before mark xs) (rest_from mark xs) parted.0 parted.1)

  pub has_put : (m : ℕ) → has (put_before mark n xs) m ≡ (nat_eq m n || has xs m)
  has_put m =
      ap (λ ys. has ys m) (put_before_parts mark n xs) ∙ has_with m n (before mark xs) (rest_from mark xs)
      ∙ ap (λ ys. nat_eq m n || has ys m) (sym (marked_parts mark xs))

  new_ahead : has (before mark xs) n ≡ false
  new_ahead = (or_parts _ _ (sym (has-append n (before mark xs) (rest_from mark xs)) ∙ parted.1)).0

  pub next_put_here : next_of n (put_before mark n xs) ≡ first_of (rest_from mark xs)
  next_put_here = ap (next_of n) (put_before_parts mark n xs) ∙ next_here n (before mark xs) (rest_from mark xs) new_ahead

  pub previous_put_here : previous_of n (put_before mark n xs) ≡ last_of (before mark xs)
  previous_put_here = ap (previous_of n) (put_before_parts mark n xs) ∙ previous_here n (before mark xs) (rest_from mark xs) new_ahead

  pub next_put : (m : ℕ) → nat_eq m n ≡ false → next_of m (put_before mark n xs) ≡ cond (names (last_of (before mark xs)) m) (Some n) (next_of m xs)
  next_put m ne =
      ap (next_of m) (put_before_parts mark n xs) ∙ next_with n m (before mark xs) (rest_from mark xs) (once_parts _ _ parted.0).0 ne
      ∙ ap (λ ys. cond (names (last_of (before mark xs)) m) (Some n) (next_of m ys)) (sym (marked_parts mark xs))

  pub previous_put : (m : ℕ) → nat_eq m n ≡ false → has xs m ≡ true → previous_of m (put_before mark n xs) ≡ cond (names (first_of (rest_from mark xs)) m) (Some n) (previous_of m xs)
  previous_put m ne h =
      ap (previous_of m) (put_before_parts mark n xs)
      ∙ previous_with n m (before mark xs) (rest_from mark xs) parted.0 ne (sym (ap (λ ys. has ys m) (marked_parts mark xs)) ∙ h)
      ∙ ap (λ ys. cond (names (first_of (rest_from mark xs)) m) (Some n) (previous_of m ys)) (sym (marked_parts mark xs))

  pub first_put : first_of (put_before mark n xs) ≡ cond (is_none (last_of (before mark xs))) (Some n) (first_of xs)
  first_put =
      ap first_of (put_before_parts mark n xs) ∙ first_with n (before mark xs) (rest_from mark xs)
      ∙ ap (λ ys. cond (is_none (last_of (before mark xs))) (Some n) (first_of ys)) (sym (marked_parts mark xs))

  pub last_put_at : last_of (put_before mark n xs) ≡ cond (is_none (first_of (rest_from mark xs))) (Some n) (last_of xs)
  last_put_at =
      ap last_of (put_before_parts mark n xs) ∙ last_with n (before mark xs) (rest_from mark xs)
      ∙ ap (λ ys. cond (is_none (first_of (rest_from mark xs))) (Some n) (last_of ys)) (sym (marked_parts mark xs))

pub rest_all : (xs : List ℕ) → rest_from (first_of xs) xs ≡ xs
rest_all [] = refl
rest_all (x ∷ xs) = grind (arith, nat_tests)

pub next_differs : (c d : ℕ) (xs : List ℕ) → IsOnce xs → next_of c xs ≡ Some d → nat_eq d c ≡ false
next_differs c d [] once h = grind arith
next_differs c d (x ∷ []) once h = grind (arith, nat_tests)
next_differs c d (x ∷ y ∷ xs) once h = grind (arith, nat_tests, next_differs c d (y ∷ xs) once.1)
