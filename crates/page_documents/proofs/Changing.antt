-- Changes at places of a list, and at the places that are marked.
use Rattle.std.proofs.Common.{◌≡◌, ◌<◌, ◌≤◌, ◌+◌, ℕ, zero, suc, Bool, true, false, cond, List, [], ◌∷◌, length, take, replicate, get_or, slice_set, length-set, refl, ap, sym, ◌∙◌, arith}
use Rattle.page_model.specs.Lookups.{change_at, change_each}
use Rattle.page_documents.specs.Walks.{taken, marked_in}

pub changed_there : {A : Type 0} (f : A → A) (xs : List A) (i : ℕ) (x y : A) → i < length xs → x ≡ get_or xs i x → y ≡ f x → slice_set xs i y ≡ change_at f i xs
changed_there f [] i x y inside is made = absurd (omega arith)
changed_there f (head ∷ xs) zero x y inside is made = ap (λ z. z ∷ xs) (made ∙ ap f is)
changed_there f (head ∷ xs) (suc i) x y inside is made = ap (λ zs. head ∷ zs) (changed_there f xs i x y (omega arith) is made)

module _ {A : Type 0} (f : A → A) where
  pub marked_more : (marks : List Bool) (xs : List A) (i : ℕ) (d : Bool) → i < length marks
      → marked_in f (take (suc i) marks) xs ≡ cond (get_or marks i d) (change_at f i (marked_in f (take i marks) xs)) (marked_in f (take i marks) xs)
  marked_more [] xs i d inside = absurd (omega arith)
  marked_more (true ∷ marks) [] zero d inside = refl
  marked_more (false ∷ marks) [] zero d inside = refl
  marked_more (true ∷ marks) (x ∷ xs) zero d inside = refl
  marked_more (false ∷ marks) (x ∷ xs) zero d inside = refl
  marked_more (mark ∷ marks) [] (suc i) d inside = same (get_or marks i d)
    where
      none : List A
      none = []

      same : (b : Bool) → none ≡ cond b none none
      same true = refl
      same false = refl
  marked_more (mark ∷ marks) (x ∷ xs) (suc i) d inside =
      ap (λ zs. cond mark (f x) x ∷ zs) (marked_more marks xs i d (omega arith)) ∙ inner (get_or marks i d)
    where
      inner : (b : Bool) → cond mark (f x) x ∷ cond b (change_at f i (marked_in f (take i marks) xs)) (marked_in f (take i marks) xs)
          ≡ cond b (cond mark (f x) x ∷ change_at f i (marked_in f (take i marks) xs)) (cond mark (f x) x ∷ marked_in f (take i marks) xs)
      inner true = refl
      inner false = refl

  pub marked_all : (marks : List Bool) (xs : List A) → marked_in f (take (length xs) marks) xs ≡ marked_in f marks xs
  marked_all [] [] = refl
  marked_all (mark ∷ marks) [] = refl
  marked_all [] (x ∷ xs) = refl
  marked_all (mark ∷ marks) (x ∷ xs) = ap (λ zs. cond mark (f x) x ∷ zs) (marked_all marks xs)

  marked_none : (n : ℕ) (xs : List A) → marked_in f (replicate n false) xs ≡ xs
  marked_none zero xs = refl
  marked_none (suc n) [] = refl
  marked_none (suc n) (x ∷ xs) = ap (λ zs. x ∷ zs) (marked_none n xs)

  module _ (again : (x : A) → f (f x) ≡ f x) where
    twice : (mark : Bool) (x : A) → f x ≡ f (cond mark (f x) x)
    twice true x = sym (again x)
    twice false x = refl

    mark_set : (marks : List Bool) (xs : List A) (i : ℕ) → length xs ≤ length marks → marked_in f (slice_set marks i true) xs
        ≡ change_at f i (marked_in f marks xs)
    mark_set [] [] i enough = refl
    mark_set [] (x ∷ xs) i enough = absurd (omega arith)
    mark_set (mark ∷ marks) [] zero enough = refl
    mark_set (mark ∷ marks) [] (suc i) enough = refl
    mark_set (mark ∷ marks) (x ∷ xs) zero enough = ap (λ z. z ∷ marked_in f marks xs) (twice mark x)
    mark_set (mark ∷ marks) (x ∷ xs) (suc i) enough = ap (λ zs. cond mark (f x) x ∷ zs) (mark_set marks xs i (omega arith))

    marked_taken : (places : List ℕ) (marks : List Bool) (xs : List A) → length xs ≤ length marks
        → marked_in f (taken (λ place marks. slice_set marks place true) places marks) xs ≡ change_each f places (marked_in f marks xs)
    marked_taken [] marks xs enough = refl
    marked_taken (place ∷ places) marks xs enough =
        marked_taken places (slice_set marks place true) xs (omega (arith, length-set marks place true))
        ∙ ap (change_each f places) (mark_set marks xs place enough)

    -- what a walk has marked is changed as the definitions change it
    pub walk_marked : (places : List ℕ) (xs : List A) → length xs ≤ 64
        → marked_in f (taken (λ place marks. slice_set marks place true) places (replicate 64 false)) xs ≡ change_each f places xs
    walk_marked places xs few = marked_taken places (replicate 64 false) xs few ∙ ap (change_each f places) (marked_none 64 xs)

pub marks_left : (places : List ℕ) (marks : List Bool) → length (taken (λ place marks. slice_set marks place true) places marks) ≡ length marks
marks_left [] marks = refl
marks_left (place ∷ places) marks = marks_left places (slice_set marks place true) ∙ length-set marks place true

-- one place more
pub state_more : {A : Type 0} (f : A → A) (marks : List Bool) (first now after : List A) (i : ℕ) (mark : Bool) → i < length marks → mark ≡ get_or marks i true
    → now ≡ marked_in f (take i marks) first → after ≡ cond mark (change_at f i now) now → after ≡ marked_in f (take (i + 1) marks) first
state_more f marks first now after i mark inside is so_far does =
    does
    ∙ ap (λ xs. cond mark (change_at f i xs) xs) so_far
    ∙ ap (λ b. cond b (change_at f i (marked_in f (take i marks) first)) (marked_in f (take i marks) first)) is
    ∙ sym (marked_more f marks first i true inside)
    ∙ ap (λ n. marked_in f (take n marks) first) (let e : suc i ≡ i + 1 = omega arith in e)
