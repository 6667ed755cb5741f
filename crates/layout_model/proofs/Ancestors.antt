-- Inclusive ancestors, in trees of at most `levels` levels.
use Rattle.std.proofs.Common.{◌≡◌, ◌≤◌, ◌<◌, ℕ, zero, suc, Bool, true, false, cond, Option, Some, None, List, [], ◌∷◌, refl, ap, sym, ◌∙◌, subst, ◌⊎◌, inl, inr, arith, nat_eq, eqb-true}
use Rattle.std.specs.Prelude.{◌||◌, find}
use Rattle.std.proofs.lemmas.Bool.{or_cases, false≢true}
use Rattle.std.proofs.lemmas.Bool.Decides.{nat_tests}
use Rattle.layout_model.specs.Nodes.{Node, path_above, path_up, path_of, ancestors_of, depth_of, is_among, is_in_path, last_of, top_of, IsShallow}
use Rattle.layout_model.proofs.Paths.{path_child, path_top, depth_child, depth_least, ancestors_child, ancestors_top}

pub option_cases : {A : Type 0} (found : Option A) → (found ≡ None) ⊎ ((a : A) × (found ≡ Some a))
option_cases None = inl refl
option_cases (Some a) = inr (a, refl)

pub among_more : (a n : ℕ) (more : List ℕ) → is_among a more ≡ true → is_among a (n ∷ more) ≡ true
unfolding is_among
among_more a n more is = ap (λ b. nat_eq a n || b) is ∙ or_true (nat_eq a n)
  where
    or_true : (b : Bool) → (b || true) ≡ true
    or_true true = refl
    or_true false = refl

pub among_first : (a : ℕ) (more : List ℕ) → is_among a (a ∷ more) ≡ true
unfolding is_among
among_first a more = let same : nat_eq a a ≡ true = grind (arith, nat_tests) in ap (λ b. b || is_among a more) same

pub found_among : (test : ℕ → Bool) (list : List ℕ) (a : ℕ) → find test list ≡ Some a → is_among a list ≡ true
found_among test [] a is = absurd cc
found_among test (n ∷ more) a is = by_test (test n) (found_among test more a) is
  where
    by_test : (b : Bool) → (find test more ≡ Some a → is_among a more ≡ true) → cond b (Some n) (find test more) ≡ Some a → is_among a (n ∷ more) ≡ true
    by_test true on same = let e : n ≡ a = cc in subst (λ m. is_among a (m ∷ more) ≡ true) (sym e) (among_first a more)
    by_test false on found = among_more a n more (on found)

pub in_self : (at : ℕ → Node) (n : ℕ) → is_in_path at n n ≡ true
unfolding is_in_path path_of path_up
in_self at n = among_first n (path_above (path_up 65535 at) ((at n).parent))

pub top_of_top : (at : ℕ → Node) (n : ℕ) → (at n).parent ≡ None → top_of at n ≡ n
unfolding top_of last_of
top_of_top at n is = ap (last_of n) (path_top at n is)

module _ (at : ℕ → Node) (shallow : IsShallow at) where
  pub in_top : (a n : ℕ) → (at n).parent ≡ None → is_in_path at a n ≡ (nat_eq a n || false)
  unfolding is_in_path is_among
  in_top a n top = ap (is_among a) (path_top at n top)

  pub in_child : (a c p : ℕ) → (at c).parent ≡ Some p → is_in_path at a c ≡ (nat_eq a c || is_in_path at a p)
  unfolding is_in_path is_among
  in_child a c p is = ap (is_among a) (path_child at c p is (shallow p))

  pub above_in : (a c p : ℕ) → (at c).parent ≡ Some p → is_in_path at a p ≡ true → is_in_path at a c ≡ true
  above_in a c p is inside = in_child a c p is ∙ ap (λ b. nat_eq a c || b) inside ∙ or_true (nat_eq a c)
    where
      or_true : (b : Bool) → (b || true) ≡ true
      or_true true = refl
      or_true false = refl

  down_within : (high : ℕ) (holds : ℕ → Type 0) (a : ℕ) → holds a → ((c p : ℕ) → (at c).parent ≡ Some p → holds p → holds c) → (n : ℕ) → depth_of at n ≤ high → is_in_path at a n ≡ true → holds n
  down_within zero holds a here step n low inside = absurd (omega (arith, depth_least at n))
  down_within (suc high) holds a here step n low inside =
      elim (option_cases ((at n).parent)) [
        | inl top ↦ elim (or_cases _ _ (sym (in_top a n top) ∙ inside)) [
          | inl e ↦ subst holds (eqb-true a n e) here
          | inr e ↦ absurd (false≢true e)
        ]
        | inr p ↦ elim (or_cases _ _ (sym (in_child a n p.0 p.1) ∙ inside)) [
          | inl e ↦ subst holds (eqb-true a n e) here
          | inr e ↦ step n p.0 p.1 (down_within high holds a here step p.0 (omega (arith, depth_child at n p.0 p.1 (shallow p.0))) e)
        ]
      ]

  -- what holds of a node and goes from parent to child holds of all that lies in it
  pub down_path : (holds : ℕ → Type 0) → ((c p : ℕ) → (at c).parent ≡ Some p → holds p → holds c) → (a n : ℕ) → is_in_path at a n ≡ true → holds a → holds n
  down_path holds step a n inside here = down_within (depth_of at n) holds a here step n (omega arith) inside

  -- what goes from child to parent holds of all inclusive ancestors
  pub up_path : (holds : ℕ → Type 0) → ((c p : ℕ) → (at c).parent ≡ Some p → holds c → holds p) → (a n : ℕ) → is_in_path at a n ≡ true → holds n → holds a
  up_path holds step a n inside = down_path (λ m. holds m → holds a) (λ c p is on here. on (step c p is here)) a n inside (λ here. here)

  pub in_path_of_parent : (p c n : ℕ) → (at c).parent ≡ Some p → is_in_path at c n ≡ true → is_in_path at p n ≡ true
  in_path_of_parent p c n is inside = down_path (λ m. is_in_path at p m ≡ true) (λ c q up. above_in p c q up) c n inside (above_in p c p is (in_self at p))

  pub in_path_trans : (a b n : ℕ) → is_in_path at a b ≡ true → is_in_path at b n ≡ true → is_in_path at a n ≡ true
  in_path_trans a b n over inside = down_path (λ m. is_in_path at a m ≡ true) (λ c p up. above_in a c p up) b n inside over

  pub in_path_depth : (a n : ℕ) → is_in_path at a n ≡ true → depth_of at a ≤ depth_of at n
  in_path_depth a n inside = down_path (λ m. depth_of at a ≤ depth_of at m) (λ c p is low. omega (arith, depth_child at c p is (shallow p), low)) a n inside (omega arith)

  pub top_child : (c p : ℕ) → (at c).parent ≡ Some p → top_of at c ≡ top_of at p
  unfolding top_of last_of path_of path_up
  top_child c p is = ap (last_of c) (path_child at c p is (shallow p))

  -- a proper ancestor is one of the parent's inclusive ones
  pub proper_parent : (a n : ℕ) → is_among a (ancestors_of at n) ≡ true → (p : ℕ) × ((at n).parent ≡ Some p) × (is_in_path at a p ≡ true)
  unfolding is_in_path is_among
  proper_parent a n inside =
      elim (option_cases ((at n).parent)) [
        | inl top ↦ absurd (false≢true (sym (ap (is_among a) (ancestors_top at n top)) ∙ inside))
        | inr p ↦ (p.0, p.1, sym (ap (is_among a) (ancestors_child at n p.0 p.1)) ∙ inside)
      ]

  pub proper_in_path : (a n : ℕ) → is_among a (ancestors_of at n) ≡ true → is_in_path at a n ≡ true
  proper_in_path a n inside = let p = proper_parent a n inside in above_in a n p.0 p.1 p.2

  pub proper_depth : (a n : ℕ) → is_among a (ancestors_of at n) ≡ true → depth_of at a < depth_of at n
  proper_depth a n inside =
      let p = proper_parent a n inside in
      omega (arith, in_path_depth a p.0 p.2, depth_child at n p.0 p.1 (shallow p.0))
