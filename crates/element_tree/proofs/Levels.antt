-- Depth, ancestors and height in a forest.
use Rattle.std.proofs.Common.{◌≡◌, ℕ, zero, suc, ◌+◌, ◌-◌, ◌<◌, ◌≤◌, List, [], ◌∷◌, Option, Some, None, true, false, nat_eq, ◌||◌, refl, sym, ap, subst, ◌∙◌, arith, inl, inr, ◌⊎◌, eqb-true}
use Rattle.std.proofs.lemmas.Bool.{or_cases, false≢true}
use Rattle.std.proofs.lemmas.Bool.Decides.{nat_tests}
use Rattle.element_tree.specs.Forest.{Knot, IsForest, has, names, parent_of, children_of, depth, depth_up, above, is_ancestor, on_path, is_above, height, height_down, greatest}
use Rattle.element_tree.proofs.Depths.{depth_at, on_path_at, depth_positive}

pub option_cases : (o : Option ℕ) → (o ≡ None) ⊎ ((p : ℕ) × (o ≡ Some p))
option_cases None = inl refl
option_cases (Some p) = inr (p, refl)

pub names_some : (o : Option ℕ) (n : ℕ) → names o n ≡ true → o ≡ Some n
names_some None n h = cc
names_some (Some m) n h = ap Some (sym (eqb-true n m h))

pub some_names : (o : Option ℕ) (n : ℕ) → o ≡ Some n → names o n ≡ true
some_names None n h = cc
some_names (Some m) n h = grind (arith, nat_tests)

-- a level for each node that falls by one from child to parent, and is 1 at a root, is the depth
pub depth_is : (parent : ℕ → Option ℕ) (level : ℕ → ℕ) → ((n : ℕ) → parent n ≡ None → level n ≡ 1) → ((c p : ℕ) → parent c ≡ Some p → level c ≡ level p + 1) → (high n : ℕ) → level n ≤ high → depth_up high parent n ≡ level n
depth_is parent level roots falls zero n h =
    elim (option_cases (parent n)) [
      | inl e ↦ absurd (omega (arith, roots n e))
      | inr q ↦ absurd (omega (arith, falls n q.0 q.1))
    ]
depth_is parent level roots falls (suc high) n h =
    elim (option_cases (parent n)) [
      | inl e ↦ depth_at high parent n ∙ ap (λ o. suc (above (depth_up high parent) o)) e ∙ sym (roots n e)
      | inr q ↦
          let f : level n ≡ level q.0 + 1 = falls n q.0 q.1 in
          let ih : depth_up high parent q.0 ≡ level q.0 = depth_is parent level roots falls high q.0 (omega arith) in
          depth_at high parent n ∙ ap (λ o. suc (above (depth_up high parent) o)) q.1 ∙ omega arith
    ]

height_at : (deep : ℕ) (children : ℕ → List ℕ) (n : ℕ) → height_down (suc deep) children n ≡ suc (greatest (height_down deep children) (children n))
unfolding height_down
height_at deep children n = refl

path_ends : (parent : ℕ → Option ℕ) (a n : ℕ) → on_path zero parent a n ≡ false
unfolding on_path
path_ends parent a n = refl

pub greatest_same : (f g : ℕ → ℕ) (xs : List ℕ) → ((c : ℕ) → has xs c ≡ true → f c ≡ g c) → greatest f xs ≡ greatest g xs
greatest_same f g [] h = refl
greatest_same f g (x ∷ xs) h =
    let here : has (x ∷ xs) x ≡ true = grind (arith, nat_tests) in
    let e : f x ≡ g x = h x here in
    let r : greatest f xs ≡ greatest g xs = greatest_same f g xs (λ c k. h c (grind (arith, nat_tests))) in
    cc

pub greatest_bounds : (f : ℕ → ℕ) (xs : List ℕ) (c : ℕ) → has xs c ≡ true → f c ≤ greatest f xs
greatest_bounds f [] c h = grind arith
greatest_bounds f (x ∷ xs) c h = grind (arith, nat_tests, greatest_bounds f xs c)

pub greatest_within : (f : ℕ → ℕ) (xs : List ℕ) (bound : ℕ) → ((c : ℕ) → has xs c ≡ true → f c ≤ bound) → greatest f xs ≤ bound
greatest_within f [] bound h = omega arith
greatest_within f (x ∷ xs) bound h =
    let here : f x ≤ bound = h x (grind (arith, nat_tests)) in
    let r = greatest_within f xs bound (λ c k. h c (grind (arith, nat_tests))) in
    omega arith

no_height : (children : ℕ → List ℕ) (n : ℕ) → height_down zero children n ≡ 0
unfolding height_down
no_height children n = refl

module _ {P : Type 0} {most : ℕ} {nodes : List (Knot P)} (forest : IsForest most nodes) where
  pub kid_parent : (p c : ℕ) → has (children_of nodes p) c ≡ true → parent_of nodes c ≡ Some p
  kid_parent p c h = names_some _ p (sym (forest.listed p c) ∙ h)

  pub kid_depth : (p c : ℕ) → has (children_of nodes p) c ≡ true → depth nodes c ≡ depth nodes p + 1
  kid_depth p c h = forest.falls c p (kid_parent p c h)

  pub low_enough : (n : ℕ) → depth nodes n ≤ 65536
  low_enough n = omega (arith, forest.within n, forest.levels)

  path_more : (a high n : ℕ) → depth nodes n ≤ high → on_path (suc high) (parent_of nodes) a n ≡ on_path high (parent_of nodes) a n
  path_more a zero n h = absurd (omega (arith, depth_positive nodes n))
  path_more a (suc high) n h =
      on_path_at (suc high) (parent_of nodes) a n
      ∙ elim (option_cases (parent_of nodes n)) as (λ _. (nat_eq a n || is_above (on_path (suc high) (parent_of nodes) a) (parent_of nodes n)) ≡ (nat_eq a n || is_above (on_path high (parent_of nodes) a) (parent_of nodes n))) [
        | inl e ↦ rw e
        | inr q ↦ rw q.1 (ap (λ b. nat_eq a n || b) (path_more a high q.0 (omega (arith, forest.falls n q.0 q.1))))
      ]
      ∙ sym (on_path_at high (parent_of nodes) a n)

  pub is_ancestor_at : (a n : ℕ) → is_ancestor nodes a n ≡ (nat_eq a n || is_above (is_ancestor nodes a) (parent_of nodes n))
  unfolding is_ancestor
  is_ancestor_at a n =
      on_path_at 65535 (parent_of nodes) a n
      ∙ elim (option_cases (parent_of nodes n)) as (λ _. (nat_eq a n || is_above (on_path 65535 (parent_of nodes) a) (parent_of nodes n)) ≡ (nat_eq a n || is_above (on_path 65536 (parent_of nodes) a) (parent_of nodes n))) [
        | inl e ↦ rw e
        | inr q ↦ rw q.1 (ap (λ b. nat_eq a n || b) (sym (path_more a 65535 q.0 (omega (arith, forest.falls n q.0 q.1, low_enough n)))))
      ]

  height_more : (deep n : ℕ) → 65536 < depth nodes n + deep → height_down (suc deep) (children_of nodes) n ≡ height_down deep (children_of nodes) n
  height_more zero n h = absurd (omega (arith, low_enough n))
  height_more (suc deep) n h =
      height_at (suc deep) (children_of nodes) n
      ∙ ap suc (greatest_same _ _ (children_of nodes n) (λ c k. height_more deep c (omega (arith, kid_depth n c k))))
      ∙ sym (height_at deep (children_of nodes) n)

  pub height_law : (n : ℕ) → height nodes n ≡ suc (greatest (height nodes) (children_of nodes n))
  unfolding height
  height_law n =
      height_at 65535 (children_of nodes) n
      ∙ ap suc (greatest_same _ _ (children_of nodes n) (λ c k. sym (height_more 65535 c (omega (arith, kid_depth n c k, depth_positive nodes n)))))

  pub height_falls : (p c : ℕ) → has (children_of nodes p) c ≡ true → height nodes c + 1 ≤ height nodes p
  height_falls p c h = omega (arith, height_law p, greatest_bounds (height nodes) (children_of nodes p) c h)

  path_below : (high a n : ℕ) → on_path high (parent_of nodes) a n ≡ true → (depth nodes a ≤ depth nodes n) × (depth nodes n + height nodes n ≤ depth nodes a + height nodes a)
  path_below zero a n h = absurd (false≢true (sym (path_ends (parent_of nodes) a n) ∙ h))
  path_below (suc high) a n h =
      elim (or_cases _ _ (sym (on_path_at high (parent_of nodes) a n) ∙ h)) [
        | inl e ↦ subst (λ m. (depth nodes a ≤ depth nodes m) × (depth nodes m + height nodes m ≤ depth nodes a + height nodes a)) (eqb-true a n e) (omega arith, omega arith)
        | inr e ↦ elim (option_cases (parent_of nodes n)) [
          | inl f ↦ absurd (false≢true (sym (ap (is_above (on_path high (parent_of nodes) a)) f) ∙ e))
          | inr q ↦
              let ih = path_below high a q.0 (sym (ap (is_above (on_path high (parent_of nodes) a)) q.1) ∙ e) in
              let d = forest.falls n q.0 q.1 in
              let t = height_falls q.0 n (forest.listed q.0 n ∙ some_names _ q.0 q.1) in
              (omega (arith, ih.0, d), omega (arith, ih.1, d, t))
        ]
      ]

  pub below : (a n : ℕ) → is_ancestor nodes a n ≡ true → (depth nodes a ≤ depth nodes n) × (depth nodes n + height nodes n ≤ depth nodes a + height nodes a)
  unfolding is_ancestor
  below a n h = path_below 65536 a n h

  height_inside : (deep n : ℕ) → depth nodes n + height_down deep (children_of nodes) n ≤ most + 1
  height_inside zero n = omega (arith, forest.within n, no_height (children_of nodes) n)
  height_inside (suc deep) n =
      let r = greatest_within (height_down deep (children_of nodes)) (children_of nodes n) (most - depth nodes n)
      (λ c h. omega (arith, kid_depth n c h, height_inside deep c, forest.within c)) in
      omega (arith, forest.within n, height_at deep (children_of nodes) n)

  pub height_bound : (n : ℕ) → depth nodes n + height nodes n ≤ most + 1
  unfolding height
  height_bound n = height_inside 65536 n
