-- A list of nodes with one of them changed.
use Rattle.std.proofs.Common.{◌≡◌, ℕ, zero, suc, ◌<◌, List, [], ◌∷◌, length, Option, Some, None, option_map, false, cond, nat_eq, slice_get, refl, ap, ◌∙◌, arith}
use Rattle.std.proofs.lemmas.Bool.Decides.{nat_tests}
use Rattle.element_tree.specs.Forest.{Knot, parent_of, children_of}
use Rattle.element_tree.specs.Edits.{change_at, with_parent, with_children, without, put_before, removed_from, attached}

pub length-changed : {A : Type 0} (f : A → A) (p : ℕ) (xs : List A) → length (change_at f p xs) ≡ length xs
length-changed f p [] = refl
length-changed f zero (x ∷ xs) = refl
length-changed f (suc p) (x ∷ xs) = ap suc (length-changed f p xs)

module _ {P : Type 0} where
  pub payload-changed : (f : Knot P → Knot P) → ((k : Knot P) → (f k).payload ≡ k.payload) → (p : ℕ) (xs : List (Knot P)) (m : ℕ)
      → option_map (λ k. k.payload) (slice_get (change_at f p xs) m) ≡ option_map (λ k. k.payload) (slice_get xs m)
  payload-changed f same p [] m = refl
  payload-changed f same zero (x ∷ xs) zero = ap Some (same x)
  payload-changed f same zero (x ∷ xs) (suc m) = refl
  payload-changed f same (suc p) (x ∷ xs) zero = refl
  payload-changed f same (suc p) (x ∷ xs) (suc m) = payload-changed f same p xs m

  pub parent-reparented : (o : Option ℕ) (p : ℕ) (xs : List (Knot P)) (m : ℕ) → p < length xs
      → parent_of (change_at (with_parent o) p xs) m ≡ cond (nat_eq m p) o (parent_of xs m)
  parent-reparented o p [] m h = absurd (omega arith)
  parent-reparented o zero (x ∷ xs) zero h = refl
  parent-reparented o zero (x ∷ xs) (suc m) h = let e : nat_eq (suc m) 0 ≡ false = grind (arith, nat_tests) in rw e
  parent-reparented o (suc p) (x ∷ xs) zero h = let e : nat_eq 0 (suc p) ≡ false = grind (arith, nat_tests) in rw e
  parent-reparented o (suc p) (x ∷ xs) (suc m) h = let e : nat_eq (suc m) (suc p) ≡ nat_eq m p = grind (arith, nat_tests) in rw e (parent-reparented o p xs m (omega arith))

  pub children-reparented : (o : Option ℕ) (p : ℕ) (xs : List (Knot P)) (m : ℕ)
      → children_of (change_at (with_parent o) p xs) m ≡ children_of xs m
  children-reparented o p [] m = refl
  children-reparented o zero (x ∷ xs) zero = refl
  children-reparented o zero (x ∷ xs) (suc m) = refl
  children-reparented o (suc p) (x ∷ xs) zero = refl
  children-reparented o (suc p) (x ∷ xs) (suc m) = children-reparented o p xs m

  pub parent-edited : (e : List ℕ → List ℕ) (p : ℕ) (xs : List (Knot P)) (m : ℕ)
      → parent_of (change_at (with_children e) p xs) m ≡ parent_of xs m
  parent-edited e p [] m = refl
  parent-edited e zero (x ∷ xs) zero = refl
  parent-edited e zero (x ∷ xs) (suc m) = refl
  parent-edited e (suc p) (x ∷ xs) zero = refl
  parent-edited e (suc p) (x ∷ xs) (suc m) = parent-edited e p xs m

  pub children-edited : (e : List ℕ → List ℕ) (p : ℕ) (xs : List (Knot P)) (m : ℕ) → p < length xs
      → children_of (change_at (with_children e) p xs) m ≡ cond (nat_eq m p) (e (children_of xs m)) (children_of xs m)
  children-edited e p [] m h = absurd (omega arith)
  children-edited e zero (x ∷ xs) zero h = refl
  children-edited e zero (x ∷ xs) (suc m) h = let r : nat_eq (suc m) 0 ≡ false = grind (arith, nat_tests) in rw r
  children-edited e (suc p) (x ∷ xs) zero h = let r : nat_eq 0 (suc p) ≡ false = grind (arith, nat_tests) in rw r
  children-edited e (suc p) (x ∷ xs) (suc m) h = let r : nat_eq (suc m) (suc p) ≡ nat_eq m p = grind (arith, nat_tests) in rw r (children-edited e p xs m (omega arith))

  pub parent_within : (xs : List (Knot P)) (m p : ℕ) → parent_of xs m ≡ Some p → m < length xs
  parent_within [] m p e = cc
  parent_within (x ∷ xs) zero p e = omega arith
  parent_within (x ∷ xs) (suc m) p e = let h = parent_within xs m p e in omega arith

  -- the nodes of a removal
  module _ (nodes : List (Knot P)) (n p : ℕ) (n_in : n < length nodes) (p_in : p < length nodes) where
    pub parent-removed : (m : ℕ) → parent_of (removed_from (Some p) n nodes) m ≡ cond (nat_eq m n) None (parent_of nodes m)
    parent-removed m =
        parent-reparented None n _ m (omega (arith, length-changed (with_children {P = P} (without n)) p nodes))
        ∙ ap (λ o. cond (nat_eq m n) None o) (parent-edited (without n) p nodes m)

    pub children-removed : (m : ℕ) → children_of (removed_from (Some p) n nodes) m ≡ cond (nat_eq m p) (without n (children_of nodes m)) (children_of nodes m)
    children-removed m = children-reparented None n _ m ∙ children-edited (without n) p nodes m p_in

    pub payload-removed : (m : ℕ) → option_map (λ k. k.payload) (slice_get (removed_from (Some p) n nodes) m) ≡ option_map (λ k. k.payload) (slice_get nodes m)
    payload-removed m = payload-changed (with_parent None) (λ k. refl) n _ m ∙ payload-changed (with_children (without n)) (λ k. refl) p nodes m

    pub length-removed : length (removed_from (Some p) n nodes) ≡ length nodes
    length-removed = length-changed (with_parent {P = P} None) n _ ∙ length-changed (with_children {P = P} (without n)) p nodes

  -- the nodes of an insertion
  module _ (nodes : List (Knot P)) (p n : ℕ) (mark : Option ℕ) (n_in : n < length nodes) (p_in : p < length nodes) where
    pub parent-attached : (m : ℕ) → parent_of (attached p n mark nodes) m ≡ cond (nat_eq m n) (Some p) (parent_of nodes m)
    parent-attached m =
        parent-reparented (Some p) n _ m (omega (arith, length-changed (with_children {P = P} (put_before mark n)) p nodes))
        ∙ ap (λ o. cond (nat_eq m n) (Some p) o) (parent-edited (put_before mark n) p nodes m)

    pub children-attached : (m : ℕ) → children_of (attached p n mark nodes) m ≡ cond (nat_eq m p) (put_before mark n (children_of nodes m)) (children_of nodes m)
    children-attached m = children-reparented (Some p) n _ m ∙ children-edited (put_before mark n) p nodes m p_in

    pub payload-attached : (m : ℕ) → option_map (λ k. k.payload) (slice_get (attached p n mark nodes) m) ≡ option_map (λ k. k.payload) (slice_get nodes m)
    payload-attached m = payload-changed (with_parent (Some p)) (λ k. refl) n _ m ∙ payload-changed (with_children (put_before mark n)) (λ k. refl) p nodes m

    pub length-attached : length (attached p n mark nodes) ≡ length nodes
    length-attached = length-changed (with_parent {P = P} (Some p)) n _ ∙ length-changed (with_children {P = P} (put_before mark n)) p nodes
