-- What layout sees of a forest is linked, has at most as many levels as are looked at, and counts depths and ancestors as
-- the forest does.
use Rattle.std.proofs.Common.{◌≡◌, ◌<◌, ℕ, zero, suc, List, [], ◌∷◌, length, get_or, Option, Some, None, Bool, true, false, nat_eq, ◌||◌, refl, ap, sym, subst, ◌∙◌, arith, eqb-true}
use Rattle.std.proofs.lemmas.Bool.{false≢true}
use Rattle.std.proofs.lemmas.Bool.Decides.{nat_tests}
use Rattle.std.specs.Prelude.{Contains}
use Rattle.layout_model.specs.Styles.{Style}
use Rattle.layout_model.specs.Items.{Kind}
use Rattle.layout_model.specs.Nodes.{path_above, path_up, path_of, depth_of, IsLinked, IsListed, IsShallow, Node}
use Rattle.element_tree.specs.Forest.{Knot, IsForest, IsOnce, has, parent_of, children_of, depth, depth_up, above}
use Rattle.element_tree.proofs.Depths.{depth_at, depth_one}
use Rattle.element_tree.proofs.Facts.{listed_child}
use Rattle.element_tree.proofs.Levels.{depth_is, kid_parent, low_enough}
use Rattle.block_layout.specs.Trees.{layout_tree}
use Rattle.block_layout.proofs.Nodes.{parent_is, children_is}

has_met : (x : ℕ) (xs : List ℕ) (c : ℕ) → (Contains xs c → has xs c ≡ true) → (k : ℕ) → k < suc (length xs) → get_or (x ∷ xs) k c ≡ c → has (x ∷ xs) c ≡ true
has_met x xs c below zero short is = let same : x ≡ c = is in grind (arith, nat_tests)
has_met x xs c below (suc k) short is = grind (arith, nat_tests, below (k, omega arith, is))

pub contains_has : (xs : List ℕ) (c : ℕ) → Contains xs c → has xs c ≡ true
contains_has [] c among = absurd (omega (arith, among.1))
contains_has (x ∷ xs) c among = has_met x xs c (contains_has xs c) (among.0) (among.1) (among.2)

pub has_contains : (xs : List ℕ) (c : ℕ) → has xs c ≡ true → Contains xs c
has_contains [] c held = absurd (false≢true held)
has_contains (x ∷ xs) c held = by_first (nat_eq c x) refl (has_contains xs c) held
  where
    by_first : (same : Bool) → nat_eq c x ≡ same → (has xs c ≡ true → Contains xs c) → (same || has xs c) ≡ true → Contains (x ∷ xs) c
    by_first true is later held = (0, omega arith, sym (eqb-true c x is))
    by_first false is later held = let rest = later held in (suc (rest.0), omega (arith, rest.1), rest.2)

above_length : (path : ℕ → List ℕ) (up : ℕ → ℕ) → ((p : ℕ) → length (path p) ≡ up p) → (o : Option ℕ) → length (path_above path o) ≡ above up o
above_length path up same None = refl
above_length path up same (Some p) = same p

above_nothing : (o : Option ℕ) (parent : ℕ → Option ℕ) → 0 ≡ above (depth_up 0 parent) o
unfolding depth_up
above_nothing None parent = refl
above_nothing (Some p) parent = refl

module _ {P : Type 0} {most : ℕ} {nodes : List (Knot P)} (forest : IsForest most nodes) (at : ℕ → Node) (parents : (n : ℕ) → (at n).parent ≡ parent_of nodes n) where
  path_length : (high n : ℕ) → length (path_up high at n) ≡ depth_up (suc high) (parent_of nodes) n
  unfolding path_up
  path_length zero n = ap suc (above_nothing (parent_of nodes n) (parent_of nodes)) ∙ sym (depth_at 0 (parent_of nodes) n)
  path_length (suc high) n =
      let up : length (path_above (path_up high at) ((at n).parent)) ≡ above (depth_up (suc high) (parent_of nodes)) (parent_of nodes n)
      = above_length (path_up high at) (depth_up (suc high) (parent_of nodes)) (path_length high) ((at n).parent)
      ∙ ap (above (depth_up (suc high) (parent_of nodes))) (parents n) in
      ap suc up ∙ sym (depth_at (suc high) (parent_of nodes) n)

  -- nodes with the parents of a forest are as deep as in it
  pub as_deep : (n : ℕ) → depth_of at n ≡ depth nodes n
  unfolding depth_of path_of
  as_deep n =
      path_length 65536 n ∙ depth_is (parent_of nodes) (depth nodes) (λ m top. depth_one nodes m top) forest.falls 65537 n (omega (arith, low_enough forest n))

module _ {P : Type 0} (style : P → Style) (kind : P → Kind) {most : ℕ} {nodes : List (Knot P)} (forest : IsForest most nodes) where
  pub depth_same : (n : ℕ) → depth_of (layout_tree style kind nodes) n ≡ depth nodes n
  depth_same = as_deep forest (layout_tree style kind nodes) (parent_is style kind nodes)

  pub linked : IsLinked (layout_tree style kind nodes)
  linked p c among =
      parent_is style kind nodes c
      ∙ kid_parent forest p c (contains_has (children_of nodes p) c (subst (λ xs. Contains xs c) (children_is style kind nodes p) among))

  pub shallow : IsShallow (layout_tree style kind nodes)
  shallow n = omega (arith, depth_same n, low_enough forest n)

  -- each node with a parent is one of its children, once
  pub listed : IsListed (layout_tree style kind nodes)
  listed c p up =
      subst (λ xs. Contains xs c) (sym (children_is style kind nodes p))
      (has_contains (children_of nodes p) c (listed_child forest c p (sym (parent_is style kind nodes c) ∙ up)))

  pub once : (p : ℕ) → IsOnce ((layout_tree style kind nodes p).children)
  once p = subst (λ xs. IsOnce xs) (sym (children_is style kind nodes p)) (forest.once p)
