-- What a caller can use of a forest besides `IsForest` itself: `kid_parent`, `kid_depth`, `height_law`, `height_falls`
-- and `height_bound` of `Levels`, the walks of `Walks`, and these.
use Rattle.std.proofs.Common.{◌≡◌, ℕ, zero, suc, ◌<◌, List, [], ◌∷◌, length, get_or, Some, true, sym, ◌∙◌, arith, inl, inr, eqb-true}
use Rattle.std.proofs.lemmas.Bool.{or_cases}
use Rattle.element_tree.specs.Forest.{Knot, IsForest, has, parent_of, children_of}
use Rattle.element_tree.proofs.Nodes.{parent_within}
use Rattle.element_tree.proofs.Levels.{kid_parent, some_names}

pub place_of : (xs : List ℕ) (c : ℕ) → has xs c ≡ true → (i : ℕ) × (i < length xs) × (get_or xs i 0 ≡ c)
place_of [] c h = cc
place_of (x ∷ xs) c h =
    elim (or_cases _ _ h) [
      | inl e ↦ (0, omega arith, sym (eqb-true c x e))
      | inr e ↦ let r = place_of xs c e in let below = r.1 in (suc r.0, omega arith, r.2)
    ]

children_inside : {P : Type 0} (nodes : List (Knot P)) (p c : ℕ) → has (children_of nodes p) c ≡ true → p < length nodes
children_inside [] p c h = cc
children_inside (x ∷ nodes) zero c h = omega arith
children_inside (x ∷ nodes) (suc p) c h = let r = children_inside nodes p c h in omega arith

module _ {P : Type 0} {most : ℕ} {nodes : List (Knot P)} (forest : IsForest most nodes) where
  pub listed_child : (c p : ℕ) → parent_of nodes c ≡ Some p → has (children_of nodes p) c ≡ true
  listed_child c p e = forest.listed p c ∙ some_names _ p e

  pub child_in_range : (p c : ℕ) → has (children_of nodes p) c ≡ true → c < length nodes
  child_in_range p c h = parent_within nodes c p (kid_parent forest p c h)

  pub parent_in_range : (c p : ℕ) → parent_of nodes c ≡ Some p → p < length nodes
  parent_in_range c p e = children_inside nodes p c (listed_child c p e)
