-- Inclusive ancestors in what layout sees of a forest.
use Rattle.std.proofs.Common.{◌≡◌, ◌≤◌, ℕ, zero, suc, List, Some, None, Bool, true, false, nat_eq, ◌||◌, refl, ap, sym, ◌∙◌, ◌⊎◌, inl, inr, arith, eqb-true}
use Rattle.std.proofs.lemmas.Bool.{or_cases, false≢true}
use Rattle.layout_model.specs.Styles.{Style}
use Rattle.layout_model.specs.Items.{Kind}
use Rattle.layout_model.specs.Nodes.{is_in_path}
pub use Rattle.layout_model.proofs.Ancestors.{in_self}
use Rattle.layout_model.proofs.Ancestors.{in_top as top_path, in_child as child_path, above_in as path_on, in_path_of_parent}
use Rattle.element_tree.specs.Forest.{Knot, IsForest, has, parent_of, children_of, depth}
use Rattle.element_tree.proofs.Depths.{depth_positive}
use Rattle.element_tree.proofs.Facts.{listed_child}
use Rattle.element_tree.proofs.Levels.{kid_parent, option_cases}
use Rattle.block_layout.specs.Trees.{layout_tree}
use Rattle.block_layout.proofs.Forests.{shallow}
use Rattle.block_layout.proofs.Nodes.{parent_is}

module _ {P : Type 0} (style : P → Style) (kind : P → Kind) {most : ℕ} {nodes : List (Knot P)} (forest : IsForest most nodes) where
  abbrev in_path : ℕ → ℕ → Bool
  in_path a n = is_in_path (layout_tree style kind nodes) a n

  pub in_top : (a n : ℕ) → parent_of nodes n ≡ None → in_path a n ≡ (nat_eq a n || false)
  in_top a n top = top_path (layout_tree style kind nodes) (shallow style kind forest) a n (parent_is style kind nodes n ∙ top)

  pub in_child : (a n p : ℕ) → parent_of nodes n ≡ Some p → in_path a n ≡ (nat_eq a n || in_path a p)
  in_child a n p up = child_path (layout_tree style kind nodes) (shallow style kind forest) a n p (parent_is style kind nodes n ∙ up)

  pub above_in : (a n p : ℕ) → parent_of nodes n ≡ Some p → in_path a p ≡ true → in_path a n ≡ true
  above_in a n p up inside = path_on (layout_tree style kind nodes) (shallow style kind forest) a n p (parent_is style kind nodes n ∙ up) inside

  -- what is in a child is in its parent
  pub under_child : (p c n : ℕ) → has (children_of nodes p) c ≡ true → in_path c n ≡ true → in_path p n ≡ true
  under_child p c n kid inside = in_path_of_parent (layout_tree style kind nodes) (shallow style kind forest) p c n (parent_is style kind nodes c ∙ kid_parent forest p c kid) inside

  pub beside_child : (p c n : ℕ) → has (children_of nodes p) c ≡ true → in_path p n ≡ false → in_path c n ≡ false
  beside_child p c n kid outside = other (in_path c n) refl
    where
      other : (b : Bool) → in_path c n ≡ b → in_path c n ≡ false
      other true is = absurd (false≢true (sym outside ∙ under_child p c n kid is))
      other false is = is

  abbrev pub IsUnderChild : ℕ → ℕ → Type 0
  IsUnderChild p n = (c : ℕ) × (has (children_of nodes p) c ≡ true) × (is_in_path (layout_tree style kind nodes) c n ≡ true)

  some_child_within : (high p n : ℕ) → depth nodes n ≤ high → in_path p n ≡ true → (p ≡ n) ⊎ IsUnderChild p n
  some_child_within zero p n low inside = absurd (omega (arith, depth_positive nodes n))
  some_child_within (suc high) p n low inside =
      elim (option_cases (parent_of nodes n)) [
        | inl top ↦ elim (or_cases _ _ (sym (in_top p n top) ∙ inside)) [
          | inl e ↦ inl (eqb-true p n e)
          | inr e ↦ absurd (false≢true e)
        ]
        | inr q ↦ elim (or_cases _ _ (sym (in_child p n q.0 q.1) ∙ inside)) [
          | inl e ↦ inl (eqb-true p n e)
          | inr e ↦ elim (some_child_within high p q.0 (omega (arith, forest.falls n q.0 q.1)) e) [
            | inl same ↦ inr (n, listed_child forest n p (q.1 ∙ ap Some (sym same)), in_self (layout_tree style kind nodes) n)
            | inr met ↦ inr (met.0, met.1, above_in met.0 n q.0 q.1 met.2)
          ]
        ]
      ]

  -- what is in a node is the node, or is in a child of it
  pub some_child : (p n : ℕ) → in_path p n ≡ true → (p ≡ n) ⊎ IsUnderChild p n
  some_child p n inside = some_child_within (depth nodes n) p n (omega arith) inside
