-- A climb from a node to the top of its tree that marks what it comes to.
use Rattle.std.proofs.Common.{◌≡◌, ◌≢◌, ◌<◌, ◌≤◌, ℕ, List, length, nat_lt, unwrap_or, option_map, Option, Some, None, Bool, true, false, nat_eq, ◌||◌, refl, ap, sym, ◌∙◌, inl, inr, arith}
use Rattle.std.proofs.lemmas.Bool.Decides.{nat_tests}
use Rattle.std.proofs.lemmas.Option.{slice_get_past}
use Rattle.layout_model.specs.Styles.{Style}
use Rattle.layout_model.specs.Items.{Kind}
use Rattle.layout_model.specs.Nodes.{Node, is_in_path}
use Rattle.layout_model.specs.Boxes.{kids_of}
use Rattle.element_tree.specs.declared.node.NodeId.{NodeId}
use Rattle.element_tree.specs.Links.{node_ids, number}
use Rattle.element_tree.proofs.Walks.{back_numbers}
use Rattle.element_tree.specs.Forest.{Knot, IsForest, has, parent_of}
use Rattle.element_tree.proofs.Levels.{option_cases}
use Rattle.block_layout.specs.Trees.{layout_tree}
use Rattle.block_layout.proofs.Ancestors.{in_top, in_child, under_child}
use Rattle.kept_layout.specs.declared.slots.Slot.{Slot}
use Rattle.kept_layout.specs.Slots.{no_slot, slot_in, marked_if}
use Rattle.kept_layout.proofs.Lists.{decide, apart}
use Rattle.kept_layout.proofs.Shapes.{kid_listed}

abbrev pub above_in_path : (ℕ → Node) → ℕ → Option ℕ → Bool
above_in_path at m None = false
above_in_path at m (Some n) = is_in_path at m n

marked_twice : (b : Bool) (slot : Slot) → marked_if b (marked_if true slot) ≡ marked_if true slot
marked_twice true slot = refl
marked_twice false slot = refl

module _ {P : Type 0} (style : P → Style) (kind : P → Kind) {most : ℕ} {nodes : List (Knot P)} (forest : IsForest most nodes) where
  ahead_is : (m n : ℕ) → is_in_path (layout_tree style kind nodes) m n ≡ (nat_eq m n || above_in_path (layout_tree style kind nodes) m (parent_of nodes n))
  ahead_is m n =
      elim (option_cases (parent_of nodes n)) [
        | inl top ↦ in_top style kind forest m n top ∙ ap (λ o. nat_eq m n || above_in_path (layout_tree style kind nodes) m o) (sym top)
        | inr q ↦ in_child style kind forest m n q.0 q.1 ∙ ap (λ o. nat_eq m n || above_in_path (layout_tree style kind nodes) m o) (sym q.1)
      ]

  -- once a node is marked, its ancestors are left
  climbs : (n m : ℕ) (old new : ℕ → Slot) → (m ≡ n → new m ≡ marked_if true (old m)) → (m ≢ n → new m ≡ old m)
      → marked_if (above_in_path (layout_tree style kind nodes) m (parent_of nodes n)) (new m) ≡ marked_if (is_in_path (layout_tree style kind nodes) m n) (old m)
  climbs n m old new own others =
      elim (decide m n) [
        | inl same ↦
            ap (marked_if (above_in_path (layout_tree style kind nodes) m (parent_of nodes n))) (own same)
            ∙ marked_twice (above_in_path (layout_tree style kind nodes) m (parent_of nodes n)) (old m)
            ∙ ap (λ b. marked_if b (old m)) (sym (ahead_is m n ∙ ap (λ b. b || above_in_path (layout_tree style kind nodes) m (parent_of nodes n)) (same_test m n same)))
        | inr other ↦
            ap (marked_if (above_in_path (layout_tree style kind nodes) m (parent_of nodes n))) (others other)
            ∙ ap (λ b. marked_if b (old m)) (sym (ahead_is m n ∙ ap (λ b. b || above_in_path (layout_tree style kind nodes) m (parent_of nodes n)) (apart m n other)))
      ]
    where
      same_test : (m n : ℕ) → m ≡ n → nat_eq m n ≡ true
      same_test m n same = grind (arith, nat_tests)

  pub climbs_on : (n m : ℕ) (up : Option NodeId) → up ≡ node_ids (parent_of nodes n) → (old new : ℕ → Slot) → (m ≡ n → new m ≡ marked_if true (old m)) → (m ≢ n → new m ≡ old m)
      → marked_if (above_in_path (layout_tree style kind nodes) m (option_map number up)) (new m) ≡ marked_if (is_in_path (layout_tree style kind nodes) m n) (old m)
  climbs_on n m up is old new own others =
      ap (λ (o : Option NodeId). marked_if (above_in_path (layout_tree style kind nodes) m (option_map number o)) (new m)) is
      ∙ ap (λ o. marked_if (above_in_path (layout_tree style kind nodes) m o) (new m)) (back_numbers (parent_of nodes n))
      ∙ climbs n m old new own others

  -- an ancestor of a child's descendant is one of the child's parent
  pub path_goes_up : (node p c : ℕ) → has (kids_of (layout_tree style kind nodes p)) c ≡ true → is_in_path (layout_tree style kind nodes) c node ≡ true → is_in_path (layout_tree style kind nodes) p node ≡ true
  path_goes_up node p c kid inside = under_child style kind forest p c node (kid_listed style kind forest p c kid) inside

slot_past : (slots : List Slot) (m : ℕ) → length slots ≤ m → slot_in slots m ≡ no_slot
slot_past slots m past = ap (λ o. unwrap_or o no_slot) (slice_get_past slots m past)

-- what has no slot isn't marked
pub marks_all : (old new : List Slot) (path : ℕ → Bool) → length new ≡ length old → ((m : ℕ) → path m ≡ true → m < length old)
    → ((m : ℕ) → m < length old → slot_in new m ≡ marked_if (path m) (slot_in old m)) → (m : ℕ) → slot_in new m ≡ marked_if (path m) (slot_in old m)
marks_all old new path same within marks m = by (path m) refl (nat_lt m (length old)) refl
  where
    by : (b : Bool) → path m ≡ b → (d : Bool) → nat_lt m (length old) ≡ d → slot_in new m ≡ marked_if (path m) (slot_in old m)
    by true is d low = marks m (within m is)
    by false is true low = marks m (grind (arith, nat_tests))
    by false is false low =
        let past : length old ≤ m = grind (arith, nat_tests) in
        slot_past new m (omega arith) ∙ sym (slot_past old m past) ∙ sym (ap (λ b. marked_if b (slot_in old m)) is)
