-- A walk doesn't enter where nothing that is held is reached.
use Rattle.std.proofs.Common.{◌≡◌, ℕ, List, Bool, true, false, nat_eq, inl, inr, Option, Some, None, refl, ap, sym, subst, ◌∙◌, eqb-true}
use Rattle.std.proofs.lemmas.Bool.{or_cases, false≢true}
use Rattle.std.specs.Prelude.{◌&&◌, not, find}
use Rattle.layout_model.specs.Styles.{Style, Position, StaticPosition, RelativePosition, AbsolutePosition, FixedPosition}
use Rattle.layout_model.specs.Clips.{clips}
use Rattle.layout_model.specs.Nodes.{Node, is_in_path, position_of, is_positioned, is_flow, Holder, HeldByElement, HeldByScreen, held_by, holder, IsShallow}
use Rattle.layout_model.specs.Views.{View}
use Rattle.layout_model.proofs.Ancestors.{option_cases, in_self, in_top, in_child, above_in, down_path, in_path_of_parent}
use Rattle.layout_model.proofs.Holders.{holder_of_child, holder_of_absolute, holder_of_fixed}
use Rattle.layout_model.proofs.Paths.{ancestors_child}
use Rattle.element_tree.specs.Forest.{Knot, IsForest, children_of}
use Rattle.element_tree.proofs.Levels.{kid_parent}
use Rattle.positioned_layout.specs.declared.reaches.Around.{Around}
use Rattle.positioned_layout.specs.Trees.{AreNodesOf}
use Rattle.positioned_layout.specs.Walked.{absolute_in, IsReachedIn, IsOpenIn, IsAround}
use Rattle.positioned_layout.proofs.Nodes.{shallow}
use Rattle.positioned_layout.proofs.Walking.{absolute_static, absolute_self}

-- where nothing that a node or what is around it holds is reached, nothing in it is
module _ (at : ℕ → Node) (shallow : IsShallow at) (opens : Holder → Bool) (n : ℕ) (inner : IsOpenIn at n opens) (fixed : opens HeldByScreen ≡ false) where
  abbrev IsClosed : ℕ → Type 0
  IsClosed m = (is_in_path at n m ≡ true) × (opens (HeldByElement m) ≡ false) × (opens (absolute_in at m) ≡ false)

  child_closed : (c p : ℕ) → (at c).parent ≡ Some p → opens (HeldByElement p) ≡ false → opens (absolute_in at p) ≡ false → opens (holder at c) ≡ false
  child_closed c p up flow absolute = by_position (position_of (at c)) refl
    where
      by_position : (position : Position) → position_of (at c) ≡ position → opens (holder at c) ≡ false
      by_position StaticPosition is = ap opens (holder_of_child at c p up (ap is_flow is)) ∙ flow
      by_position RelativePosition is = ap opens (holder_of_child at c p up (ap is_flow is)) ∙ flow
      by_position AbsolutePosition is =
          ap opens (holder_of_absolute at c is ∙ ap (λ above. held_by (find (λ a. is_positioned (at a)) above)) (ancestors_child at c p up)) ∙ absolute
      by_position FixedPosition is = ap opens (holder_of_fixed at c is) ∙ fixed

  absolute_closed : (c p : ℕ) → (at c).parent ≡ Some p → opens (HeldByElement c) ≡ false → opens (absolute_in at p) ≡ false → opens (absolute_in at c) ≡ false
  absolute_closed c p up own above = by_test (is_positioned (at c)) refl
    where
      by_test : (test : Bool) → is_positioned (at c) ≡ test → opens (absolute_in at c) ≡ false
      by_test true is = ap opens (absolute_self at shallow c is) ∙ own
      by_test false is = ap opens (absolute_static at p c shallow up is) ∙ above

  all_closed : opens (HeldByElement n) ≡ false → opens (absolute_in at n) ≡ false → (m : ℕ) → is_in_path at n m ≡ true → IsClosed m
  all_closed flow absolute m inside = down_path at shallow IsClosed step n m inside (in_self at n, flow, absolute)
    where
      step : (c p : ℕ) → (at c).parent ≡ Some p → IsClosed p → IsClosed c
      step c p up (within, own, above) =
          let held = child_closed c p up own above in
          let closed : opens (HeldByElement c) ≡ false = inner c p within up ∙ ap (λ b. b && not (clips (at c))) held in
          (above_in at shallow n c p up within, closed, absolute_closed c p up closed above)

  -- of a box in a child of the node
  closed_in : opens (HeldByElement n) ≡ false → opens (absolute_in at n) ≡ false → (c d : ℕ) → (at c).parent ≡ Some n → is_in_path at c d ≡ true → opens (holder at d) ≡ false
  closed_in flow absolute c d up inside =
      elim (option_cases ((at d).parent)) [
        | inl top ↦
            let same : c ≡ d = top_inside top in
            let clash : None ≡ Some n = sym top ∙ ap (λ m. (at m).parent) (sym same) ∙ up in
            absurd (let no : ⊥ = cc in no)
        | inr p ↦
            let over : is_in_path at n p.0 ≡ true = parent_inside p.0 p.1 in
            let known = all_closed flow absolute p.0 over in
            child_closed d p.0 p.1 known.1 known.2
      ]
    where
      top_inside : (at d).parent ≡ None → c ≡ d
      top_inside top = elim (or_cases (nat_eq c d) false (sym (in_top at shallow c d top) ∙ inside)) [ inl e ↦ eqb-true c d e | inr e ↦ absurd (false≢true e) ]

      parent_inside : (p : ℕ) → (at d).parent ≡ Some p → is_in_path at n p ≡ true
      parent_inside p is = elim (or_cases (nat_eq c d) (is_in_path at c p) (sym (in_child at shallow c d p is) ∙ inside)) [
        | inl e ↦
            let same : c ≡ d = eqb-true c d e in
            let both : ◌≡◌ {A = Option ℕ} (Some n) (Some p) = sym up ∙ ap (λ m. (at m).parent) same ∙ is in
            let it : n ≡ p = cc in
            subst (λ m. is_in_path at n m ≡ true) it (in_self at n)
        | inr e ↦ in_path_of_parent at shallow n c p up e
      ]

all_false : (a b c : Bool) → (not a && (not b && not c)) ≡ true → (a ≡ false) × (b ≡ false) × (c ≡ false)
all_false false false false is = (refl, refl, refl)
all_false false false true is = absurd (false≢true is)
all_false false true c is = absurd (false≢true is)
all_false true b c is = absurd (false≢true is)

pub nothing_reached : {P : Type 0} (placed : P → Style) (nodes : List (Knot P)) (at : ℕ → Node) → AreNodesOf placed nodes at → {most : ℕ} → IsForest most nodes → (view : View) (opens : Holder → Bool) (n : ℕ) → IsOpenIn at n opens
    → (around : Around) → IsAround at view n opens around → (not around.flow && (not around.absolute.opened && not around.fixed.opened)) ≡ true → (d : ℕ) → IsReachedIn at view opens (children_of nodes n) d → ⊥
nothing_reached placed nodes at are forest view opens n inner around known shut d ((c, held, inside), reached) =
    let closed = all_false around.flow around.absolute.opened around.fixed.opened shut in
    let low = shallow placed nodes at are forest in
    let up : (at c).parent ≡ Some n = are.parent c ∙ kid_parent forest n c held in
    false≢true (sym (closed_in at low opens n inner (sym known.fixed.opened ∙ closed.2) (sym known.flow ∙ closed.0) (sym known.absolute.opened ∙ closed.1) c d up inside) ∙ reached.held)
