-- A walk downwards: which boxes it has passed, and what holds those to come.
use Rattle.std.proofs.Common.{◌≡◌, ◌≤◌, ◌⊎◌, inl, inr, ℕ, ℤ, Bool, true, false, cond, nat_eq, Option, Some, None, List, ◌∷◌, refl, ap, sym, subst, ◌∙◌, arith, eqb-true, eq-eqb}
use Rattle.std.proofs.lemmas.Bool.{or_cases, false≢true}
use Rattle.std.specs.Prelude.{◌||◌, max, find, is_some, pos, ◌+ℤ◌, ◌-ℤ◌, unsigned_abs, Contains}
use Rattle.px_units.specs.Lengths.{at_least_zero}
use Rattle.px_units.specs.declared.Point.{Point}
use Rattle.px_units.specs.declared.Size.{Size}
use Rattle.layout_model.specs.Styles.{Style, AbsolutePosition, FixedPosition}
use Rattle.layout_model.specs.Nodes.{Node, ancestors_of, is_in_path, position_of, is_positioned, is_in_flow, Holder, HeldByElement, held_by, holder, IsShallow}
use Rattle.layout_model.specs.Boxes.{Inputs, box_in, border_size}
use Rattle.layout_model.specs.Points.{moved, larger, IsWithin}
use Rattle.layout_model.specs.Views.{View, inputs_in_view}
use Rattle.layout_model.specs.FlatPlaces.{corner_of, flat_place}
use Rattle.layout_model.specs.Reach.{edges_with, edges_from, farthest}
use Rattle.layout_model.proofs.Ancestors.{in_self, above_in, down_path, in_path_of_parent}
use Rattle.layout_model.proofs.Farthest.{max_either, size_within, edges_within, far_met}
use Rattle.layout_model.proofs.Holders.{holder_of_child, holder_of_absolute, holder_of_fixed}
use Rattle.layout_model.proofs.Inputs.{under_view}
use Rattle.layout_model.proofs.Paths.{ancestors_child}
use Rattle.element_tree.specs.Forest.{Knot, IsForest, has, children_of}
use Rattle.element_tree.proofs.Facts.{listed_child}
use Rattle.element_tree.proofs.Levels.{kid_parent}
use Rattle.positioned_layout.specs.declared.Measure.{Measure}
use Rattle.positioned_layout.specs.declared.insets.Axis.{Axis}
use Rattle.positioned_layout.specs.declared.insets.Axis.TheVariants.{Across, Down}
use Rattle.positioned_layout.specs.declared.reaches.Around.{Around}
use Rattle.positioned_layout.specs.declared.reaches.Farthest.{Farthest}
use Rattle.positioned_layout.specs.Along.{part}
use Rattle.positioned_layout.specs.Measured.{Measured, IsMeasuredAt, IsComeTo, is_come_to}
use Rattle.positioned_layout.specs.Trees.{AreNodesOf}
use Rattle.positioned_layout.specs.Seen.{as_place, pair_of_size, seen_measure, IsSpanOfSize}
use Rattle.positioned_layout.specs.Walked.{edges_past, absolute_in, IsFarther, IsFar, IsReached, IsReachedIn, IsAround}
use Rattle.positioned_layout.proofs.Holding.{found_from}
use Rattle.positioned_layout.proofs.Nodes.{shallow}
use Rattle.positioned_layout.proofs.Numbers.{pos_abs}
use Rattle.positioned_layout.proofs.Placing.{boxed_above}

-- what is farther in one step and then in another
pub farther_none : (edge : ℕ → ℕ) (of : ℕ → Type 0) (first : ℕ) → ((d : ℕ) → of d → ⊥) → IsFarther edge of first first
farther_none edge of first none = record { begun = omega arith; over = λ d here. absurd (none d here); met = inl refl }

pub farther_join : (edge : ℕ → ℕ) (of other all : ℕ → Type 0) (first mid last : ℕ) → IsFarther edge of first mid → IsFarther edge other mid last
    → ((d : ℕ) → all d → of d ⊎ other d) → ((d : ℕ) → of d → all d) → ((d : ℕ) → other d → all d) → IsFarther edge all first last
farther_join edge of other all first mid last one two split left right = record {
  begun = omega (arith, one.begun, two.begun);
  over = λ d here. pick d (split d here);
  met = met two.met one.met;
}
  where
    pick : (d : ℕ) → of d ⊎ other d → edge d ≤ last
    pick d (inl here) = omega (arith, one.over d here, two.begun)
    pick d (inr here) = two.over d here

    met : (last ≡ mid) ⊎ ((d : ℕ) × other d × (last ≡ edge d)) → (mid ≡ first) ⊎ ((d : ℕ) × of d × (mid ≡ edge d)) → (last ≡ first) ⊎ ((d : ℕ) × all d × (last ≡ edge d))
    met (inr by) before = inr (by.0, right by.0 by.1, by.2)
    met (inl same) (inl before) = inl (same ∙ before)
    met (inl same) (inr by) = inr (by.0, left by.0 by.1, same ∙ by.2)

module _ (at : ℕ → Node) (view : View) where
  pub far_join : (of other all : ℕ → Type 0) (first mid last : Farthest) → mid.corner ≡ first.corner → IsFar at view of first mid → IsFar at view other mid last
      → ((d : ℕ) → all d → of d ⊎ other d) → ((d : ℕ) → of d → all d) → ((d : ℕ) → other d → all d) → IsFar at view all first last
  far_join of other all first mid last same one two split left right axis corner is =
      farther_join _ of other all _ _ _ (one axis corner is) (two axis corner (same ∙ is)) split left right

  pub far_none : (of : ℕ → Type 0) (first : Farthest) → ((d : ℕ) → of d → ⊥) → IsFar at view of first first
  far_none of first none axis corner is = farther_none _ of _ none

  pub far_as : (of all : ℕ → Type 0) (first last : Farthest) → IsFar at view of first last → ((d : ℕ) → all d → of d) → ((d : ℕ) → of d → all d) → IsFar at view all first last
  far_as of all first last far back on axis corner is =
      farther_join _ of (λ d. ⊥) all _ _ _ (far axis corner is) (farther_none _ (λ d. ⊥) _ (λ d none. none)) (λ d here. inl (back d here)) on (λ d none. absurd none)

  -- one box, where it is reached
  edges_are : (c : ℕ) (inputs : Inputs) (corner : ℤ × ℤ) (place : Point) (border : Size) (past : Point) → inputs_in_view at view c ≡ Some inputs → place ≡ as_place (flat_place at view c)
      → pos (unsigned_abs (border.width)) ≡ border.width → pos (unsigned_abs (border.height)) ≡ border.height
      → pair_of_size border ≡ border_size (box_in at inputs c) → past ≡ as_place corner → edges_past place border past ≡ edges_from at view corner c
  edges_are c inputs corner place border past found place_is wide high border_is past_is =
      ap (λ (p : Point). edges_past p border past) place_is
      ∙ ap (λ (p : Point). edges_past (as_place (flat_place at view c)) border p) past_is
      ∙ ap {B = ℕ × ℕ} (λ w. (at_least_zero ((flat_place at view c).0 +ℤ w -ℤ corner.0), at_least_zero ((flat_place at view c).1 +ℤ border.height -ℤ corner.1))) (sym wide)
      ∙ ap {B = ℕ × ℕ} (λ h. (at_least_zero ((flat_place at view c).0 +ℤ pos (unsigned_abs (border.width)) -ℤ corner.0), at_least_zero ((flat_place at view c).1 +ℤ h -ℤ corner.1))) (sym high)
      ∙ ap {B = ℕ × ℕ} (λ (s : ℕ × ℕ). (at_least_zero ((moved (flat_place at view c) s).0 -ℤ corner.0), at_least_zero ((moved (flat_place at view c) s).1 -ℤ corner.1))) border_is
      ∙ sym (ap (edges_with at view corner c) found)

  part_larger : (axis : Axis) (a b : ℕ × ℕ) → part axis (larger a b) ≡ max (part axis a) (part axis b)
  part_larger Across a b = refl
  part_larger Down a b = refl

  pub far_one : (opens : Holder → Bool) (c : ℕ) (own : Measure) (place : Point) (first last : Farthest) (opened : Bool) → opened ≡ opens (holder at c) → is_some (inputs_in_view at view c) ≡ true
      → place ≡ as_place (flat_place at view c) → IsMeasuredAt at view c (seen_measure own) → IsSpanOfSize (own.border)
      → pair_of_size (last.size) ≡ cond opened (larger (edges_past place (own.border) (first.corner)) (pair_of_size (first.size))) (pair_of_size (first.size))
      → IsFar at view (λ d. (d ≡ c) × IsReached at view opens d) first last
  far_one opens c own place first last true open_is boxed place_is own_is border last_is axis corner corner_is = by_inputs (inputs_in_view at view c) refl boxed
    where
      by_inputs : (found : Option Inputs) → inputs_in_view at view c ≡ found → is_some found ≡ true → IsFarther (λ d. part axis (edges_from at view corner d)) (λ d. (d ≡ c) × IsReached at view opens d) (part axis (pair_of_size (first.size))) (part axis (pair_of_size (last.size)))
      by_inputs None is some = absurd (false≢true some)
      by_inputs (Some inputs) is some =
          let edges = edges_are c inputs corner place (own.border) (first.corner) is place_is (pos_abs (own.border.width) (border.0.0)) (pos_abs (own.border.height) (border.1.0))
          (ap (λ (m : Measured). m.border) own_is ∙ ap (λ i. border_size (box_in at i c)) (sym (under_view at view inputs c is))) corner_is in
          let whole : part axis (pair_of_size (last.size)) ≡ max (part axis (edges_from at view corner c)) (part axis (pair_of_size (first.size)))
          = ap (part axis) last_is ∙ part_larger axis _ _ ∙ ap (λ e. max (part axis e) (part axis (pair_of_size (first.size)))) edges in
          record {
            begun = omega (arith, whole);
            over = λ d here. let same : part axis (edges_from at view corner d) ≡ part axis (edges_from at view corner c) = ap (λ n. part axis (edges_from at view corner n)) here.0 in omega (arith, whole, same);
            met = elim (max_either (part axis (edges_from at view corner c)) (part axis (pair_of_size (first.size)))) [
              | inl same ↦ inr (c, (refl, record { boxed = boxed; held = sym open_is }), whole ∙ same)
              | inr same ↦ inl (whole ∙ same)
            ];
          }
  far_one opens c own place first last false open_is boxed place_is own_is border last_is axis corner corner_is =
      let same : part axis (pair_of_size (last.size)) ≡ part axis (pair_of_size (first.size)) = ap (part axis) last_is in
      record {
        begun = omega (arith, same);
        over = λ d here. absurd (false≢true (open_is ∙ ap (λ n. opens (holder at n)) (sym here.0) ∙ here.1.held));
        met = inl same;
      }

  -- the farthest edges of a list
  pub far_list : (of : ℕ → Type 0) (first last : Farthest) (corner : ℤ × ℤ) (size : ℕ × ℕ) (ns : List ℕ) → first.corner ≡ as_place corner → pair_of_size (first.size) ≡ size → IsFar at view of first last
      → ((d : ℕ) → of d → Contains ns d) → ((d : ℕ) → Contains ns d → is_some (inputs_in_view at view d) ≡ true → of d)
      → (axis : Axis) → part axis (pair_of_size (last.size)) ≡ part axis (farthest at view corner size ns)
  far_list of first last corner size ns corner_is size_is far inside outside axis =
      let known = far axis corner corner_is in
      let begin : part axis (pair_of_size (first.size)) ≡ part axis size = ap (part axis) size_is in
      let low : part axis (pair_of_size (last.size)) ≤ part axis (farthest at view corner size ns) = elim known.met [
        | inl same ↦ omega (arith, same, begin, part_within axis size (farthest at view corner size ns) (size_within at view corner size ns))
        | inr by ↦ omega (arith, by.2, part_within axis (edges_from at view corner by.0) (farthest at view corner size ns) (edges_within at view corner size ns by.0 (inside by.0 by.1)))
      ] in
      let high : part axis (farthest at view corner size ns) ≤ part axis (pair_of_size (last.size)) = elim (far_met at view corner size (part axis) (part_larger axis) ns) [
        | inl same ↦ omega (arith, same, begin, known.begun)
        | inr met ↦ over (met.node) (met.among) (met.is) (inputs_in_view at view (met.node)) refl
      ] in
      omega (arith, low, high)
    where
      part_within : (axis : Axis) (a b : ℕ × ℕ) → IsWithin a b → part axis a ≤ part axis b
      part_within Across a b within = within.0
      part_within Down a b within = within.1

      none : (axis : Axis) (d : ℕ) → inputs_in_view at view d ≡ None → part axis (edges_from at view corner d) ≡ 0
      none Across d is = ap (λ o. (edges_with at view corner d o).0) is
      none Down d is = ap (λ o. (edges_with at view corner d o).1) is

      over : (d : ℕ) → Contains ns d → part axis (farthest at view corner size ns) ≡ part axis (edges_from at view corner d) → (found : Option Inputs) → inputs_in_view at view d ≡ found → part axis (farthest at view corner size ns) ≤ part axis (pair_of_size (last.size))
      over d among is None nothing = omega (arith, is, none axis d nothing)
      over d among is (Some inputs) found = omega (arith, is, (far axis corner corner_is).over d (outside d among (ap is_some found)))

-- what is in a node is the node, or is in a child of it
pub in_a_child : (at : ℕ → Node) → IsShallow at → (p n : ℕ) → is_in_path at p n ≡ true → (p ≡ n) ⊎ ((k : ℕ) × ((at k).parent ≡ Some p) × (is_in_path at k n ≡ true))
in_a_child at shallow p n inside = down_path at shallow (λ m. (p ≡ m) ⊎ ((k : ℕ) × ((at k).parent ≡ Some p) × (is_in_path at k m ≡ true))) step p n inside (inl refl)
  where
    step : (c q : ℕ) → (at c).parent ≡ Some q → (p ≡ q) ⊎ ((k : ℕ) × ((at k).parent ≡ Some p) × (is_in_path at k q ≡ true)) → (p ≡ c) ⊎ ((k : ℕ) × ((at k).parent ≡ Some p) × (is_in_path at k c ≡ true))
    step c q up (inl same) = inr (c, up ∙ ap Some (sym same), in_self at c)
    step c q up (inr by) = inr (by.0, by.1, above_in at shallow by.0 c q up by.2)

-- what holds a child
module _ (at : ℕ → Node) (view : View) (opens : Holder → Bool) (p c : ℕ) (shallow : IsShallow at) (up : (at c).parent ≡ Some p) (around : Around) (known : IsAround at view p opens around) where
  pub held_in_flow : is_in_flow (at c) ≡ true → around.flow ≡ opens (holder at c)
  held_in_flow flow = known.flow ∙ ap opens (sym (holder_of_child at c p up flow))

  absolute_is : position_of (at c) ≡ AbsolutePosition → holder at c ≡ absolute_in at p
  absolute_is is = holder_of_absolute at c is ∙ ap (λ above. held_by (find (λ a. is_positioned (at a)) above)) (ancestors_child at c p up)

  pub held_absolute : position_of (at c) ≡ AbsolutePosition → (around.absolute.opened ≡ opens (holder at c)) × (is_in_flow (at c) ≡ false → around.absolute.corner ≡ as_place (corner_of at (flat_place at view) (holder at c)))
  held_absolute is = (
    known.absolute.opened ∙ ap opens (sym (absolute_is is)),
    λ out. known.absolute.corner ∙ ap {B = Point} (λ h. as_place (corner_of at (flat_place at view) h)) (sym (absolute_is is)),
  )

  pub held_fixed : position_of (at c) ≡ FixedPosition → (around.fixed.opened ≡ opens (holder at c)) × (is_in_flow (at c) ≡ false → around.fixed.corner ≡ as_place (corner_of at (flat_place at view) (holder at c)))
  held_fixed is = (
    known.fixed.opened ∙ ap opens (sym (holder_of_fixed at c is)),
    λ out. known.fixed.corner ∙ ap {B = Point} (λ h. as_place (corner_of at (flat_place at view) h)) (sym (holder_of_fixed at c is)),
  )

module _ (at : ℕ → Node) (p c : ℕ) (shallow : IsShallow at) (up : (at c).parent ≡ Some p) where
  pub absolute_static : is_positioned (at c) ≡ false → absolute_in at c ≡ absolute_in at p
  absolute_static is =
      ap held_by (found_from at shallow (λ a. is_positioned (at a)) c false is)
      ∙ ap (λ above. held_by (find (λ a. is_positioned (at a)) above)) (ancestors_child at c p up)

pub absolute_self : (at : ℕ → Node) → IsShallow at → (n : ℕ) → is_positioned (at n) ≡ true → absolute_in at n ≡ HeldByElement n
absolute_self at shallow n is = ap held_by (found_from at shallow (λ a. is_positioned (at a)) n true is)

pub absolute_outer : (at : ℕ → Node) → IsShallow at → (n : ℕ) → is_positioned (at n) ≡ false → absolute_in at n ≡ held_by (find (λ a. is_positioned (at a)) (ancestors_of at n))
absolute_outer at shallow n is = ap held_by (found_from at shallow (λ a. is_positioned (at a)) n false is)

-- a walk over the children of a node
module _ {P : Type 0} (placed : P → Style) (nodes : List (Knot P)) (at : ℕ → Node) (are : AreNodesOf placed nodes at) {most : ℕ} (forest : IsForest most nodes) (view : View) (opens : Holder → Bool) (child : ℕ) (more : List ℕ) where
  first_here : has (child ∷ more) child ≡ true
  first_here = let same : nat_eq child child ≡ true = eq-eqb child child refl in ap (λ b. b || has more child) same

  split_in : (d : ℕ) → IsReachedIn at view opens (child ∷ more) d → ((d ≡ child) × IsReached at view opens d) ⊎ (IsReachedIn at view opens (children_of nodes child) d ⊎ IsReachedIn at view opens more d)
  split_in d ((c, held, inside), reached) =
      elim (or_cases (nat_eq c child) (has more c) held) [
        | inl e ↦
            let same : c ≡ child = eqb-true c child e in
            elim (in_a_child at (shallow placed nodes at are forest) child d (subst (λ m. is_in_path at m d ≡ true) same inside)) [
              | inl it ↦ inl (sym it, reached)
              | inr by ↦ inr (inl ((by.0, listed_child forest by.0 child (sym (are.parent by.0) ∙ by.1), by.2), reached))
            ]
        | inr e ↦ inr (inr ((c, e, inside), reached))
      ]

  in_own : (d : ℕ) → (d ≡ child) × IsReached at view opens d → IsReachedIn at view opens (child ∷ more) d
  in_own d (same, reached) = ((child, first_here, subst (λ m. is_in_path at child m ≡ true) (sym same) (in_self at child)), reached)

  in_kids : (d : ℕ) → IsReachedIn at view opens (children_of nodes child) d → IsReachedIn at view opens (child ∷ more) d
  in_kids d ((c, held, inside), reached) =
      ((child, first_here, in_path_of_parent at (shallow placed nodes at are forest) child c d (are.parent c ∙ kid_parent forest child c held) inside), reached)

  in_more : (d : ℕ) → IsReachedIn at view opens more d → IsReachedIn at view opens (child ∷ more) d
  in_more d ((c, held, inside), reached) = ((c, or_true (nat_eq c child) (has more c) held, inside), reached)
    where
      or_true : (a b : Bool) → b ≡ true → (a || b) ≡ true
      or_true true b is = refl
      or_true false b is = is

  -- past a child with a box, and past one without
  pub far_turn : (first mid next last : Farthest) → mid.corner ≡ first.corner → next.corner ≡ mid.corner
      → IsFar at view (λ d. (d ≡ child) × IsReached at view opens d) first mid → IsFar at view (IsReachedIn at view opens (children_of nodes child)) mid next
      → IsFar at view (IsReachedIn at view opens more) next last → IsFar at view (IsReachedIn at view opens (child ∷ more)) first last
  far_turn first mid next last same also own kids rest =
      far_join at view
      (λ d. (d ≡ child) × IsReached at view opens d)
      (λ d. IsReachedIn at view opens (children_of nodes child) d ⊎ IsReachedIn at view opens more d)
      (IsReachedIn at view opens (child ∷ more))
      first mid last same own
      (far_join at view (IsReachedIn at view opens (children_of nodes child)) (IsReachedIn at view opens more) (λ d. IsReachedIn at view opens (children_of nodes child) d ⊎ IsReachedIn at view opens more d)
      mid next last also kids rest (λ d here. here) (λ d here. inl here) (λ d here. inr here))
      split_in in_own
      (λ d here. elim here [ inl kid ↦ in_kids d kid | inr other ↦ in_more d other ])

  pub far_pass : (first last : Farthest) → (is_some (inputs_in_view at view child) ≡ true → ⊥) → IsFar at view (IsReachedIn at view opens more) first last → IsFar at view (IsReachedIn at view opens (child ∷ more)) first last
  far_pass first last unboxed rest =
      far_as at view (IsReachedIn at view opens more) (IsReachedIn at view opens (child ∷ more)) first last rest back in_more
    where
      none : (d : ℕ) → is_in_path at child d ≡ true → IsReached at view opens d → ⊥
      none d inside reached = unboxed (boxed_above at (shallow placed nodes at are forest) view child d inside (reached.boxed))

      back : (d : ℕ) → IsReachedIn at view opens (child ∷ more) d → IsReachedIn at view opens more d
      back d ((c, held, inside), reached) =
          elim (or_cases (nat_eq c child) (has more c) held) [
            | inl e ↦ absurd (none d (subst (λ m. is_in_path at m d ≡ true) (eqb-true c child e) inside) reached)
            | inr e ↦ ((c, e, inside), reached)
          ]

-- no walk comes to a child but of a node with a box
pub come_to : {P : Type 0} (placed : P → Style) (nodes : List (Knot P)) (at : ℕ → Node) → AreNodesOf placed nodes at → {most : ℕ} → IsForest most nodes → (view : View) (n c : ℕ) → has (children_of nodes n) c ≡ true → is_some (inputs_in_view at view n) ≡ true → IsComeTo at view c
come_to placed nodes at are forest view n c kid boxed =
    subst (is_come_to at view c) (sym (are.parent c ∙ kid_parent forest n c kid)) boxed
