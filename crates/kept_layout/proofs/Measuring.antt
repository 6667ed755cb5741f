-- Boxes that are held as they are now are measured as they are.
use Rattle.std.proofs.Common.{◌≡◌, ◌≤◌, ℕ, List, Bool, true, false, cond, Option, Some, None, option_map, refl, ap, sym, subst, ◌∙◌, inl, inr, arith}
use Rattle.std.proofs.lemmas.Bool.{false≢true}
use Rattle.std.proofs.lemmas.Bool.Decides.{nat_tests}
use Rattle.std.specs.Prelude.{◌==◌, ◌&&◌, not, is_some}
use Rattle.px_units.specs.Lengths.{cap}
use Rattle.layout_model.specs.Styles.{Style}
use Rattle.layout_model.specs.Items.{Item, Kind}
use Rattle.layout_model.specs.Nodes.{Node, is_in_path, is_in_flow, Holder, HeldByElement, HeldByPage, HeldByScreen, holder, IsShallow}
use Rattle.layout_model.specs.Boxes.{Inputs, Box, computed, child_inputs, box_in, inputs_held, inputs_by, inputs_at, has_box_in, has_definite_height}
use Rattle.layout_model.specs.Clips.{is_block, clips}
use Rattle.layout_model.specs.Views.{View, view_inputs, inputs_in_view}
use Rattle.layout_model.specs.FlatPlaces.{height_above}
use Rattle.layout_model.proofs.Ancestors.{option_cases, in_path_of_parent}
use Rattle.layout_model.proofs.Inputs.{box_child, box_top, boxed_child, boxed_top, box_above, inputs_boxed, inputs_of_boxed, is_some_inputs, in_view, view_root, under_view, inputs_once}
use Rattle.element_tree.specs.Forest.{Knot}
use Rattle.block_layout.specs.Seen.{seen_inputs}
use Rattle.block_layout.specs.Trees.{layout_tree}
use Rattle.positioned_layout.specs.Measured.{above_in, measured_with, is_come_to, IsComeTo, AreMeasuresOf, AreMeasuresUp}
use Rattle.kept_layout.specs.declared.slots.Slot.{Slot}
use Rattle.kept_layout.specs.declared.slots.Found.{Found}
use Rattle.kept_layout.specs.Fresh.{IsFresh, IsFreshPath}
use Rattle.kept_layout.specs.Slots.{slot_in}
use Rattle.kept_layout.specs.Measures.{IsSized, is_inside, above_kept, takes_part, measured_of, measured_found, measured_in}

-- inputs that no cap changes
record IsCapped (inputs : Inputs) : Type 0 where
  width : cap inputs.width ≡ inputs.width
  height : option_map cap inputs.height ≡ inputs.height

cap_again : (x : ℕ) → cap (cap x) ≡ cap x
cap_again x = omega arith

wide_again : (item : Item) (inputs : Inputs) → cap (child_inputs item inputs).width ≡ (child_inputs item inputs).width
unfolding child_inputs computed
wide_again item inputs = cap_again _

tall_if : (definite : Bool) (height : ℕ) → cap height ≡ height → option_map cap (cond definite (Some height) None) ≡ cond definite (Some height) None
tall_if true height same = ap Some same
tall_if false height same = refl

tall_again : (item : Item) (inputs : Inputs) → option_map cap (child_inputs item inputs).height ≡ (child_inputs item inputs).height
unfolding child_inputs computed
tall_again item inputs = tall_if (has_definite_height item inputs) _ (cap_again _)

capped_below : (item : Item) (inputs : Inputs) → IsCapped (child_inputs item inputs)
capped_below item inputs = record { width = wide_again item inputs; height = tall_again item inputs }

capped_in : (box : Box) → IsCapped (inputs_held box)
capped_in box = record { width = cap_again _; height = ap Some (cap_again _) }

capped_view : (view : View) → IsSized view → (flow : Bool) → IsCapped (record (view_inputs view) { flow = flow })
capped_view view sized flow =
    record {
      width = let small : view.width ≤ 2147483647 = sized.width in omega arith;
      height = let small : view.height ≤ 2147483647 = sized.height in ap Some (omega arith);
    }

capped_by : (at : ℕ → Node) (view : View) → IsSized view → (above : ℕ → Inputs) (flow : Bool) (by : Holder) → IsCapped (inputs_by at (view_inputs view) above flow by)
capped_by at view sized above true (HeldByElement h) = capped_below ((at h).item) (above h)
capped_by at view sized above false (HeldByElement h) = capped_in (box_in at (above h) h)
capped_by at view sized above flow HeldByPage = capped_view view sized flow
capped_by at view sized above flow HeldByScreen = capped_view view sized flow

cap_of_cap : (above height : ℕ) → above ≡ cap height → cap above ≡ cap height
cap_of_cap above height is = ap cap is ∙ cap_again height

found_as : (o : Option Found) (box : Box) (inputs : Inputs) → option_map (λ found. found.own) o ≡ Some box → option_map (λ found. seen_inputs found.inputs) o ≡ Some inputs
    → (found : Found) × (o ≡ Some found) × (found.own ≡ box) × (seen_inputs found.inputs ≡ inputs)
found_as None box inputs own from = cc
found_as (Some found) box inputs own from = (found, refl, cc, cc)

module _ (at : ℕ → Node) (shallow : IsShallow at) (view : View) where
  capped_inputs : IsSized view → (n : ℕ) (inputs : Inputs) → inputs_in_view at view n ≡ Some inputs → IsCapped inputs
  capped_inputs sized n inputs is =
      subst IsCapped
      (sym (under_view at view inputs n is ∙ inputs_once at shallow (view_inputs view) n))
      (capped_by at view sized (inputs_at at (view_inputs view)) (is_in_flow (at n)) (holder at n))

  -- where a node is come to, it takes part exactly where it has a box
  part_of_child : (n p : ℕ) → (at n).parent ≡ Some p → is_some (inputs_in_view at view p) ≡ true → takes_part at n ≡ is_some (inputs_in_view at view n)
  part_of_child n p up boxed =
      elim (option_cases (inputs_in_view at view p)) [
        | inl none ↦ absurd (false≢true (sym (ap is_some none) ∙ boxed))
        | inr outer ↦
            let found = view_root at view outer.0 p outer.1 in
            ap (λ parent. not (at n).item.style.hidden && is_inside at parent) up
            ∙ with_box (not (at n).item.style.hidden) (is_block ((at p).item.kind)) (has_box_in at found.0 p) (inputs_boxed at found.0 (view_inputs view) outer.0 p found.2)
            ∙ sym (ap is_some (in_view at view found.0 n found.1) ∙ is_some_inputs at found.0 (view_inputs view) n ∙ box_child at found.0 n p up (shallow p))
      ]
    where
      with_box : (shown block box : Bool) → box ≡ true → (shown && block) ≡ (shown && (block && box))
      with_box shown block box is = ap (λ b. shown && b) (whole block box is)
        where
          whole : (block box : Bool) → box ≡ true → block ≡ (block && box)
          whole true box is = sym is
          whole false box is = refl

  part_of_root : (n : ℕ) → (at n).parent ≡ None → view.root ≡ Some n → takes_part at n ≡ is_some (inputs_in_view at view n)
  part_of_root n top root =
      ap (λ parent. not (at n).item.style.hidden && is_inside at parent) top
      ∙ ap (λ b. not (at n).item.style.hidden && b) (itself n)
      ∙ sym (ap is_some (in_view at view n n root) ∙ is_some_inputs at n (view_inputs view) n ∙ box_top at n n top)
    where
      itself : (n : ℕ) → true ≡ (n == n)
      itself n = grind (arith, nat_tests)

  part_by : (n : ℕ) (parent : Option ℕ) → (at n).parent ≡ parent → is_come_to at view n parent → takes_part at n ≡ is_some (inputs_in_view at view n)
  part_by n None is come = part_of_root n is come
  part_by n (Some p) is come = part_of_child n p is come

  part_is : (n : ℕ) → IsComeTo at view n → takes_part at n ≡ is_some (inputs_in_view at view n)
  part_is n come = part_by n (at n).parent refl come

  -- a node with a box is come to
  come_by : (n : ℕ) (inputs : Inputs) → inputs_in_view at view n ≡ Some inputs → (parent : Option ℕ) → (at n).parent ≡ parent → is_come_to at view n parent
  come_by n inputs is None top =
      let found = view_root at view inputs n is in
      found.1 ∙ ap Some (sym ((boxed_top at found.0 n top (inputs_boxed at found.0 (view_inputs view) inputs n found.2)).1))
  come_by n inputs is (Some p) up =
      let found = view_root at view inputs n is in
      ap is_some (in_view at view found.0 p found.1) ∙ is_some_inputs at found.0 (view_inputs view) p
      ∙ (boxed_child at found.0 n p up (shallow p) (inputs_boxed at found.0 (view_inputs view) inputs n found.2)).2

  module _ (sized : IsSized view) (slot : ℕ → Slot) (n : ℕ) where
    above_by : (inputs : Inputs) → IsFresh at slot n inputs → (parent : Option ℕ) → (at n).parent ≡ parent
        → ((p : ℕ) (outer : Inputs) → (at n).parent ≡ Some p → inputs_in_view at view p ≡ Some outer → IsFresh at slot p outer)
        → is_come_to at view n parent → above_kept (slot n).above parent ≡ above_in at view n parent
    above_by inputs fresh None top around come = refl
    above_by inputs fresh (Some p) up around come =
        elim (option_cases (inputs_in_view at view p)) [
          | inl none ↦ absurd (false≢true (sym (ap is_some none) ∙ come))
          | inr outer ↦
              cap_of_cap (slot n).above _ (fresh.above p outer.0 up ((around p outer.0 up outer.1).from))
              ∙ ap (λ i. cap (height_above at (child_inputs ((at p).item) i) (at p) n)) (under_view at view outer.0 p outer.1)
        ]

    measured_fresh : (inputs : Inputs) → inputs_in_view at view n ≡ Some inputs → IsFresh at slot n inputs
        → ((p : ℕ) (outer : Inputs) → (at n).parent ≡ Some p → inputs_in_view at view p ≡ Some outer → IsFresh at slot p outer)
        → measured_in at slot n ≡ Some (measured_with at view n inputs (box_in at inputs n))
    measured_fresh inputs is fresh around =
        let come : IsComeTo at view n = come_by n inputs is (at n).parent refl in
        let held = found_as (slot n).found (box_in at inputs n) inputs fresh.box fresh.from in
        let capped = capped_inputs sized n inputs is in
        ap (λ part. cond part (option_map (measured_found (above_kept (slot n).above (at n).parent) (clips (at n))) (slot n).found) None) (part_is n come ∙ ap is_some is)
        ∙ ap (option_map (measured_found (above_kept (slot n).above (at n).parent) (clips (at n)))) held.1
        ∙ ap (λ box. Some (measured_of (seen_inputs (held.0).inputs) box (above_kept (slot n).above (at n).parent) (clips (at n)))) held.2
        ∙ ap (λ from. Some (measured_of from (box_in at inputs n) (above_kept (slot n).above (at n).parent) (clips (at n)))) held.3
        ∙ ap (λ above. Some (measured_of inputs (box_in at inputs n) above (clips (at n)))) (above_by inputs fresh (at n).parent refl around come)
        ∙ ap (λ width. Some (record (measured_of inputs (box_in at inputs n) (above_in at view n (at n).parent) (clips (at n))) { width = width })) capped.width
        ∙ ap (λ height. Some (record (measured_with at view n inputs (box_in at inputs n)) { height = height })) capped.height

    measured_none : IsComeTo at view n → inputs_in_view at view n ≡ None → measured_in at slot n ≡ None
    measured_none come none =
        ap (λ part. cond part (option_map (measured_found (above_kept (slot n).above (at n).parent) (clips (at n))) (slot n).found) None) (part_is n come ∙ ap is_some none)

    measure_by : ((m : ℕ) (inputs : Inputs) → inputs_in_view at view m ≡ Some inputs → IsFresh at slot m inputs) → IsComeTo at view n
        → (found : Option Inputs) → inputs_in_view at view n ≡ found → measured_in at slot n ≡ option_map (λ inputs. measured_with at view n inputs (box_in at inputs n)) found
    measure_by all come None is = measured_none come is
    measure_by all come (Some inputs) is = measured_fresh inputs is (all n inputs is) (λ p outer up found. all p outer found)

  pub measures_all : IsSized view → (slot : ℕ → Slot) → ((n : ℕ) (inputs : Inputs) → inputs_in_view at view n ≡ Some inputs → IsFresh at slot n inputs)
      → AreMeasuresOf at view (measured_in at slot)
  measures_all sized slot all n come = measure_by sized slot n all come (inputs_in_view at view n) refl

  -- on the path of a node with a box each node has one
  pub boxed_up : (n : ℕ) → is_some (inputs_in_view at view n) ≡ true → (m : ℕ) → is_in_path at m n ≡ true → (inputs : Inputs) × (inputs_in_view at view m ≡ Some inputs)
  boxed_up n boxed m inside =
      elim (option_cases (inputs_in_view at view n)) [
        | inl none ↦ absurd (false≢true (sym (ap is_some none) ∙ boxed))
        | inr own ↦
            let found = view_root at view own.0 n own.1 in (
              inputs_at at (view_inputs view) m,
              in_view at view found.0 m found.1
                  ∙ inputs_of_boxed at found.0 (view_inputs view) m (box_above at shallow found.0 m n inside (inputs_boxed at found.0 (view_inputs view) own.0 n found.2)),
            )
      ]

  pub measures_up : IsSized view → (slot : ℕ → Slot) (n : ℕ) → IsFreshPath at view slot n → AreMeasuresUp at view n (measured_in at slot)
  measures_up sized slot n fresh m inside =
      let own = boxed_up n fresh.boxed m inside in
      measured_fresh sized slot m own.0 own.1 (fresh.path m own.0 inside own.1)
      (λ p outer up found. fresh.path p outer (in_path_of_parent at shallow p m n up inside) found)
      ∙ ap (option_map (λ inputs. measured_with at view m inputs (box_in at inputs m))) (sym own.1)

-- what is measured of equal things is equal
pub same_measures : {P : Type 0} (style : P → Style) (kind : P → Kind) (nodes others : List (Knot P)) (slots kept : List Slot) → nodes ≡ others → slots ≡ kept
    → measured_in (layout_tree style kind nodes) (slot_in slots) ≡ measured_in (layout_tree style kind others) (slot_in kept)
same_measures style kind nodes others slots kept first second =
    ap (λ ns. measured_in (layout_tree style kind ns) (slot_in slots)) first ∙ ap (λ ss. measured_in (layout_tree style kind others) (slot_in ss)) second
