-- Once both walks were in the tree of a root element.
use Rattle.std.proofs.Common.{◌≡◌, ◌+◌, ℕ, Option, Some, None, true, false, refl, ap, sym, ◌∙◌, arith}
use Rattle.std.proofs.lemmas.Bool.{false≢true}
use Rattle.std.specs.Prelude.{not, ◌&&◌, ◌==◌, is_some}
use Rattle.layout_model.specs.Nodes.{Node, is_in_path, IsLinked, IsShallow}
use Rattle.layout_model.specs.Boxes.{Inputs, has_box_in, inputs_in}
use Rattle.layout_model.proofs.Ancestors.{in_self, above_in}
use Rattle.layout_model.proofs.Inputs.{box_top, inputs_boxed, inputs_of_boxed, inputs_of_top, is_some_inputs, boxed_top, box_above, boxed_in_root}
use Rattle.block_layout.specs.Seen.{seen_inputs}
use Rattle.kept_layout.specs.declared.slots.Slot.{Slot}
use Rattle.kept_layout.specs.declared.walk.Outside.{Outside}
use Rattle.kept_layout.specs.Due.{is_due_at, is_due, due_count}
use Rattle.kept_layout.specs.Fresh.{IsFresh}
use Rattle.kept_layout.specs.Sound.{IsShownIn, HasSlots, IsSound}
use Rattle.kept_layout.specs.Walks.{IsSettled, IsSoundInFlow, GoesInFlow, IsRefreshed, AreSettledIn, IsRefreshedInside}
use Rattle.kept_layout.proofs.Counts.{settled_due, due_none}
use Rattle.kept_layout.proofs.Exact.{sound_in_flow, fresh_under}
use Rattle.kept_layout.proofs.Lists.{itself}
use Rattle.kept_layout.proofs.Shapes.{IsShaped}
use Rattle.kept_layout.proofs.Wanted.{under, boxes_go, wanted_kid, outside_root}

no_parent : (o : Option ℕ) (p : ℕ) → o ≡ None → o ≡ Some p → ⊥
no_parent o p first second = cc

flow_same : (viewport : Inputs) → viewport.flow ≡ true → ◌≡◌ {A = Inputs} (record viewport { flow = true }) viewport
flow_same viewport flow = ap (λ f. let i : Inputs = record viewport { flow = f } in i) (sym flow)

unboxed_is : (at : ℕ → Node) (root : ℕ) (viewport : Inputs) (n : ℕ) → inputs_in at root viewport n ≡ None → has_box_in at root n ≡ false
unboxed_is at root viewport n none = sym (is_some_inputs at root viewport n) ∙ ap is_some none

-- where a root element isn't displayed, nothing in its tree has a box
module _ (at : ℕ → Node) (shallow : IsShallow at) (root : ℕ) (viewport : Inputs) where
  pub none_boxed : (at root).item.style.hidden ≡ true → (n : ℕ) (inputs : Inputs) → inputs_in at root viewport n ≡ Some inputs → ⊥
  none_boxed hidden n inputs boxed =
      let has = inputs_boxed at root viewport inputs n boxed in
      let within = boxed_in_root at shallow root n has in
      false≢true (sym (boxed_top at root root within.1 (box_above at shallow root root n within.0 has)).0 ∙ hidden)

module _ (at : ℕ → Node) (shaped : IsShaped at) (linked : IsLinked at) (shallow : IsShallow at) (root : ℕ) (viewport : Inputs) where
  -- no node with a box is due where each has what was computed from its inputs
  module _ (slot : ℕ → Slot) (settled : (n : ℕ) (inputs : Inputs) → inputs_in at root viewport n ≡ Some inputs → IsSettled (slot n) inputs) where
    pub none_due : (n : ℕ) → is_due (inputs_in at root viewport) slot n ≡ false
    none_due n = by (inputs_in at root viewport n) refl
      where
        by : (o : Option Inputs) → inputs_in at root viewport n ≡ o → is_due_at (inputs_in at root viewport n) (slot n) ≡ false
        by None is = ap (λ o. is_due_at o (slot n)) is
        by (Some inputs) is = ap (λ o. is_due_at o (slot n)) is ∙ settled_due (slot n) inputs (settled n inputs is)

    pub fresh_all : IsSoundInFlow at slot → (n : ℕ) (inputs : Inputs) → inputs_in at root viewport n ≡ Some inputs → IsFresh at slot n inputs
    fresh_all sound n inputs boxed =
        fresh_under at shaped linked shallow slot sound n inputs (settled n inputs boxed)
        (λ p up.
        let over = under at shaped shallow root viewport p n inputs up boxed in
        record { above = over.inputs; settled = settled p over.inputs over.boxed; shown = over.shown })

    -- what has no box is as it was, and so are the marks above it
    pub sound_all : (old : ℕ → Slot) → ((n : ℕ) → inputs_in at root viewport n ≡ None → slot n ≡ old n) → IsSound at old → IsSoundInFlow at slot → IsSound at slot
    sound_all old kept sound flow = record {
      marks = λ p c _ shown marked. by p c shown marked (inputs_in at root viewport c) refl (inputs_in at root viewport p) refl;
      right = λ n found _ unmarked held. flow.right n found unmarked held;
    }
      where
        by : (p c : ℕ) → IsShownIn at p c → (slot c).marked ≡ true → (o : Option Inputs) → inputs_in at root viewport c ≡ o → (q : Option Inputs) → inputs_in at root viewport p ≡ q → (slot p).marked ≡ true
        by p c shown marked (Some inputs) is q over = absurd (false≢true (sym (settled c inputs is).unmarked ∙ marked))
        by p c shown marked None is (Some above) over =
            absurd (false≢true (sym (unboxed_is at root viewport c is) ∙ boxes_go at shaped shallow root viewport p c shown (inputs_boxed at root viewport above p over)))
        by p c shown marked None is None over =
            ap (λ s. s.marked) (kept p over) ∙ sound.marks p c refl shown (ap (λ (s : Slot). s.marked) (sym (kept c is)) ∙ marked)

  module _ (top : (at root).parent ≡ None) (shown : (at root).item.style.hidden ≡ false) (flow : viewport.flow ≡ true)
      (outside : Outside) (absolute : seen_inputs outside.absolute ≡ record viewport { flow = false }) (fixed : seen_inputs outside.fixed ≡ record viewport { flow = false })
      (count : ℕ) (old mid new : ℕ → Slot) (begun steps later : ℕ)
      (first : IsRefreshed at root viewport count old mid begun steps) (second : IsRefreshedInside at root outside count mid new steps later) where
    has_box : has_box_in at root root ≡ true
    has_box = box_top at root root top ∙ ap (λ h. not h && root == root) shown ∙ itself root

    root_boxed : inputs_in at root viewport root ≡ Some viewport
    root_boxed = inputs_of_boxed at root viewport root has_box ∙ ap Some (inputs_of_top at viewport root top ∙ flow_same viewport flow)

    pub kept_unboxed : (n : ℕ) → inputs_in at root viewport n ≡ None → new n ≡ old n
    kept_unboxed n none =
        second.unboxed (has_box_in at root) (boxes_go at shaped shallow root viewport) has_box n (unboxed_is at root viewport n none)
        ∙ first.unboxed (has_box_in at root) (boxes_go at shaped shallow root viewport) has_box n (unboxed_is at root viewport n none)

    module _ (slots : HasSlots at root count) (sound : IsSound at old) where
      mid_sound : IsSoundInFlow at mid
      mid_sound = first.sound slots (λ p counted. absurd (no_parent (at root).parent p top (shaped.parents p root counted.child.listed))) (sound_in_flow at old sound)

      all : AreSettledIn at root viewport root count mid new steps later
      all =
          second.done slots mid_sound root viewport
          (record {
            inputs = viewport;
            boxed = root_boxed;
            settled = first.settled slots;
            absolute = absolute ∙ sym (outside_root at shaped shallow root viewport top);
            fixed = fixed;
          })

      pub settled_all : (n : ℕ) (inputs : Inputs) → inputs_in at root viewport n ≡ Some inputs → IsSettled (new n) inputs
      settled_all n inputs boxed = all.settled n inputs (boxed_in_root at shallow root n (inputs_boxed at root viewport inputs n boxed)).0 boxed

      pub flow_sound : IsSoundInFlow at new
      flow_sound = all.sound

      pub paid_all : (wanted : ℕ → Option Inputs) → ((n : ℕ) → is_in_path at root n ≡ true → wanted n ≡ inputs_in at root viewport n)
          → later + due_count wanted new count ≡ begun + due_count wanted old count
      paid_all wanted same =
          let goes : GoesInFlow at root wanted = λ p c inputs inside counted wants.
          same c (above_in at shallow root c p (shaped.parents p c counted.child.listed) inside)
          ∙ wanted_kid at shaped shallow root viewport p c inputs counted (sym (same p inside) ∙ wants) in
          let one = first.ticks slots wanted goes (same root (in_self at root) ∙ root_boxed) in
          let two = all.ticks wanted same in
          omega arith

-- what the walks do in the whole tree of a root element
pub record WholeTree (at : ℕ → Node) (root : ℕ) (viewport : Inputs) (count : ℕ) (old new : ℕ → Slot) (begun later : ℕ) : Type 0 where
  pub fresh : HasSlots at root count → IsSound at old → (n : ℕ) (inputs : Inputs) → inputs_in at root viewport n ≡ Some inputs → IsFresh at new n inputs
  pub done : HasSlots at root count → IsSound at old → (n : ℕ) → is_due (inputs_in at root viewport) new n ≡ false
  pub sound : HasSlots at root count → IsSound at old → IsSound at new
  pub others : (n : ℕ) → inputs_in at root viewport n ≡ None → new n ≡ old n
  pub ticks : HasSlots at root count → IsSound at old → later ≡ begun + due_count (inputs_in at root viewport) old count
  pub paid : HasSlots at root count → IsSound at old → (wanted : ℕ → Option Inputs) → ((n : ℕ) → is_in_path at root n ≡ true → wanted n ≡ inputs_in at root viewport n)
      → later + due_count wanted new count ≡ begun + due_count wanted old count

module _ (at : ℕ → Node) (shaped : IsShaped at) (linked : IsLinked at) (shallow : IsShallow at) (root : ℕ) (viewport : Inputs) where
  pub whole_same : (slot : ℕ → Slot) (count steps : ℕ) → (at root).item.style.hidden ≡ true → WholeTree at root viewport count slot slot steps steps
  whole_same slot count steps hidden =
      let none = none_boxed at shallow root viewport hidden in
      record {
        fresh = λ _ _ n inputs boxed. absurd (none n inputs boxed);
        done = λ _ _. none_due at shaped linked shallow root viewport slot (λ n inputs boxed. absurd (none n inputs boxed));
        sound = λ _ sound. sound;
        others = λ n _. refl;
        ticks = λ _ _.
            let nothing = due_none (inputs_in at root viewport) slot (none_due at shaped linked shallow root viewport slot (λ n inputs boxed. absurd (none n inputs boxed))) count in
            omega arith;
        paid = λ _ _ wanted same. omega arith;
      }

  pub whole : (at root).parent ≡ None → (at root).item.style.hidden ≡ false → viewport.flow ≡ true
      → (outside : Outside) → seen_inputs outside.absolute ≡ record viewport { flow = false } → seen_inputs outside.fixed ≡ record viewport { flow = false }
      → (count : ℕ) (old mid new : ℕ → Slot) (begun steps later : ℕ) → IsRefreshed at root viewport count old mid begun steps → IsRefreshedInside at root outside count mid new steps later
      → WholeTree at root viewport count old new begun later
  whole top shown flow outside absolute fixed count old mid new begun steps later first second =
      let kept = kept_unboxed at shaped linked shallow root viewport top shown flow outside absolute fixed count old mid new begun steps later first second in
      let settled = settled_all at shaped linked shallow root viewport top shown flow outside absolute fixed count old mid new begun steps later first second in
      let in_flow = flow_sound at shaped linked shallow root viewport top shown flow outside absolute fixed count old mid new begun steps later first second in
      let paid = paid_all at shaped linked shallow root viewport top shown flow outside absolute fixed count old mid new begun steps later first second in
      record {
        fresh = λ slots sound. fresh_all at shaped linked shallow root viewport new (settled slots sound) (in_flow slots sound);
        done = λ slots sound. none_due at shaped linked shallow root viewport new (settled slots sound);
        sound = λ slots sound. sound_all at shaped linked shallow root viewport new (settled slots sound) old kept sound (in_flow slots sound);
        others = kept;
        ticks = λ slots sound.
            let all = paid slots sound (inputs_in at root viewport) (λ n _. refl) in
            let nothing = due_none (inputs_in at root viewport) new (none_due at shaped linked shallow root viewport new (settled slots sound)) count in
            omega arith;
        paid = paid;
      }
