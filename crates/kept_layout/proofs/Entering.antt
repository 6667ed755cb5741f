-- A walk to the boxes out of flow in a node comes to a child, and goes on into it.
use Rattle.std.proofs.Common.{◌≡◌, ℕ, Option, Some, None, IfSome, Bool, true, false, refl, ap, sym, ◌∙◌, arith}
use Rattle.std.proofs.lemmas.Bool.{false≢true}
use Rattle.layout_model.specs.Styles.{AbsolutePosition, FixedPosition}
use Rattle.layout_model.specs.Nodes.{Node, position_of, is_flow, is_positioned, is_in_flow, IsLinked, IsShallow}
use Rattle.layout_model.specs.Boxes.{Inputs, child_inputs, inputs_held, box_in, inputs_at, inputs_in}
use Rattle.layout_model.proofs.Ancestors.{in_self, above_in}
use Rattle.layout_model.proofs.Inputs.{inputs_are}
use Rattle.block_layout.specs.Seen.{seen_inputs}
use Rattle.kept_layout.specs.declared.slots.Slot.{Slot}
use Rattle.kept_layout.specs.declared.slots.Found.{Found}
use Rattle.kept_layout.specs.declared.walk.Outside.{Outside}
use Rattle.kept_layout.specs.Sound.{IsShownIn, IsCounted}
use Rattle.kept_layout.specs.Walks.{IsRefreshed, IsOutsideOf, IsChildSettled, IsEntered, IsBroughtTo}
use Rattle.kept_layout.proofs.Exact.{exact_settled, kid_settled}
use Rattle.kept_layout.proofs.Shapes.{IsShaped}
use Rattle.kept_layout.proofs.Wanted.{shown_boxed, wanted_kid, absolute_inputs, fixed_inputs, outside_passed, outside_held}

held_if : (o : Option Found) (found : Found) (given : Inputs) → o ≡ Some found → IfSome o (λ f. given ≡ inputs_held f.own) → given ≡ inputs_held found.own
held_if None found given is held = cc
held_if (Some other) found given is held = let same : other ≡ found = cc in held ∙ ap (λ (f : Found). inputs_held f.own) same

module _ (at : ℕ → Node) (shaped : IsShaped at) (linked : IsLinked at) (shallow : IsShallow at) (x : ℕ) (outside : Outside) (count : ℕ) where
  pub entered_in_flow : (slot : ℕ → Slot) (steps : ℕ) → is_in_flow (at x) ≡ true → IsEntered at x outside count slot slot steps steps
  entered_in_flow slot steps flow = record {
    framed = λ m _. refl;
    unboxed = λ _ _ _ m _. refl;
    done = λ slots sound root viewport n child over.
        let counted : IsCounted at n x = record { child = child; flow = flow } in
        record {
          inputs = child_inputs (at n).item over.inputs;
          boxed = wanted_kid at shaped shallow root viewport n x over.inputs counted over.boxed;
          settled = kid_settled at shaped linked shallow slot sound n over.inputs over.settled x counted;
          ticks = λ wanted same. omega arith;
          sound = sound;
        };
  }

  module _ (old new : ℕ → Slot) (steps later : ℕ) (given : Inputs) (done : IsRefreshed at x given count old new steps later) where
    entered_moved : is_in_flow (at x) ≡ false
        → ((root : ℕ) (viewport : Inputs) (n : ℕ) → IsShownIn at n x → IsOutsideOf at root viewport n outside old → given ≡ inputs_at at viewport x)
        → IsEntered at x outside count old new steps later
    entered_moved moved own = record {
      framed = done.framed;
      unboxed = done.unboxed;
      done = λ slots sound root viewport n child over.
          let boxed : inputs_in at root viewport x ≡ Some given = shown_boxed at shaped shallow root viewport n x over.inputs child over.boxed ∙ ap Some (sym (own root viewport n child over)) in
          record {
            inputs = given;
            boxed = boxed;
            settled = done.settled slots;
            ticks = λ wanted same.
                done.ticks slots wanted
                (λ p c inputs inside counted wants.
                same c (above_in at shallow x c p (shaped.parents p c counted.child.listed) inside)
                ∙ wanted_kid at shaped shallow root viewport p c inputs counted (sym (same p inside) ∙ wants))
                (same x (in_self at x) ∙ boxed);
            sound = done.sound slots (λ p counted. absurd (false≢true (sym moved ∙ counted.flow))) sound;
          };
    }

    pub entered_absolute : position_of (at x) ≡ AbsolutePosition → given ≡ seen_inputs outside.absolute → IsEntered at x outside count old new steps later
    entered_absolute is from =
        entered_moved (ap is_flow is) (λ root viewport n child over. from ∙ over.absolute ∙ sym (absolute_inputs at shaped shallow root viewport n x (shaped.parents n x child.listed) is))

    pub entered_fixed : position_of (at x) ≡ FixedPosition → given ≡ seen_inputs outside.fixed → IsEntered at x outside count old new steps later
    entered_fixed is from =
        entered_moved (ap is_flow is) (λ root viewport n child over. from ∙ over.fixed ∙ sym (fixed_inputs at shaped shallow root viewport n x (shaped.parents n x child.listed) is))

  -- what is brought on to the child
  module _ (root : ℕ) (viewport : Inputs) (n : ℕ) (child : IsShownIn at n x) (old new : ℕ → Slot) (steps later : ℕ)
      (over : IsOutsideOf at root viewport n outside old) (it : IsChildSettled at root viewport x count old new steps later) (within : Outside) (brought : IsBroughtTo at x outside within new) where
    passed_on : is_positioned (at x) ≡ false → IsOutsideOf at root viewport x within new
    passed_on is = record {
      inputs = it.inputs;
      boxed = it.boxed;
      settled = it.settled;
      absolute = ap seen_inputs (brought.passed is) ∙ over.absolute ∙ sym (outside_passed at shaped shallow root viewport n x (shaped.parents n x child.listed) is);
      fixed = ap seen_inputs brought.fixed ∙ over.fixed;
    }

    held_here : is_positioned (at x) ≡ true → IsOutsideOf at root viewport x within new
    held_here is = record {
      inputs = it.inputs;
      boxed = it.boxed;
      settled = it.settled;
      absolute = held_if (new x).found it.settled.found (seen_inputs within.absolute) it.settled.held (brought.held is)
          ∙ ap inputs_held (exact_settled at shaped linked shallow new it.sound x it.inputs it.settled ∙ ap (λ i. box_in at i x) (inputs_are at root viewport it.inputs x it.boxed))
          ∙ sym (outside_held at shaped shallow root viewport n x (shaped.parents n x child.listed) is);
      fixed = ap seen_inputs brought.fixed ∙ over.fixed;
    }

    pub brought_on : IsOutsideOf at root viewport x within new
    brought_on = by (is_positioned (at x)) refl
      where
        by : (b : Bool) → is_positioned (at x) ≡ b → IsOutsideOf at root viewport x within new
        by true is = held_here is
        by false is = passed_on is
