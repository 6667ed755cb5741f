-- What is kept that fits a tree is what is computed anew.
use Rattle.std.proofs.Common.{◌≡◌, ◌<◌, ◌+◌, ℕ, zero, suc, List, Option, Some, Bool, true, false, refl, ap, sym, subst, ◌∙◌, arith}
use Rattle.std.proofs.lemmas.Bool.{false≢true}
use Rattle.std.specs.Prelude.{sum_by, option_map}
use Rattle.px_units.specs.Lengths.{cap}
use Rattle.layout_model.specs.Nodes.{Node, levels, depth_of, IsLinked, IsShallow}
use Rattle.layout_model.specs.Boxes.{Inputs, kids_of, counted, total, computed, child_inputs, box_at, box_in}
use Rattle.layout_model.specs.FlatPlaces.{before, height_above}
use Rattle.layout_model.proofs.Paths.{depth_least}
use Rattle.layout_model.proofs.Trees.{box_of_children}
use Rattle.block_layout.specs.Seen.{seen_inputs}
use Rattle.kept_layout.specs.declared.slots.Slot.{Slot}
use Rattle.kept_layout.specs.declared.slots.Found.{Found}
use Rattle.kept_layout.specs.Fresh.{IsFresh}
use Rattle.kept_layout.specs.Slots.{slot_in, held_in}
use Rattle.kept_layout.specs.Sound.{IsShownIn, IsCounted, box_held, box_found, above_held, IsHeldIn, IsRight, IsSound}
use Rattle.kept_layout.specs.Walks.{IsSettled, IsSoundInFlow}
use Rattle.kept_layout.proofs.Heights.{heights_like}
use Rattle.kept_layout.proofs.Lists.{before_has}
use Rattle.kept_layout.proofs.Shapes.{IsShaped, kid_falls}

-- what fits a tree fits what is in flow in it
pub sound_in_flow : (at : ℕ → Node) (slot : ℕ → Slot) → IsSound at slot → IsSoundInFlow at slot
sound_in_flow at slot sound = record {
  marks = λ p c counted marked. sound.marks p c refl counted.child marked;
  right = λ n found unmarked held. sound.right n found refl unmarked held;
}

pub some_same : (o : Option Inputs) (a b : Inputs) → o ≡ Some a → o ≡ Some b → a ≡ b
some_same o a b first second = cc

-- the box of a node's parent is held, and the node is displayed in it
pub record Around (at : ℕ → Node) (slot : ℕ → Slot) (p n : ℕ) : Type 0 where
  pub above : Inputs
  pub settled : IsSettled (slot p) above
  pub shown : IsShownIn at p n

module _ (at : ℕ → Node) (shaped : IsShaped at) (linked : IsLinked at) (shallow : IsShallow at) (slot : ℕ → Slot) (sound : IsSoundInFlow at slot) where
  kid_unmarked : (n c : ℕ) → (slot n).marked ≡ false → IsCounted at n c → (slot c).marked ≡ false
  kid_unmarked n c unmarked counted = by (slot c).marked refl
    where
      by : (b : Bool) → (slot c).marked ≡ b → (slot c).marked ≡ false
      by true is = absurd (false≢true (sym unmarked ∙ sound.marks n c counted is))
      by false is = is

  -- a held box without a mark is that of the tree
  exact_within : (high n : ℕ) (found : Found) → levels < depth_of at n + high → (slot n).marked ≡ false → (slot n).found ≡ Some found → found.own ≡ box_in at (seen_inputs found.inputs) n
  unfolding box_at total
  exact_within zero n found far unmarked held = absurd (omega (arith, shallow n))
  exact_within (suc high) n found far unmarked held =
      let right = sound.right n found unmarked held in
      let below : Inputs = child_inputs (at n).item (seen_inputs found.inputs) in
      let same : sum_by (counted at (box_held slot)) (kids_of (at n)) ≡ sum_by (counted at (box_in at below)) (kids_of (at n))
      = heights_like at (box_held slot) (box_in at below) (kids_of (at n)) (λ c kid shown flow.
      let one : IsCounted at n c = record { child = record { listed = kid; shown = shown }; flow = flow } in
      let own = right.kids c one in
      ap box_found own.held
      ∙ exact_within high c own.found (omega (arith, kid_falls at shaped n c kid)) (kid_unmarked n c unmarked one) own.held
      ∙ ap (λ i. box_in at i c) own.from) in
      right.box ∙ ap (λ h. computed (at n).item (seen_inputs found.inputs) (cap h)) same ∙ sym (box_of_children at linked shallow (seen_inputs found.inputs) n)

  pub exact : (n : ℕ) (found : Found) → (slot n).marked ≡ false → (slot n).found ≡ Some found → found.own ≡ box_in at (seen_inputs found.inputs) n
  exact n found unmarked held = exact_within levels n found (omega (arith, depth_least at n)) unmarked held

  pub exact_settled : (n : ℕ) (inputs : Inputs) (settled : IsSettled (slot n) inputs) → settled.found.own ≡ box_in at inputs n
  exact_settled n inputs settled = exact n settled.found settled.unmarked settled.held ∙ ap (λ i. box_in at i n) settled.from

  module _ (p : ℕ) (inputs : Inputs) (settled : IsSettled (slot p) inputs) where
    own_right : IsRight at slot p settled.found
    own_right = sound.right p settled.found settled.unmarked settled.held

    kid_held : (c : ℕ) → IsCounted at p c → IsHeldIn at slot p inputs c
    kid_held c counted = subst (λ i. IsHeldIn at slot p i c) settled.from (own_right.kids c counted)

    -- a child in flow is held with the inputs that are handed down
    pub kid_settled : (c : ℕ) → IsCounted at p c → IsSettled (slot c) (child_inputs (at p).item inputs)
    kid_settled c counted =
        let held = kid_held c counted in
        record { unmarked = kid_unmarked p c settled.unmarked counted; found = held.found; held = held.held; from = held.from }

    kid_box : (c : ℕ) → IsCounted at p c → box_held slot c ≡ box_in at (child_inputs (at p).item inputs) c
    kid_box c counted =
        let held = kid_held c counted in
        ap box_found held.held ∙ exact c held.found (kid_unmarked p c settled.unmarked counted) held.held ∙ ap (λ i. box_in at i c) held.from

    kid_above : (c : ℕ) → above_held at slot p c ≡ cap (height_above at (child_inputs (at p).item inputs) (at p) c)
    unfolding height_above
    kid_above c =
        ap cap
        (heights_like at (box_held slot) (box_in at (child_inputs (at p).item inputs)) (before c (kids_of (at p)))
        (λ m ahead shown flow. kid_box m (record { child = record { listed = before_has c m (kids_of (at p)) ahead; shown = shown }; flow = flow })))

    -- each displayed child is kept with the heights above it
    pub kid_stands : (c : ℕ) → IsShownIn at p c → (slot c).above ≡ cap (height_above at (child_inputs (at p).item inputs) (at p) c)
    kid_stands c shown = own_right.above c shown ∙ kid_above c

  pub fresh_under : (n : ℕ) (inputs : Inputs) → IsSettled (slot n) inputs → ((p : ℕ) → (at n).parent ≡ Some p → Around at slot p n) → IsFresh at slot n inputs
  fresh_under n inputs settled around = record {
    unmarked = settled.unmarked;
    box = ap (option_map (λ (f : Found). f.own)) settled.held ∙ ap Some (exact_settled n inputs settled);
    from = ap (option_map (λ (f : Found). seen_inputs f.inputs)) settled.held ∙ ap Some settled.from;
    above = λ p outer up held.
        let over = around p up in
        let same : over.above ≡ outer
        = some_same (option_map (λ (f : Found). seen_inputs f.inputs) (slot p).found) over.above outer (ap (option_map (λ (f : Found). seen_inputs f.inputs)) over.settled.held ∙ ap Some over.settled.from) held in
        kid_stands p over.above over.settled n over.shown ∙ ap (λ i. cap (height_above at (child_inputs (at p).item i) (at p) n)) same;
  }

pub held_fresh : (at : ℕ → Node) (slots : List Slot) (n : ℕ) (inputs : Inputs) → IsFresh at (slot_in slots) n inputs → held_in slots n ≡ Some (box_in at inputs n)
held_fresh at slots n inputs fresh = fresh.box
