-- What the two walks do that compute the boxes in a node: one goes down along what is in flow; the other goes to each box out of
-- flow, in tree order, and starts the first one there.
use Rattle.std.specs.Prelude.{◌≡◌, ◌+◌, ℕ, Bool, true, false, Option, Some, IfSome, find}
use Rattle.layout_model.specs.Nodes.{Node, path_of, is_in_path, is_positioned, held_by}
use Rattle.layout_model.specs.Boxes.{Inputs, child_inputs, inputs_held, inputs_by, inputs_at, inputs_in}
use Rattle.block_layout.specs.Seen.{seen_inputs}
use Rattle.kept_layout.specs.declared.slots.Slot.{Slot}
use Rattle.kept_layout.specs.declared.slots.Found.{Found}
use Rattle.kept_layout.specs.declared.walk.Outside.{Outside}
use Rattle.kept_layout.specs.Due.{due_count}
use Rattle.kept_layout.specs.Sound.{IsShownIn, IsCounted, IsRight, HasSlots}

-- the slot has no mark and holds a box that was computed from these inputs
pub record IsSettled (slot : Slot) (inputs : Inputs) : Type 0 where
  pub unmarked : slot.marked ≡ false
  pub found : Found
  pub held : slot.found ≡ Some found
  pub from : seen_inputs found.inputs ≡ inputs

-- only the slots of a node and of the nodes in it may change
abbrev pub IsFramed : (ℕ → Node) → ℕ → (ℕ → Slot) → (ℕ → Slot) → Type 0
IsFramed at n old new = (m : ℕ) → is_in_path at n m ≡ false → new m ≡ old m

-- what holds for the slots at every step of both walks: if a counted child is marked, so is its parent, and what is held without
-- a mark is right. A child out of flow may be marked though its parent isn't, since the second walk goes to it
pub record IsSoundInFlow (at : ℕ → Node) (slot : ℕ → Slot) : Type 0 where
  pub marks : (p c : ℕ) → IsCounted at p c → (slot c).marked ≡ true → (slot p).marked ≡ true
  pub right : (n : ℕ) (found : Found) → (slot n).marked ≡ false → (slot n).found ≡ Some found → IsRight at slot n found

-- within a node, each counted child is to have the inputs that its parent passes down
abbrev pub GoesInFlow : (ℕ → Node) → ℕ → (ℕ → Option Inputs) → Type 0
GoesInFlow at n wanted = (p c : ℕ) (inputs : Inputs) → is_in_path at n p ≡ true → IsCounted at p c → wanted p ≡ Some inputs →
    wanted c ≡ Some (child_inputs (at p).item inputs)

-- if a node that is a block has a box, so have its displayed children
abbrev pub HaveBoxes : (ℕ → Node) → (ℕ → Bool) → Type 0
HaveBoxes at boxed = (p c : ℕ) → IsShownIn at p c → boxed p ≡ true → boxed c ≡ true

-- nothing is written for a node without a box
abbrev pub KeepsUnboxed : (ℕ → Node) → ℕ → (ℕ → Slot) → (ℕ → Slot) → Type 0
KeepsUnboxed at n old new = (boxed : ℕ → Bool) → HaveBoxes at boxed → boxed n ≡ true → (m : ℕ) → boxed m ≡ false → new m ≡ old m

-- the box of a node with these inputs, and those in flow in it, are computed if they are due, provided that `count` slots are
-- enough for them; `before` and `after` are the numbers of steps
pub record IsRefreshed (at : ℕ → Node) (n : ℕ) (inputs : Inputs) (count : ℕ) (old new : ℕ → Slot) (before after : ℕ) : Type 0 where
  pub settled : HasSlots at n count → IsSettled (new n) inputs
  pub above : HasSlots at n count → (new n).above ≡ (old n).above
  pub framed : IsFramed at n old new
  pub unboxed : KeepsUnboxed at n old new
  pub ticks : HasSlots at n count → (wanted : ℕ → Option Inputs) → GoesInFlow at n wanted → wanted n ≡ Some inputs
      → after + due_count wanted new count ≡ before + due_count wanted old count
  pub sound : HasSlots at n count → ((p : ℕ) → IsCounted at p n → (old p).marked ≡ true) → IsSoundInFlow at old → IsSoundInFlow at new

-- the inputs of an absolute box whose parent is this node
abbrev pub inputs_outside : (ℕ → Node) → Inputs → ℕ → Inputs
inputs_outside at viewport n = inputs_by at viewport (inputs_at at viewport) false (held_by (find (λ a. is_positioned (at a)) (path_of at n)))

-- what the second walk passes to a node whose box is held: the inputs of absolute boxes whose parent it is, and those of fixed
-- ones
pub record IsOutsideOf (at : ℕ → Node) (root : ℕ) (viewport : Inputs) (n : ℕ) (outside : Outside) (slot : ℕ → Slot) : Type 0 where
  pub inputs : Inputs
  pub boxed : inputs_in at root viewport n ≡ Some inputs
  pub settled : IsSettled (slot n) inputs
  pub absolute : seen_inputs outside.absolute ≡ inputs_outside at viewport n
  pub fixed : seen_inputs outside.fixed ≡ record viewport { flow = false }

-- a displayed child of such a node has its box held, and no box in flow in it is due
pub record IsChildSettled (at : ℕ → Node) (root : ℕ) (viewport : Inputs) (x : ℕ) (count : ℕ) (old new : ℕ → Slot) (before after : ℕ) : Type 0 where
  pub inputs : Inputs
  pub boxed : inputs_in at root viewport x ≡ Some inputs
  pub settled : IsSettled (new x) inputs
  pub ticks : (wanted : ℕ → Option Inputs) → ((m : ℕ) → is_in_path at x m ≡ true → wanted m ≡ inputs_in at root viewport m)
      → after + due_count wanted new count ≡ before + due_count wanted old count
  pub sound : IsSoundInFlow at new

-- a child was entered: nothing was written outside of it or for a node without a box; and if it is displayed in a node that the
-- second walk is at, its box is held, and no box in flow in it is due
pub record IsEntered (at : ℕ → Node) (x : ℕ) (outside : Outside) (count : ℕ) (old new : ℕ → Slot) (before after : ℕ) : Type 0 where
  pub framed : IsFramed at x old new
  pub unboxed : KeepsUnboxed at x old new
  pub done : HasSlots at x count → IsSoundInFlow at old → (root : ℕ) (viewport : Inputs) (n : ℕ) → IsShownIn at n x → IsOutsideOf at root viewport n outside old
      → IsChildSettled at root viewport x count old new before after

-- what is passed on to a child: a positioned one holds absolute boxes itself
pub record IsBroughtTo (at : ℕ → Node) (x : ℕ) (outside within : Outside) (slot : ℕ → Slot) : Type 0 where
  pub passed : is_positioned (at x) ≡ false → within.absolute ≡ outside.absolute
  pub held : is_positioned (at x) ≡ true → IfSome (slot x).found (λ found. seen_inputs within.absolute ≡ inputs_held found.own)
  pub fixed : within.fixed ≡ outside.fixed

-- no box in a node is due, in flow or not, in the tree of a root element
pub record AreSettledIn (at : ℕ → Node) (root : ℕ) (viewport : Inputs) (n : ℕ) (count : ℕ) (old new : ℕ → Slot) (before after : ℕ) : Type 0 where
  pub settled : (m : ℕ) (inputs : Inputs) → is_in_path at n m ≡ true → inputs_in at root viewport m ≡ Some inputs → IsSettled (new m) inputs
  pub ticks : (wanted : ℕ → Option Inputs) → ((m : ℕ) → is_in_path at n m ≡ true → wanted m ≡ inputs_in at root viewport m)
      → after + due_count wanted new count ≡ before + due_count wanted old count
  pub sound : IsSoundInFlow at new

-- after the second walk was in a node, no box in it is due; the node's own is held as before
pub record IsRefreshedInside (at : ℕ → Node) (n : ℕ) (outside : Outside) (count : ℕ) (old new : ℕ → Slot) (before after : ℕ) : Type 0 where
  pub own : new n ≡ old n
  pub framed : IsFramed at n old new
  pub unboxed : KeepsUnboxed at n old new
  pub done : HasSlots at n count → IsSoundInFlow at old → (root : ℕ) (viewport : Inputs) → IsOutsideOf at root viewport n outside old
      → AreSettledIn at root viewport n count old new before after
