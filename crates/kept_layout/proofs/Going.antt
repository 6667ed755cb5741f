-- How far a walk that computes the boxes in flow in a node has come.
use Rattle.std.proofs.Common.{◌≡◌, ◌≢◌, ◌≤◌, ◌<◌, ◌+◌, ℕ, List, [], ◌∷◌, ◌++◌, Option, Some, Bool, true, false, ◌||◌, refl, ap, sym, subst, ◌∙◌, arith}
use Rattle.px_units.specs.Lengths.{cap}
use Rattle.layout_model.specs.Nodes.{Node, is_in_path, is_in_flow, IsShallow}
use Rattle.layout_model.specs.Boxes.{Inputs, Box, kids_of, computed, child_inputs, margin_height}
use Rattle.layout_model.specs.FlatPlaces.{before}
use Rattle.layout_model.proofs.Ancestors.{in_self, in_path_of_parent}
use Rattle.element_tree.specs.Forest.{has}
use Rattle.block_layout.specs.Seen.{seen_inputs}
use Rattle.block_layout.specs.declared.Inputs.{Inputs as InputsCode}
use Rattle.kept_layout.specs.declared.slots.Slot.{Slot}
use Rattle.kept_layout.specs.Due.{is_due_at, due_count}
use Rattle.kept_layout.specs.Slots.{marked_if}
use Rattle.kept_layout.specs.Writes.{with_above, holding}
use Rattle.kept_layout.specs.Sound.{IsShownIn, IsCounted, box_held, outside_found, HasSlots}
use Rattle.kept_layout.specs.Walks.{IsSoundInFlow, IsFramed, GoesInFlow, KeepsUnboxed, IsRefreshed}
use Rattle.kept_layout.proofs.Counts.{settled_so}
use Rattle.kept_layout.proofs.Paid.{unboxed_same, paid_begins, paid_above, paid_ends}
use Rattle.kept_layout.proofs.Shapes.{IsShaped, kid_differs}
use Rattle.kept_layout.proofs.Subtrees.{off_self, off_parent, kids_apart_from, outside_kid}
use Rattle.kept_layout.proofs.Walked.{Walked, walked_begins, walked_hidden, walked_in_flow, walked_moved, sound_put, only_parent_marked, sound_begins, settled_ends, sound_ends}

pub record Going (at : ℕ → Node) (n : ℕ) (inputs : Inputs) (count : ℕ) (first now : ℕ → Slot) (xs : List ℕ) (above : ℕ) (outside : Bool) (begun steps : ℕ) : Type 0 where
  pub low : above ≤ 2147483647
  pub stands : HasSlots at n count → (now n).above ≡ (first n).above
  pub frame : IsFramed at n first now
  pub walked : HasSlots at n count → Walked at now n inputs xs above outside
  pub unboxed : KeepsUnboxed at n first now
  pub ticks : HasSlots at n count → (wanted : ℕ → Option Inputs) → GoesInFlow at n wanted → wanted n ≡ Some inputs
      → steps + due_count wanted now count ≡ begun + due_count wanted first count
  pub sound : HasSlots at n count → ((p : ℕ) → IsCounted at p n → (first p).marked ≡ true) → IsSoundInFlow at first → IsSoundInFlow at now

-- nothing is done where the node isn't due
pub refreshed_already : (at : ℕ → Node) (n : ℕ) (inputs : Inputs) (count : ℕ) (slot : ℕ → Slot) (steps : ℕ) → is_due_at (Some inputs) (slot n) ≡ false → IsRefreshed at n inputs count slot slot steps steps
refreshed_already at n inputs count slot steps due = record {
  settled = λ _. settled_so (slot n) inputs due;
  above = λ _. refl;
  framed = λ m _. refl;
  unboxed = λ _ _ _ m _. refl;
  ticks = λ _ _ _ _. omega arith;
  sound = λ _ _ sound. sound;
}

module _ (at : ℕ → Node) (shaped : IsShaped at) (shallow : IsShallow at) (n : ℕ) (inputs : Inputs) (count : ℕ) (first : ℕ → Slot) (begun : ℕ) where
  itself : is_in_path at n n ≡ true
  itself = in_self at n

  pub going_begins : (now : ℕ → Slot) → (HasSlots at n count → now n ≡ marked_if true (first n)) → ((m : ℕ) → m ≢ n → now m ≡ first m)
      → is_due_at (Some inputs) (first n) ≡ true → (xs : List ℕ) → xs ≡ [] → Going at n inputs count first now xs 0 false begun begun
  going_begins now set others due xs none = record {
    low = omega arith;
    stands = λ slots. ap (λ s. s.above) (set slots);
    frame = λ m off. others m (off_self at n m off);
    walked = λ slots. walked_begins at shaped n inputs now xs 0 (ap (λ s. s.marked) (set slots)) none refl;
    unboxed = λ boxed down own m nothing. unboxed_same boxed n own first now others m nothing;
    ticks = λ slots wanted down is. omega (arith, paid_begins wanted n inputs is first now others (set slots) due count);
    sound = λ slots above sound. sound_begins at shaped n inputs first now (set slots) others above sound;
  }

  pub going_hidden : (now : ℕ → Slot) (xs more : List ℕ) (x above : ℕ) (outside : Bool) (steps : ℕ) → more ≡ xs ++ x ∷ [] → (at x).item.style.hidden ≡ true
      → Going at n inputs count first now xs above outside begun steps → Going at n inputs count first now more above outside begun steps
  going_hidden now xs more x above outside steps longer hidden going = record {
    low = going.low;
    stands = going.stands;
    frame = going.frame;
    walked = λ slots. subst (λ ys. Walked at now n inputs ys above outside) (sym longer) (walked_hidden at shaped n inputs now xs above outside x hidden (going.walked slots));
    unboxed = going.unboxed;
    ticks = going.ticks;
    sound = going.sound;
  }

  -- a displayed child is put below its earlier siblings
  module _ (x : ℕ) (kid : has (kids_of (at n)) x ≡ true) (shown : (at x).item.style.hidden ≡ false)
      (old mid : ℕ → Slot) (xs more : List ℕ) (above : ℕ) (outside : Bool) (steps : ℕ)
      (ahead : xs ≡ before x (kids_of (at n))) (longer : more ≡ before x (kids_of (at n)) ++ x ∷ [])
      (put : x < count → mid x ≡ with_above above (old x)) (others : (m : ℕ) → m ≢ x → mid m ≡ old m)
      (going : Going at n inputs count first old xs above outside begun steps) where
    kid_slots : HasSlots at n count → HasSlots at x count
    kid_slots slots m within = slots m (in_path_of_parent at shallow n x m (shaped.parents n x kid) within)

    near : HasSlots at n count → mid x ≡ with_above above (old x)
    near slots = put (kid_slots slots x (in_self at x))

    child : IsShownIn at n x
    child = record { listed = kid; shown = shown }

    off_n : is_in_path at x n ≡ false
    off_n = off_parent at shallow shaped n x kid

    before_now : HasSlots at n count → Walked at old n inputs (before x (kids_of (at n))) above outside
    before_now slots = subst (λ ys. Walked at old n inputs ys above outside) ahead (going.walked slots)

    mid_framed : IsFramed at x old mid
    mid_framed m off = others m (off_self at x m off)

    mid_frame : IsFramed at n first mid
    mid_frame m off = mid_framed m (outside_kid at shallow shaped n x kid m off) ∙ going.frame m off

    mid_unboxed : KeepsUnboxed at n first mid
    mid_unboxed boxed down own m none = unboxed_same boxed x (down n x child own) old mid others m none ∙ going.unboxed boxed down own m none

    mid_sound : HasSlots at n count → ((p : ℕ) → IsCounted at p n → (first p).marked ≡ true) → IsSoundInFlow at first → IsSoundInFlow at mid
    mid_sound slots up sound = sound_put at shaped n inputs x kid old mid above (near slots) others (before_now slots).marked (going.sound slots up sound)

    mid_ticks : HasSlots at n count → (wanted : ℕ → Option Inputs) → GoesInFlow at n wanted → wanted n ≡ Some inputs
        → steps + due_count wanted mid count ≡ begun + due_count wanted first count
    mid_ticks slots wanted down own =
        let same = paid_above wanted x old mid others above (near slots) count in
        let one = going.ticks slots wanted down own in
        omega arith

    -- it is out of flow
    pub going_moved : is_in_flow (at x) ≡ false → (lower : ℕ) → lower ≡ above → (inside : Bool) → inside ≡ true
        → Going at n inputs count first mid more lower inside begun steps
    going_moved moved lower is inside within = record {
      low = let l = going.low in omega arith;
      stands = λ slots. ap (λ s. s.above) (mid_framed n off_n) ∙ going.stands slots;
      frame = mid_frame;
      walked = λ slots. subst (λ ys. Walked at mid n inputs ys lower inside) (sym longer)
          (walked_moved at shaped n inputs x kid shown old mid above outside mid_framed (kids_apart_from at shallow shaped n x kid) off_n
          (ap (λ s. s.above) (near slots)) (before_now slots) moved lower is inside within);
      unboxed = mid_unboxed;
      ticks = mid_ticks;
      sound = mid_sound;
    }

    -- it is in flow, and a walk was in it
    module _ (flow : is_in_flow (at x) ≡ true) (new : ℕ → Slot) (lower : ℕ) (inside : Bool) (later : ℕ)
        (done : IsRefreshed at x (child_inputs (at n).item inputs) count mid new steps later)
        (is : lower ≡ cap (above + margin_height (box_held new x))) (within : inside ≡ (outside || outside_found (new x).found)) where
      counted : IsCounted at n x
      counted = record { child = child; flow = flow }

      all_framed : IsFramed at x old new
      all_framed m off = done.framed m off ∙ mid_framed m off

      deeper : (wanted : ℕ → Option Inputs) → GoesInFlow at n wanted → GoesInFlow at x wanted
      deeper wanted down p c given inner = down p c given (in_path_of_parent at shallow n x p (shaped.parents n x kid) inner)

      handed : (wanted : ℕ → Option Inputs) → GoesInFlow at n wanted → wanted n ≡ Some inputs → wanted x ≡ Some (child_inputs (at n).item inputs)
      handed wanted down own = down n x inputs itself counted own

      pub going_shown : Going at n inputs count first new more lower inside begun later
      going_shown = record {
        low = omega arith;
        stands = λ slots. ap (λ s. s.above) (all_framed n off_n) ∙ going.stands slots;
        frame = λ m off. done.framed m (outside_kid at shallow shaped n x kid m off) ∙ mid_frame m off;
        walked = λ slots. subst (λ ys. Walked at new n inputs ys lower inside) (sym longer)
            (walked_in_flow at shaped n inputs x kid shown old new above outside all_framed (kids_apart_from at shallow shaped n x kid) off_n
            (done.above (kid_slots slots) ∙ ap (λ s. s.above) (near slots)) (before_now slots) flow (done.settled (kid_slots slots)) lower is inside within);
        unboxed = λ boxed down own m none. done.unboxed boxed down (down n x child own) m none ∙ mid_unboxed boxed down own m none;
        ticks = λ slots wanted down own.
            let one = mid_ticks slots wanted down own in
            let two = done.ticks (kid_slots slots) wanted (deeper wanted down) (handed wanted down own) in
            omega arith;
        sound = λ slots up sound.
            done.sound (kid_slots slots)
            (λ p one. ap (λ s. s.marked) (others p (λ same. kid_differs at shaped p x one.child.listed (sym same))) ∙ only_parent_marked at shaped n inputs old x kid (before_now slots).marked p one.child)
            (mid_sound slots up sound);
      }

  -- the node's own box
  pub going_ends : (now new : ℕ → Slot) (above : ℕ) (outside : Bool) (steps later : ℕ) (own : Box) (given : InputsCode) → seen_inputs given ≡ inputs
      → (n < count → new n ≡ holding own given outside (now n)) → ((m : ℕ) → m ≢ n → new m ≡ now m) → own ≡ computed (at n).item inputs above → later ≡ steps + 1
      → (xs : List ℕ) → xs ≡ kids_of (at n) → Going at n inputs count first now xs above outside begun steps → IsRefreshed at n inputs count first new begun later
  going_ends now new above outside steps later own given seen set others is one xs whole going = record {
    settled = λ slots. settled_ends at shaped n inputs now new own given outside seen (set (slots n itself)) others;
    above = λ slots. ap (λ s. s.above) (set (slots n itself)) ∙ going.stands slots;
    framed = λ m off. others m (off_self at n m off) ∙ going.frame m off;
    unboxed = λ boxed down has_box m none. unboxed_same boxed n has_box now new others m none ∙ going.unboxed boxed down has_box m none;
    ticks = λ slots wanted down boxed.
        let walked = going.walked slots in
        let paid = paid_ends wanted n inputs boxed now new others walked.marked (settled_ends at shaped n inputs now new own given outside seen (set (slots n itself)) others) count (slots n itself) in
        omega (arith, going.ticks slots wanted down boxed);
    sound = λ slots up sound.
        sound_ends at shaped n inputs now new own given outside seen (set (slots n itself)) others above
        (subst (λ ys. Walked at now n inputs ys above outside) whole (going.walked slots)) is
        (λ p counted. ap (λ s. s.marked) (going.frame p (off_parent at shallow shaped p n counted.child.listed)) ∙ up p counted)
        (going.sound slots up sound);
  }

pub going_like : (at : ℕ → Node) (n : ℕ) (inputs : Inputs) (count : ℕ) (first now new : ℕ → Slot) (xs : List ℕ) (above lower : ℕ) (outside inside : Bool) (begun steps later : ℕ)
    → new ≡ now → lower ≡ above → inside ≡ outside → later ≡ steps
    → Going at n inputs count first now xs above outside begun steps → Going at n inputs count first new xs lower inside begun later
going_like at n inputs count first now new xs above lower outside inside begun steps later slots heights within ticks going =
    subst (λ s. Going at n inputs count first s xs lower inside begun later) (sym slots)
    (subst (λ a. Going at n inputs count first now xs a inside begun later) (sym heights)
    (subst (λ o. Going at n inputs count first now xs above o begun later) (sym within)
    (subst (λ k. Going at n inputs count first now xs above outside begun k) (sym ticks) going)))

-- what a walk in a child did, with its inputs, its slots and its steps as the parent tells them
pub refreshed_as : (at : ℕ → Node) (n : ℕ) (given inputs : Inputs) (length count : ℕ) (old new : ℕ → Slot) (before after later : ℕ) → given ≡ inputs → length ≡ count → later ≡ after
    → IsRefreshed at n given length old new before after → IsRefreshed at n inputs count old new before later
refreshed_as at n given inputs length count old new before after later same slots ticks done =
    subst (λ i. IsRefreshed at n i count old new before later) same
    (subst (λ k. IsRefreshed at n given k old new before later) slots
    (subst (λ k. IsRefreshed at n given length old new before k) (sym ticks) done))
