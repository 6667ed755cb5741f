-- A walk takes one step for each node that was due, and writes no slot of a node without a box.
use Rattle.std.proofs.Common.{◌≡◌, ◌≢◌, ◌<◌, ◌+◌, ℕ, Option, Some, None, Bool, true, false, refl, ap, sym, ◌∙◌}
use Rattle.std.proofs.lemmas.Bool.{false≢true}
use Rattle.layout_model.specs.Boxes.{Inputs}
use Rattle.kept_layout.specs.declared.slots.Slot.{Slot}
use Rattle.kept_layout.specs.Due.{is_due_at, is_due, due_count}
use Rattle.kept_layout.specs.Slots.{marked_if}
use Rattle.kept_layout.specs.Writes.{with_above}
use Rattle.kept_layout.specs.Walks.{IsSettled}
use Rattle.kept_layout.proofs.Counts.{due_marked, settled_due, due_same, due_less}

due_above : (o : Option Inputs) (above : ℕ) (slot : Slot) → is_due_at o (with_above above slot) ≡ is_due_at o slot
due_above None above slot = refl
due_above (Some inputs) above slot = refl

-- a slot of a node with a box is written
pub unboxed_same : (boxed : ℕ → Bool) (x : ℕ) → boxed x ≡ true → (old new : ℕ → Slot) → ((m : ℕ) → m ≢ x → new m ≡ old m) → (m : ℕ) → boxed m ≡ false → new m ≡ old m
unboxed_same boxed x is old new others m none = others m (λ same. false≢true (sym none ∙ ap boxed same ∙ is))

-- heights above a node have no part in whether it is due
pub paid_above : (wanted : ℕ → Option Inputs) (x : ℕ) (old new : ℕ → Slot) → ((m : ℕ) → m ≢ x → new m ≡ old m) → (above : ℕ) → new x ≡ with_above above (old x)
    → (count : ℕ) → due_count wanted new count ≡ due_count wanted old count
paid_above wanted x old new others above set count = due_same wanted x old new others (ap (is_due_at (wanted x)) set ∙ due_above (wanted x) above (old x)) count

module _ (wanted : ℕ → Option Inputs) (x : ℕ) (inputs : Inputs) (is : wanted x ≡ Some inputs) (old new : ℕ → Slot) (others : (m : ℕ) → m ≢ x → new m ≡ old m) where
  due_is : (slot : ℕ → Slot) (b : Bool) → is_due_at (Some inputs) (slot x) ≡ b → is_due wanted slot x ≡ b
  due_is slot b due = ap (λ o. is_due_at o (slot x)) is ∙ due

  pub paid_begins : new x ≡ marked_if true (old x) → is_due_at (Some inputs) (old x) ≡ true → (count : ℕ) → due_count wanted new count ≡ due_count wanted old count
  paid_begins set due count =
      due_same wanted x old new others (due_is new true (due_marked (new x) inputs (ap (λ s. s.marked) set)) ∙ sym (due_is old true due)) count

  pub paid_ends : (old x).marked ≡ true → IsSettled (new x) inputs → (count : ℕ) → x < count → due_count wanted new count + 1 ≡ due_count wanted old count
  paid_ends marked settled count low =
      due_less wanted x old new others (due_is old true (due_marked (old x) inputs marked)) (due_is new false (settled_due (new x) inputs settled)) count low
