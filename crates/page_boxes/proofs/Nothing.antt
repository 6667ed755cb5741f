-- Nothing that is kept fits every page.
use Rattle.std.proofs.Common.{◌≡◌, ◌≤◌, ℕ, true, false, List, length, Some, None, ap, sym, ◌∙◌}
use Rattle.page_model.specs.World.{Tree}
use Rattle.page_model.specs.Documents.{nodes_of}
use Rattle.kept_layout.specs.declared.slots.Slot.{Slot}
use Rattle.kept_layout.specs.Slots.{slot_in, no_slot}
use Rattle.kept_layout.specs.Sound.{IsSound}
use Rattle.page_boxes.specs.Kept.{AreKept}

module _ (tree : Tree) (kept : List Slot) (nothing : (n : ℕ) → slot_in kept n ≡ no_slot) where
  none_found : (n : ℕ) → (slot_in kept n).found ≡ None
  none_found n = ap (λ (slot : Slot). slot.found) (nothing n)

  fits : IsSound (nodes_of tree) (slot_in kept)
  fits = record {
    marks = λ p c but counts marked. let clash : false ≡ true = sym (ap (λ (slot : Slot). slot.marked) (nothing c)) ∙ marked in cc;
    right = λ n found but unmarked held. let clash : None ≡ Some found = sym (none_found n) ∙ held in cc;
  }

pub fits_of_nothing : (tree : Tree) (kept : List Slot) → length tree.elements ≤ length kept → ((n : ℕ) → slot_in kept n ≡ no_slot) → AreKept tree kept
fits_of_nothing tree kept room nothing = record {
  slots = room;
  sound = fits tree kept nothing;
  unmade = λ n past. none_found tree kept nothing n;
}
