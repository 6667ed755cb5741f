-- What commands on a page's elements mark.
use Rattle.std.proofs.Common.{◌≡◌, ℕ, Bool, List, Option, Some, Result, Ok, subst, sym}
use Rattle.page_model.specs.World.{Tree}
use Rattle.kept_layout.specs.declared.slots.Slot.{Slot}
use Rattle.page_layout.specs.Marks.{is_over, MarksOnly}
use Rattle.page_state.specs.Boxes.{Marks, is_moved, parent}
use Rattle.page_state.specs.declared.answers.Effect.{Effect}
use Rattle.page_state.specs.declared.answers.PageFault.{PageFault}

pub marks_done : (marked : ℕ → Bool) (effect : Effect) (slots old new : List Slot) → slots ≡ old → MarksOnly marked slots new → Marks marked (Ok effect) old new
marks_done marked effect slots old new is marks = record { done = subst (λ (kept : List Slot). MarksOnly marked kept new) is marks; refused = tt }

-- the operands stand for what was found
module _ (old new : List Slot) (node : Option ℕ) (n : ℕ) (found : node ≡ Some n) (result : Result Effect PageFault) (tree : Tree) where
  pub marks_over : Marks (is_over tree (Some n)) result old new → Marks (is_over tree node) result old new
  marks_over marks = subst (λ (o : Option ℕ). Marks (is_over tree o) result old new) (sym found) marks

  pub marks_left : (before : Tree) → Marks (is_over tree (parent before (Some n))) result old new → Marks (is_over tree (parent before node)) result old new
  marks_left before marks = subst (λ (o : Option ℕ). Marks (is_over tree (parent before o)) result old new) (sym found) marks

  pub marks_moved : (before : Tree) (to at : Option ℕ) → to ≡ at → Marks (is_moved before tree (Some n) at) result old new → Marks (is_moved before tree node to) result old new
  marks_moved before to at there marks =
      subst (λ (o : Option ℕ). Marks (is_moved before tree o to) result old new) (sym found)
      (subst (λ (o : Option ℕ). Marks (is_moved before tree (Some n) o) result old new) (sym there) marks)
