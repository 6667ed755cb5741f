-- What is known of a child with a box, and of what holds it.
use Rattle.std.proofs.Common.{◌≡◌, ◌≤◌, ℕ, Bool, true, false, Option, Some, None, refl, ap, sym, ◌∙◌}
use Rattle.std.proofs.lemmas.Bool.{false≢true}
use Rattle.std.specs.Prelude.{◌&&◌, not, is_some}
use Rattle.layout_model.specs.Nodes.{Node, levels, depth_of, HeldByElement, holder, IsShallow}
use Rattle.layout_model.specs.Boxes.{Inputs, Box}
use Rattle.layout_model.specs.Clips.{is_block}
use Rattle.layout_model.specs.Views.{View, view_inputs, inputs_in_view}
use Rattle.layout_model.proofs.Inputs.{in_view, view_root, inputs_boxed, is_some_inputs, box_of_holder}
use Rattle.page_boxes.proofs.Boxed.{boxed_below}

pub all_three : (hidden block boxed : Bool) → (not hidden && block && boxed) ≡ true → (hidden ≡ false) × (block ≡ true) × (boxed ≡ true)
all_three true block boxed e = absurd (false≢true e)
all_three false true boxed e = (refl, refl, e)
all_three false false boxed e = absurd (false≢true e)

pub some_found : (found : Option Inputs) → is_some found ≡ true → (inputs : Inputs) × (found ≡ Some inputs)
some_found None e = absurd (false≢true e)
some_found (Some inputs) e = (inputs, refl)

module _ (at : ℕ → Node) (view : View) where
  -- a child with a box is displayed in a block with one
  pub child_boxed : (c p : ℕ) → (at c).parent ≡ Some p → depth_of at p ≤ levels → is_some (inputs_in_view at view c) ≡ true
      → ((at c).item.style.hidden ≡ false) × (is_block (at p).item.kind ≡ true) × (is_some (inputs_in_view at view p) ≡ true)
  child_boxed c p is short boxed =
      all_three (at c).item.style.hidden (is_block (at p).item.kind) (is_some (inputs_in_view at view p)) (sym (boxed_below at view c p is short) ∙ boxed)

  -- what holds a box has one
  pub holder_boxed : IsShallow at → (n h : ℕ) → holder at n ≡ HeldByElement h → is_some (inputs_in_view at view n) ≡ true → is_some (inputs_in_view at view h) ≡ true
  holder_boxed shallow n h is boxed =
      let found = some_found (inputs_in_view at view n) boxed in
      let rooted = view_root at view found.0 n found.1 in
      ap is_some (in_view at view rooted.0 h rooted.1) ∙ is_some_inputs at rooted.0 (view_inputs view) h
      ∙ box_of_holder at shallow rooted.0 n h is (inputs_boxed at rooted.0 (view_inputs view) found.0 n rooted.2)

pub same_box : (held : Option Box) (a b : Box) → Some a ≡ held → held ≡ Some b → a ≡ b
same_box held a b first second = cc

pub none_held : (held : Option Box) (b : Box) → None ≡ held → held ≡ Some b → ⊥
none_held held b first second = cc
