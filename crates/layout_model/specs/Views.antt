-- The viewport of a document, as layout sees it.
use Rattle.std.specs.Prelude.{ℕ, true, Option, Some, option_and_then}
use Rattle.layout_model.specs.Nodes.{Node}
use Rattle.layout_model.specs.Boxes.{Inputs, inputs_at, inputs_in}

-- the viewport of a document: its size and stored scroll position, and the document's root element
pub record View : Type 0 where
  pub root : Option ℕ
  pub width : ℕ
  pub height : ℕ
  pub scrolled : ℕ × ℕ

abbrev pub view_size : View → ℕ × ℕ
view_size view = (view.width, view.height)

abbrev pub view_inputs : View → Inputs
view_inputs view = record { width = view.width; height = Some (view.height); flow = true }

-- the inputs of a node in the viewport's document, if it has a box
abbrev pub inputs_under : (ℕ → Node) → View → ℕ → Inputs
inputs_under at view n = inputs_at at (view_inputs view) n

-- the same, None if it has no box
unfoldable pub inputs_in_view : (ℕ → Node) → View → ℕ → Option Inputs
unfolding inputs_in
inputs_in_view at view n = option_and_then (λ root. inputs_in at root (view_inputs view) n) (view.root)
