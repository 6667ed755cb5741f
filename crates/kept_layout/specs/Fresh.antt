-- Held boxes that are up to date.
use Rattle.std.specs.Prelude.{◌≡◌, ℕ, true, false, Some, option_map, is_some}
use Rattle.px_units.specs.Lengths.{cap}
use Rattle.layout_model.specs.Nodes.{Node, is_in_path}
use Rattle.layout_model.specs.Boxes.{Inputs, child_inputs, box_in}
use Rattle.layout_model.specs.Views.{View, inputs_in_view}
use Rattle.layout_model.specs.FlatPlaces.{height_above}
use Rattle.block_layout.specs.Seen.{seen_inputs}
use Rattle.kept_layout.specs.declared.slots.Slot.{Slot}

-- the box that a node has with these inputs is held without a mark, with the height that is stacked above it
pub record IsFresh (at : ℕ → Node) (slot : ℕ → Slot) (n : ℕ) (inputs : Inputs) : Type 0 where
  pub unmarked : (slot n).marked ≡ false
  pub box : option_map (λ found. found.own) (slot n).found ≡ Some (box_in at inputs n)
  pub from : option_map (λ found. seen_inputs found.inputs) (slot n).found ≡ Some inputs
  pub above : (p : ℕ) (outer : Inputs) → (at n).parent ≡ Some p → option_map (λ found. seen_inputs found.inputs) (slot p).found ≡ Some outer →
      (slot n).above ≡ cap (height_above at (child_inputs ((at p).item) outer) (at p) n)

-- the boxes that the place of a node depends on, its own and those of its ancestors, are held as they are now in a viewport;
-- whatever holds a box is among them
pub record IsFreshPath (at : ℕ → Node) (view : View) (slot : ℕ → Slot) (n : ℕ) : Type 0 where
  pub boxed : is_some (inputs_in_view at view n) ≡ true
  pub path : (m : ℕ) (inputs : Inputs) → is_in_path at m n ≡ true → inputs_in_view at view m ≡ Some inputs → IsFresh at slot m inputs
