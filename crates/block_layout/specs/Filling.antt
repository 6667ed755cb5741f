-- What a walk that stores boxes in places gives for a node with these inputs, if no element is positioned.
use Rattle.std.specs.Prelude.{◌≡◌, ◌≤◌, ℕ, Bool, true, false, Option, Some, None, option_map}
use Rattle.layout_model.specs.Items.{Item, Kind, BlockKind, ImageKind, FrameKind}
use Rattle.layout_model.specs.Nodes.{Node, depth_of, is_in_path, is_positioned}
use Rattle.layout_model.specs.Boxes.{Inputs, Box, child_inputs, box_in, margin_height}

-- no element in the tree of a node is positioned
abbrev pub IsUnpositioned : (ℕ → Node) → ℕ → Type 0
IsUnpositioned at root = (n : ℕ) → is_in_path at root n ≡ true → is_positioned (at n) ≡ false

abbrev pub inputs_if_block : Kind → Item → Option Inputs → Option Inputs
inputs_if_block BlockKind item inputs = option_map (child_inputs item) inputs
inputs_if_block (ImageKind width height) item inputs = None
inputs_if_block FrameKind item inputs = None

abbrev pub if_shown : Bool → Option Inputs → Option Inputs
if_shown true inputs = None
if_shown false inputs = inputs

-- from this depth on each element has the inputs that its parent passes down, none if it has no box
abbrev pub GoesDown : (ℕ → Node) → ℕ → (ℕ → Option Inputs) → Type 0
GoesDown at depth inputs = (c p : ℕ) → (at c).parent ≡ Some p → depth ≤ depth_of at p → inputs c ≡ if_shown ((at c).item.style.hidden) (inputs_if_block ((at p).item.kind) ((at p).item) (inputs p))

-- the box of a node with these inputs, none without inputs
abbrev pub box_with : (ℕ → Node) → Option Inputs → ℕ → Option Box
box_with at inputs n = option_map (λ given. box_in at given n) inputs

abbrev pub height_of : Option Box → ℕ
height_of None = 0
height_of (Some box) = margin_height box

abbrev pub steps_of : Option Inputs → ℕ → ℕ
steps_of None count = 0
steps_of (Some inputs) count = count
