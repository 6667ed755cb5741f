-- Places that hold the boxes of nodes, by the nodes' numbers.
use Rattle.std.specs.Prelude.{◌≡◌, ℕ, suc, ◌-◌, ◌++◌, true, List, length, Option, Some, None, slice_get, replicate}
use Rattle.layout_model.specs.Nodes.{Node, is_in_path}
use Rattle.layout_model.specs.Boxes.{Inputs, Box, box_in}
use Rattle.layout_model.specs.Views.{View, inputs_in_view}

abbrev pub box_in_place : Option (Option Box) → Option Box
box_in_place None = None
box_in_place (Some place) = place

-- the box that is held for a node: none if it has no place, or its place holds none
abbrev pub held_in : List (Option Box) → ℕ → Option Box
held_in places n = box_in_place (slice_get places n)

-- the places extended by empty ones up to that of a node
abbrev pub with_place : ℕ → List (Option Box) → List (Option Box)
with_place n places = places ++ replicate (suc n - length places) None

-- each box that a node or a descendant of it has in the view of a document is held
abbrev pub HoldsBoxes : (ℕ → Node) → View → ℕ → (ℕ → Option Box) → Type 0
HoldsBoxes at view n held = (d : ℕ) (inputs : Inputs) → is_in_path at n d ≡ true → inputs_in_view at view d ≡ Some inputs → held d ≡ Some (box_in at inputs d)
