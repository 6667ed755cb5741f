-- The reach of the boxes in a node, computed in one walk downwards, if no element in the node is positioned: then each child is
-- placed in its parent, below its earlier siblings.
use Rattle.std.specs.Prelude.{ℕ, zero, suc, ◌+◌, Bool, true, false, List, [], ◌∷◌, ⊤}
use Rattle.layout_model.specs.Items.{Item}
use Rattle.layout_model.specs.Nodes.{Node, levels}
use Rattle.layout_model.specs.Boxes.{Inputs, computed, child_inputs, kids_of, counted, box_in, border_size}
use Rattle.layout_model.specs.Points.{plus, larger}
use Rattle.layout_model.specs.Clips.{clips}
use Rattle.layout_model.specs.FlatPlaces.{offset_with}

-- from the corner of a parent's border box to that of a child's, with a height of `above` taken up by earlier siblings
unfoldable pub offset_at : Item → Inputs → ℕ → Item → ℕ × ℕ
unfolding computed child_inputs
offset_at parent inputs above item = offset_with (computed parent inputs 0) above (child_inputs parent inputs) item

-- the farthest point of children that are stacked from the height `above` on
unfoldable pub far_kids : (ℕ → ℕ) → (ℕ → ℕ → ℕ × ℕ) → ℕ → List ℕ → ℕ × ℕ
far_kids height far above [] = (0, 0)
far_kids height far above (c ∷ cs) = larger (far above c) (far_kids height far (above + height c) cs)

abbrev pub far_if_shown : (Inputs → ℕ × ℕ → ℕ → ℕ × ℕ) → Inputs → (⊤ → ℕ × ℕ) → ℕ → Bool → ℕ × ℕ
far_if_shown far inputs corner c true = (0, 0)
far_if_shown far inputs corner c false = far inputs (corner tt) c

abbrev pub far_inside : (ℕ → Node) → (Inputs → ℕ × ℕ → ℕ → ℕ × ℕ) → Item → Inputs → ℕ × ℕ → Inputs → List ℕ → ℕ × ℕ
far_inside at far parent inputs corner within kids =
    far_kids
    (counted at (box_in at within))
    (λ above c. far_if_shown far within (λ u. plus corner (offset_at parent inputs above ((at c).item))) c ((at c).item.style.hidden))
    0
    kids

abbrev pub open_kids : Bool → List ℕ → List ℕ
open_kids true kids = []
open_kids false kids = kids

-- the farthest right and bottom edges of the border boxes of a node and its descendants, except for those that a box in between
-- clips; `corner` is the corner of the node's border box
unfoldable pub far_down : ℕ → (ℕ → Node) → Inputs → ℕ × ℕ → ℕ → ℕ × ℕ
unfolding box_in child_inputs offset_at counted far_kids
far_down zero at inputs corner n = (0, 0)
far_down (suc deep) at inputs corner n =
    larger
    (plus corner (border_size (box_in at inputs n)))
    (far_inside at (far_down deep at) ((at n).item) inputs corner (child_inputs ((at n).item) inputs) (open_kids (clips (at n)) (kids_of (at n))))

-- the same edges of these children of a node and their descendants; `corner` is the corner of the node's border box
abbrev pub far_in : (ℕ → Node) → ℕ → Inputs → ℕ × ℕ → List ℕ → ℕ × ℕ
far_in at n inputs corner kids = far_inside at (far_down levels at) ((at n).item) inputs corner (child_inputs ((at n).item) inputs) kids
