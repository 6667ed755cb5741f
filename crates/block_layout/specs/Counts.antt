-- How many boxes there are.
use Rattle.std.specs.Prelude.{ℕ, zero, suc, Bool, true, false, sum_by}
use Rattle.layout_model.specs.Nodes.{Node, levels}
use Rattle.layout_model.specs.Boxes.{kids_of, is_passed}

abbrev pub if_displayed : Bool → ℕ → ℕ
if_displayed true count = 0
if_displayed false count = count

unfoldable pub boxes_down : ℕ → (ℕ → Node) → ℕ → ℕ
boxes_down zero at n = 1
boxes_down (suc deep) at n = suc (sum_by (λ c. if_displayed (is_passed (at c)) (boxes_down deep at c)) (kids_of (at n)))

-- the box of a node and all boxes in flow in it (CSS 2.2, 9.2.1 and 9.3)
unfoldable pub box_count : (ℕ → Node) → ℕ → ℕ
unfolding boxes_down
box_count at n = boxes_down levels at n
