-- The places of boxes in their document's viewport (CSS 2.2, 8.1, 9.4 and 10.1; CSSOM View: scrolling area). All numbers are units of
-- 1/64 pixel, x to the right and y downwards.
use Rattle.std.specs.Prelude.{ℕ, Bool, true, false, ℤ}
use Rattle.layout_model.specs.Nodes.{Node, holders_of, is_on_screen}
use Rattle.layout_model.specs.Points.{plus, moved_back, sum_points}
use Rattle.layout_model.specs.Views.{View}
use Rattle.layout_model.specs.FlatPlaces.{flat_place}
use Rattle.layout_model.specs.Reach.{offset_in_force, view_in_force}

-- the viewport's scroll offset, which doesn't move what the screen holds
abbrev pub view_scroll : (ℕ → Node) → View → Bool → ℕ × ℕ
view_scroll at view true = (0, 0)
view_scroll at view false = view_in_force at view

-- the place of a node's border box in its document's viewport: its flat place, less the scroll offsets in force of the elements
-- that hold it and of the viewport
unfoldable pub place_in : (ℕ → Node) → (ℕ → ℕ × ℕ) → View → ℕ → ℤ × ℤ
unfolding flat_place offset_in_force view_in_force holders_of is_on_screen sum_points
place_in at stored view n =
    moved_back
    (flat_place at view n)
    (plus (sum_points (offset_in_force at stored view) (holders_of at n)) (view_scroll at view (is_on_screen at n)))
