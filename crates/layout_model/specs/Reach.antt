-- How far the scrollable overflow of a scroll container or a viewport reaches, and its scroll offset (CSS Overflow 3, 2.2: scrollable
-- overflow; CSSOM View: scrolling area). All numbers are units of 1/64 pixel.
use Rattle.std.specs.Prelude.{ℕ, zero, suc, Bool, true, false, not, ◌&&◌, ◌==◌, is_some, Option, Some, None, List, [], ◌∷◌, filter, find, ⊤, ℤ, pos, ◌-ℤ◌}
use Rattle.px_units.specs.Lengths.{at_least_zero}
use Rattle.layout_model.specs.Nodes.{Node, tree_order, holders_of, is_on_screen}
use Rattle.layout_model.specs.Boxes.{Inputs, box_in, padding_size, border_size}
use Rattle.layout_model.specs.Views.{View, view_size, inputs_in_view}
use Rattle.layout_model.specs.FlatPlaces.{flat_place, border_corner}
use Rattle.layout_model.specs.Points.{minus, capped, larger, lesser, moved}
use Rattle.layout_model.specs.Clips.{clips, is_scroll_container}

-- among the elements that hold a node's box, the nearest one that clips its content
unfoldable pub clipped_by : (ℕ → Node) → ℕ → Option ℕ
unfolding holders_of
clipped_by at n = find (λ h. clips (at h)) (holders_of at n)

abbrev pub is_it : ℕ → Option ℕ → Bool
is_it n None = false
is_it n (Some m) = m == n

abbrev pub tree_in : (ℕ → Node) → Option ℕ → List ℕ
tree_in at None = []
tree_in at (Some root) = tree_order at root

-- the elements that count for the reach of a scroll container: those whose boxes it holds with no clipping box in between
abbrev pub reached_by : (ℕ → Node) → View → ℕ → List ℕ
reached_by at view n = filter (λ d. is_it n (clipped_by at d)) (tree_in at (view.root))

-- those that count for the reach of a viewport: no box clips them, and the page holds them, not the screen
abbrev pub reached_by_view : (ℕ → Node) → View → List ℕ
reached_by_view at view = filter (λ d. not (is_some (clipped_by at d)) && not (is_on_screen at d)) (tree_in at (view.root))

-- the right and bottom edges of a border box, relative to a corner, and at least 0; (0, 0) without a box
abbrev pub edges_with : (ℕ → Node) → View → ℤ × ℤ → ℕ → Option Inputs → ℕ × ℕ
edges_with at view corner n None = (0, 0)
edges_with at view corner n (Some inputs) =
    let edges = moved (flat_place at view n) (border_size (box_in at inputs n)) in
    (at_least_zero (edges.0 -ℤ corner.0), at_least_zero (edges.1 -ℤ corner.1))

abbrev pub edges_from : (ℕ → Node) → View → ℤ × ℤ → ℕ → ℕ × ℕ
edges_from at view corner n = edges_with at view corner n (inputs_in_view at view n)

-- the farthest right and bottom edges of these boxes and of an area of this size at the corner
unfoldable pub farthest : (ℕ → Node) → View → ℤ × ℤ → ℕ × ℕ → List ℕ → ℕ × ℕ
unfolding inputs_in_view box_in flat_place
farthest at view corner size [] = size
farthest at view corner size (n ∷ ns) = larger (edges_from at view corner n) (farthest at view corner size ns)

abbrev pub reach_at : (ℕ → Node) → View → ℕ → Option Inputs → ℕ × ℕ
reach_at at view n None = (0, 0)
reach_at at view n (Some inputs) =
    capped
    (farthest
    at
    view
    (moved (flat_place at view n) (border_corner ((at n).item)))
    (padding_size (box_in at inputs n))
    (reached_by at view n))

-- how far a scroll container reaches, from the corner of its padding box, with all scroll offsets taken as 0. Without a box there is no
-- scroll container, so the (0, 0) is never used. The cap is a bound of this project
unfoldable pub reach_of : (ℕ → Node) → View → ℕ → ℕ × ℕ
unfolding inputs_in_view box_in flat_place farthest clipped_by tree_order
reach_of at view n = reach_at at view n (inputs_in_view at view n)

-- how far a viewport reaches
unfoldable pub reach_of_view : (ℕ → Node) → View → ℕ × ℕ
unfolding farthest clipped_by tree_order is_on_screen
reach_of_view at view = capped (farthest at view (pos 0, pos 0) (view_size view) (reached_by_view at view))

abbrev pub range_at : (ℕ → Node) → View → ℕ → Option Inputs → ℕ × ℕ
range_at at view n None = (0, 0)
range_at at view n (Some inputs) = minus (reach_of at view n) (padding_size (box_in at inputs n))

-- the greatest scroll offset
unfoldable pub range_of : (ℕ → Node) → View → ℕ → ℕ × ℕ
unfolding reach_of inputs_in_view box_in
range_of at view n = range_at at view n (inputs_in_view at view n)

unfoldable pub range_of_view : (ℕ → Node) → View → ℕ × ℕ
unfolding reach_of_view
range_of_view at view = minus (reach_of_view at view) (view_size view)

-- the smaller of a stored position and a range on each axis. If the stored position is (0, 0), the range isn't computed
abbrev pub in_force : ℕ → ℕ → (⊤ → ℕ × ℕ) → ℕ × ℕ
in_force zero zero range = (0, 0)
in_force zero (suc y) range = lesser (0, suc y) (range tt)
in_force (suc x) y range = lesser (suc x, y) (range tt)

abbrev pub force_if : Bool → ℕ × ℕ → (⊤ → ℕ × ℕ) → ℕ × ℕ
force_if true stored range = in_force (stored.0) (stored.1) range
force_if false stored range = (0, 0)

-- the scroll offset in force: nothing scrolls in a box that isn't a scroll container
unfoldable pub offset_in_force : (ℕ → Node) → (ℕ → ℕ × ℕ) → View → ℕ → ℕ × ℕ
unfolding range_of
offset_in_force at stored view n = force_if (is_scroll_container (at n)) (stored n) (λ u. range_of at view n)

unfoldable pub view_in_force : (ℕ → Node) → View → ℕ × ℕ
unfolding range_of_view
view_in_force at view = in_force (view.scrolled.0) (view.scrolled.1) (λ u. range_of_view at view)
