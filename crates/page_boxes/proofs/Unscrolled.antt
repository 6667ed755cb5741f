-- How far a viewport is scrolled makes no difference to flat places, boxes and ranges.
use Rattle.std.proofs.Common.{◌≡◌, ℕ, zero, suc, ℤ, List, [], ◌∷◌, Option, Some, None, refl, ap, ◌∙◌}
use Rattle.std.specs.Prelude.{pos, ◌-ℤ◌}
use mathlib.Core.Path.{fun_ext}
use Rattle.px_units.specs.Lengths.{at_least_zero}
use Rattle.layout_model.specs.Nodes.{Node, position_of}
use Rattle.layout_model.specs.Boxes.{Inputs, used_insets, box_in, padding_size, border_size}
use Rattle.layout_model.specs.Clips.{is_scroll_container}
use Rattle.layout_model.specs.Points.{minus, capped, larger, moved}
use Rattle.layout_model.specs.Views.{View, view_size, inputs_under, inputs_in_view}
use Rattle.layout_model.specs.FlatPlaces.{offset_of, border_corner, above_of, flat_by, flat_up, flat_place}
use Rattle.layout_model.specs.Reach.{reached_by, reached_by_view, edges_with, edges_from, farthest, reach_at, reach_of, reach_of_view, range_at, range_of, range_of_view, force_if, offset_in_force}

-- the edges of an area of this size at a place, from a corner on
abbrev pub edges_at : ℤ × ℤ → ℤ × ℤ → ℕ × ℕ → ℕ × ℕ
edges_at corner place size = (at_least_zero ((moved place size).0 -ℤ corner.0), at_least_zero ((moved place size).1 -ℤ corner.1))

module _ (at : ℕ → Node) (view : View) (scrolled : ℕ × ℕ) where
  abbrev moved_view : View
  moved_view = record view { scrolled = scrolled }

  offset_same : (n : ℕ) → offset_of at moved_view n ≡ offset_of at view n
  unfolding offset_of
  offset_same n = refl

  abbrev placed : (ℕ → ℤ × ℤ) → ℕ → ℕ × ℕ → ℤ × ℤ
  placed flat n offset =
      flat_by at flat n (inputs_under at view n) (used_insets ((at n).item.style.inset) (inputs_under at view n)) (moved (above_of flat (at n).parent) offset)
      (position_of (at n))

  flat_same_up : (high : ℕ) → flat_up high at moved_view ≡ flat_up high at view
  unfolding flat_up
  flat_same_up zero = fun_ext (λ n. refl)
  flat_same_up (suc high) =
      fun_ext
      (λ n.
      ap (λ flat. placed flat n (offset_of at moved_view n)) (flat_same_up high) ∙ ap (placed (flat_up high at view) n) (offset_same n))

  pub flat_same : (n : ℕ) → flat_place at moved_view n ≡ flat_place at view n
  unfolding flat_place
  flat_same n = ap (λ flat. flat n) (flat_same_up 65536)

  inputs_same : (n : ℕ) → inputs_in_view at moved_view n ≡ inputs_in_view at view n
  unfolding inputs_in_view
  inputs_same n = refl

  edges_by : (corner : ℤ × ℤ) (n : ℕ) (found : Option Inputs) → edges_with at moved_view corner n found ≡ edges_with at view corner n found
  edges_by corner n None = refl
  edges_by corner n (Some inputs) = ap (λ place. edges_at corner place (border_size (box_in at inputs n))) (flat_same n)

  edges_same : (corner : ℤ × ℤ) (n : ℕ) → edges_from at moved_view corner n ≡ edges_from at view corner n
  edges_same corner n = edges_by corner n (inputs_in_view at moved_view n) ∙ ap (edges_with at view corner n) (inputs_same n)

  far_same : (corner : ℤ × ℤ) (size : ℕ × ℕ) (ns : List ℕ) → farthest at moved_view corner size ns ≡ farthest at view corner size ns
  unfolding farthest
  far_same corner size [] = refl
  far_same corner size (n ∷ ns) =
      ap (λ edges. larger edges (farthest at moved_view corner size ns)) (edges_same corner n) ∙ ap (larger (edges_from at view corner n)) (far_same corner size ns)

  reach_by : (n : ℕ) (found : Option Inputs) → reach_at at moved_view n found ≡ reach_at at view n found
  reach_by n None = refl
  reach_by n (Some inputs) =
      ap (λ place. capped (farthest at moved_view (moved place (border_corner (at n).item)) (padding_size (box_in at inputs n)) (reached_by at view n))) (flat_same n)
      ∙ ap capped (far_same (moved (flat_place at view n) (border_corner (at n).item)) (padding_size (box_in at inputs n)) (reached_by at view n))

  reach_same : (n : ℕ) → reach_of at moved_view n ≡ reach_of at view n
  unfolding reach_of
  reach_same n = reach_by n (inputs_in_view at moved_view n) ∙ ap (reach_at at view n) (inputs_same n)

  range_by : (n : ℕ) (found : Option Inputs) → range_at at moved_view n found ≡ range_at at view n found
  range_by n None = refl
  range_by n (Some inputs) = ap (λ reach. minus reach (padding_size (box_in at inputs n))) (reach_same n)

  range_same : (n : ℕ) → range_of at moved_view n ≡ range_of at view n
  unfolding range_of
  range_same n = range_by n (inputs_in_view at moved_view n) ∙ ap (range_at at view n) (inputs_same n)

  pub force_same : (stored : ℕ → ℕ × ℕ) → offset_in_force at stored moved_view ≡ offset_in_force at stored view
  unfolding offset_in_force
  force_same stored = fun_ext (λ n. ap (λ range. force_if (is_scroll_container (at n)) (stored n) (λ u. range)) (range_same n))

  pub view_range_same : range_of_view at moved_view ≡ range_of_view at view
  unfolding range_of_view reach_of_view
  view_range_same = ap (λ reach. minus (capped reach) (view_size view)) (far_same (pos 0, pos 0) (view_size view) (reached_by_view at view))
