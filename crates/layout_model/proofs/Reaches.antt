-- No border box that is reached over passes the reach.
use Rattle.std.proofs.Common.{◌≡◌, ◌≤◌, ℕ, ℤ, Option, Some, None, ap, sym, subst, ◌∙◌, refl, arith}
use Rattle.std.proofs.lemmas.Int.{ints}
use Rattle.std.specs.Prelude.{Bool, true, false, not, ◌&&◌, is_some, cond, pos, negsuc, ◌≤ℤ◌, Contains, option_and_then}
use Rattle.px_units.specs.Lengths.{cap, at_least_zero}
use Rattle.layout_model.specs.Nodes.{Node, is_on_screen, IsListed, IsShallow}
use Rattle.layout_model.specs.Boxes.{Inputs, inputs_at, inputs_in, has_box_in, box_in, padding_size}
use Rattle.layout_model.specs.Points.{capped, moved, IsWithin}
use Rattle.layout_model.specs.Views.{View, view_inputs, view_size, inputs_in_view}
use Rattle.layout_model.specs.FlatPlaces.{flat_place, border_corner}
use Rattle.layout_model.specs.Reach.{clipped_by, is_it, tree_in, reached_by, reached_by_view, farthest, reach_at, reach_of, reach_of_view}
use Rattle.layout_model.proofs.Farthest.{kept, is_found}
use Rattle.layout_model.proofs.Orders.{boxed_in_order}

pub reach_is : (at : ℕ → Node) (view : View) (inputs : Inputs) (n : ℕ) → inputs_in_view at view n ≡ Some inputs → reach_of at view n ≡ capped (farthest at view (moved (flat_place at view n) (border_corner ((at n).item))) (padding_size (box_in at inputs n)) (reached_by at view n))
unfolding reach_of
reach_is at view inputs n is = ap (reach_at at view n) is

pub view_is : (at : ℕ → Node) (view : View) → reach_of_view at view ≡ capped (farthest at view (pos 0, pos 0) (view_size view) (reached_by_view at view))
unfolding reach_of_view
view_is at view = refl

cap_order : (a b : ℕ) → a ≤ b → cap a ≤ cap b
cap_order a b low = omega arith

pub capped_order : (a b c : ℕ × ℕ) → IsWithin a b → c ≡ capped b → IsWithin (capped a) c
capped_order a b c low is = subst (λ d. IsWithin (capped a) d) (sym is) (cap_order _ _ (low.0), cap_order _ _ (low.1))

-- who has a box in a viewport's document is in the tree of its root element
pub shown_in_tree : (at : ℕ → Node) → IsListed at → IsShallow at → (view : View) (below : Inputs) (d : ℕ) → inputs_in_view at view d ≡ Some below → Contains (tree_in at (view.root)) d
unfolding inputs_in_view inputs_in
shown_in_tree at listed shallow view below d is = of_root (view.root) is
  where
    boxed : (found : Bool) → cond found (Some (inputs_at at (view_inputs view) d)) None ≡ Some below → found ≡ true
    boxed true is = refl
    boxed false is = cc

    of_root : (found : Option ℕ) → option_and_then (λ root. inputs_in at root (view_inputs view) d) found ≡ Some below → Contains (tree_in at found) d
    of_root None is = cc
    of_root (Some root) is = boxed_in_order at listed root shallow d (boxed (has_box_in at root d) is)

pub reached : (at : ℕ → Node) → IsListed at → IsShallow at → (view : View) (below : Inputs) (n d : ℕ) → inputs_in_view at view d ≡ Some below → clipped_by at d ≡ Some n → Contains (reached_by at view n) d
reached at listed shallow view below n d is clipped =
    kept (λ e. is_it n (clipped_by at e)) (tree_in at (view.root)) d (shown_in_tree at listed shallow view below d is) (is_found n (clipped_by at d) clipped)

pub reached_in_view : (at : ℕ → Node) → IsListed at → IsShallow at → (view : View) (below : Inputs) (d : ℕ) → inputs_in_view at view d ≡ Some below → clipped_by at d ≡ None → is_on_screen at d ≡ false → Contains (reached_by_view at view) d
reached_in_view at listed shallow view below d is clipped off =
    kept
    (λ e. not (is_some (clipped_by at e)) && not (is_on_screen at e))
    (tree_in at (view.root))
    d
    (shown_in_tree at listed shallow view below d is)
    (ap (λ found. not (is_some found) && not (is_on_screen at d)) clipped ∙ ap (λ on. not false && not on) off)

-- the border box's edges, as far as they can be seen from a corner
pub edge_within : (edge reach : ℕ) (z : ℤ) → edge ≡ at_least_zero z → cap edge ≤ reach → z ≤ℤ pos 2147483647 → z ≤ℤ pos reach
edge_within edge reach (pos n) is low small = omega (arith, ints, is, low, small)
edge_within edge reach (negsuc n) is low small = omega (arith, ints)
