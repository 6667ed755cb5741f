-- The offset of an element, at the inputs of it and of its parent.
use Rattle.std.proofs.Common.{◌≡◌, ℕ, Some, None, ap, sym, ◌∙◌}
use Rattle.layout_model.specs.Nodes.{Node}
use Rattle.layout_model.specs.Boxes.{Inputs, computed, child_inputs, used_side}
use Rattle.layout_model.specs.Points.{capped}
use Rattle.layout_model.specs.Views.{View, inputs_under, inputs_in_view}
use Rattle.layout_model.specs.FlatPlaces.{margin_corner, height_above, offset_with, offset_in, offset_from, offset_of}
use Rattle.layout_model.proofs.Inputs.{under_view}

pub offset_of_child : (at : ℕ → Node) (view : View) (c p : ℕ) → (at c).parent ≡ Some p → offset_of at view c ≡ offset_in at (at p) (inputs_under at view p) (inputs_under at view c) c
unfolding offset_of
offset_of_child at view c p is = ap (offset_from at view c) is

pub offset_of_top : (at : ℕ → Node) (view : View) (n : ℕ) → (at n).parent ≡ None → offset_of at view n ≡ margin_corner (inputs_under at view n) ((at n).item)
unfolding offset_of
offset_of_top at view n is = ap (offset_from at view n) is

pub offset_found : (at : ℕ → Node) (view : View) (inputs own : Inputs) (c p : ℕ) → (at c).parent ≡ Some p → inputs_in_view at view p ≡ Some inputs → inputs_in_view at view c ≡ Some own → offset_of at view c ≡ offset_with (computed ((at p).item) inputs 0) (height_above at (child_inputs ((at p).item) inputs) (at p) c) own ((at c).item)
offset_found at view inputs own c p is found found_own =
    offset_of_child at view c p is
    ∙ ap (λ i. offset_in at (at p) i (inputs_under at view c) c) (sym (under_view at view inputs p found))
    ∙ ap (λ i. offset_in at (at p) inputs i c) (sym (under_view at view own c found_own))

pub offset_top : (at : ℕ → Node) (view : View) (inputs : Inputs) (n : ℕ) → (at n).parent ≡ None → inputs_in_view at view n ≡ Some inputs → offset_of at view n ≡ capped (used_side (inputs.width) ((at n).item.style.margin.left), used_side (inputs.width) ((at n).item.style.margin.top))
unfolding margin_corner
offset_top at view inputs n is found =
    offset_of_top at view n is ∙ ap (λ i. margin_corner i ((at n).item)) (sym (under_view at view inputs n found))
