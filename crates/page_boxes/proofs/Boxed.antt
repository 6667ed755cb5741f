-- Whether a node has a box, by its parent.
use Rattle.std.proofs.Common.{◌≡◌, ◌≤◌, ℕ, Bool, true, false, Option, Some, None, refl, ap, sym, ◌∙◌, nat_eq, arith}
use Rattle.std.proofs.lemmas.Bool.Decides.{nat_tests}
use Rattle.std.specs.Prelude.{◌&&◌, not, is_some, option_and_then}
use Rattle.layout_model.specs.Nodes.{Node, levels, depth_of}
use Rattle.layout_model.specs.Boxes.{Inputs, has_box_in, inputs_in}
use Rattle.layout_model.specs.Clips.{is_block}
use Rattle.layout_model.specs.Views.{View, view_inputs, inputs_in_view}
use Rattle.layout_model.proofs.Inputs.{box_child, box_top, is_some_inputs}
use Rattle.page_model.specs.Documents.{is_number}

abbrev pub found_in : (ℕ → Node) → Inputs → ℕ → Option ℕ → Option Inputs
found_in at viewport n root = option_and_then (λ r. inputs_in at r viewport n) root

pub found_is : (at : ℕ → Node) (view : View) (n : ℕ) → inputs_in_view at view n ≡ found_in at (view_inputs view) n (view.root)
unfolding inputs_in_view
found_is at view n = refl

none_of_three : (hidden block : Bool) → false ≡ (not hidden && block && false)
none_of_three true block = refl
none_of_three false true = refl
none_of_three false false = refl

regroup : (shown block boxed : Bool) → (shown && (block && boxed)) ≡ (shown && block && boxed)
regroup true block boxed = refl
regroup false block boxed = refl

none_of_two : (hidden : Bool) → false ≡ (not hidden && false)
none_of_two true = refl
none_of_two false = refl

module _ (at : ℕ → Node) (viewport : Inputs) where
  found_child : (root : Option ℕ) (c p : ℕ) → (at c).parent ≡ Some p → depth_of at p ≤ levels
      → is_some (found_in at viewport c root) ≡ (not (at c).item.style.hidden && is_block (at p).item.kind && is_some (found_in at viewport p root))
  found_child None c p is short = none_of_three (at c).item.style.hidden (is_block (at p).item.kind)
  found_child (Some r) c p is short =
      is_some_inputs at r viewport c ∙ box_child at r c p is short
      ∙ regroup (not (at c).item.style.hidden) (is_block (at p).item.kind) (has_box_in at r p)
      ∙ ap (λ b. not (at c).item.style.hidden && is_block (at p).item.kind && b) (sym (is_some_inputs at r viewport p))

  found_top : (root : Option ℕ) (n : ℕ) → (at n).parent ≡ None → is_some (found_in at viewport n root) ≡ (not (at n).item.style.hidden && is_number root n)
  found_top None n is = none_of_two (at n).item.style.hidden
  found_top (Some r) n is =
      let turned : nat_eq n r ≡ nat_eq r n = grind (arith, nat_tests) in
      is_some_inputs at r viewport n ∙ box_top at r n is ∙ ap (λ b. not (at n).item.style.hidden && b) turned

module _ (at : ℕ → Node) (view : View) where
  pub boxed_below : (c p : ℕ) → (at c).parent ≡ Some p → depth_of at p ≤ levels
      → is_some (inputs_in_view at view c) ≡ (not (at c).item.style.hidden && is_block (at p).item.kind && is_some (inputs_in_view at view p))
  boxed_below c p is short =
      ap is_some (found_is at view c) ∙ found_child at (view_inputs view) view.root c p is short
      ∙ ap (λ found. not (at c).item.style.hidden && is_block (at p).item.kind && is_some found) (sym (found_is at view p))

  pub boxed_top : (n : ℕ) → (at n).parent ≡ None → is_some (inputs_in_view at view n) ≡ (not (at n).item.style.hidden && is_number view.root n)
  boxed_top n is = ap is_some (found_is at view n) ∙ found_top at (view_inputs view) view.root n is

  module _ (c p : ℕ) (is : (at c).parent ≡ Some p) (short : depth_of at p ≤ levels) (part : Bool)
      (says : part ≡ (not (at c).item.style.hidden && is_block (at p).item.kind)) where
    pub boxed_stops : part ≡ false → is_some (inputs_in_view at view c) ≡ false
    boxed_stops no_part = boxed_below c p is short ∙ ap (λ b. b && is_some (inputs_in_view at view p)) (sym says ∙ no_part)

    pub boxed_goes : part ≡ true → is_some (inputs_in_view at view p) ≡ is_some (inputs_in_view at view c)
    boxed_goes takes_part = sym (boxed_below c p is short ∙ ap (λ b. b && is_some (inputs_in_view at view p)) (sym says ∙ takes_part))
