-- What a node hands down to a child in flow, and what a viewport does to the root element.
use Rattle.std.proofs.Common.{◌≡◌, ℕ, Bool, true, false, cond, nat_eq, Option, Some, None, refl, ap, sym, ◌∙◌, arith, eqb-true}
use Rattle.std.proofs.lemmas.Bool.Decides.{nat_tests}
use Rattle.std.specs.Prelude.{◌&&◌, ◌||◌, not, option_and_then}
use Rattle.layout_model.specs.Items.{Item, Kind, BlockKind, ImageKind, FrameKind}
use Rattle.layout_model.specs.Clips.{is_block}
use Rattle.layout_model.specs.Nodes.{Node, is_in_path, is_in_flow, IsShallow}
use Rattle.layout_model.specs.Boxes.{Inputs, child_inputs, inputs_at, has_box_in, inputs_in}
use Rattle.layout_model.specs.Views.{View, view_inputs, inputs_in_view}
use Rattle.layout_model.proofs.Ancestors.{in_self, in_child, above_in}
use Rattle.layout_model.proofs.Inputs.{box_child, box_top, inputs_of_child, inputs_of_top, in_view}
use Rattle.layout_model.proofs.Unpositioned.{in_flow_unpositioned}
use Rattle.block_layout.specs.Filling.{IsUnpositioned, GoesDown, inputs_if_block, if_shown}

both : (hidden : Bool) (kind : Kind) (item : Item) (boxed : Bool) (above : Inputs)
    → cond (not hidden && (is_block kind && boxed)) (Some (child_inputs item above)) None ≡ if_shown hidden (inputs_if_block kind item (cond boxed (Some above) None))
both true kind item boxed above = refl
both false BlockKind item true above = refl
both false BlockKind item false above = refl
both false (ImageKind width height) item boxed above = refl
both false FrameKind item boxed above = refl

pub none_handed : (hidden : Bool) (kind : Kind) (item : Item) → None ≡ if_shown hidden (inputs_if_block kind item None)
none_handed true kind item = refl
none_handed false BlockKind item = refl
none_handed false (ImageKind width height) item = refl
none_handed false FrameKind item = refl

shown_root : (hidden : Bool) (viewport : Inputs) → cond (not hidden && true) (Some viewport) None ≡ if_shown hidden (Some viewport)
shown_root true viewport = refl
shown_root false viewport = refl

-- a root element has the viewport's inputs
pub root_inputs : (at : ℕ → Node) (root : ℕ) (viewport : Inputs) → viewport.flow ≡ true → (at root).parent ≡ None → inputs_in at root viewport root ≡ if_shown ((at root).item.style.hidden) (Some viewport)
unfolding inputs_in
root_inputs at root viewport flow top =
    let itself : nat_eq root root ≡ true = grind (arith, nat_tests) in
    ap (λ boxed. cond boxed (Some (inputs_at at viewport root)) None) (box_top at root root top ∙ ap (λ b. not ((at root).item.style.hidden) && b) itself)
    ∙ ap (λ (own : Inputs). cond (not ((at root).item.style.hidden) && true) (Some own) None) (inputs_of_top at viewport root top ∙ ap (λ b. let own : Inputs = record viewport { flow = b } in own) (sym flow))
    ∙ shown_root ((at root).item.style.hidden) viewport

pub view_top : (at : ℕ → Node) (document : View) (root : ℕ) → document.root ≡ Some root → (at root).parent ≡ None → (at root).item.style.hidden ≡ false → inputs_in_view at document root ≡ Some (view_inputs document)
view_top at document root is top shown =
    in_view at document root root is ∙ root_inputs at root (view_inputs document) refl top ∙ ap (λ hidden. if_shown hidden (Some (view_inputs document))) shown

module _ (at : ℕ → Node) (shallow : IsShallow at) where
  pub inputs_down : (root : ℕ) (viewport : Inputs) (c p : ℕ) → (at c).parent ≡ Some p → is_in_flow (at c) ≡ true
      → inputs_in at root viewport c ≡ if_shown ((at c).item.style.hidden) (inputs_if_block ((at p).item.kind) ((at p).item) (inputs_in at root viewport p))
  unfolding inputs_in
  inputs_down root viewport c p up flow =
      ap (λ boxed. cond boxed (Some (inputs_at at viewport c)) None) (box_child at root c p up (shallow p))
      ∙ ap (λ own. cond (not ((at c).item.style.hidden) && (is_block ((at p).item.kind) && has_box_in at root p)) (Some own) None) (inputs_of_child at shallow viewport c p up flow)
      ∙ both ((at c).item.style.hidden) ((at p).item.kind) ((at p).item) (has_box_in at root p) (inputs_at at viewport p)

  pub view_down : (document : View) (c p : ℕ) → (at c).parent ≡ Some p → is_in_flow (at c) ≡ true
      → inputs_in_view at document c ≡ if_shown ((at c).item.style.hidden) (inputs_if_block ((at p).item.kind) ((at p).item) (inputs_in_view at document p))
  unfolding inputs_in_view
  view_down document c p up flow = of_root (document.root)
    where
      of_root : (found : Option ℕ) → option_and_then (λ root. inputs_in at root (view_inputs document) c) found
          ≡ if_shown ((at c).item.style.hidden) (inputs_if_block ((at p).item.kind) ((at p).item) (option_and_then (λ root. inputs_in at root (view_inputs document) p) found))
      of_root None = none_handed ((at c).item.style.hidden) ((at p).item.kind) ((at p).item)
      of_root (Some root) = inputs_down root (view_inputs document) c p up flow

-- the inputs of what is in a root element's tree, none elsewhere
abbrev pub wanted_inputs : (ℕ → Node) → ℕ → Inputs → ℕ → Option Inputs
wanted_inputs at root viewport n = cond (is_in_path at root n) (inputs_in at root viewport n) None

pub wanted_at_root : (at : ℕ → Node) (root : ℕ) (viewport : Inputs) → viewport.flow ≡ true → (at root).parent ≡ None → wanted_inputs at root viewport root ≡ if_shown ((at root).item.style.hidden) (Some viewport)
wanted_at_root at root viewport flow top = ap (λ under. cond under (inputs_in at root viewport root) None) (in_self at root) ∙ root_inputs at root viewport flow top

-- where no element in the tree is positioned, they go down
module _ (at : ℕ → Node) (shallow : IsShallow at) (root : ℕ) (viewport : Inputs) (still : IsUnpositioned at root) (top : (at root).parent ≡ None) where
  not_root : (c p : ℕ) → (at c).parent ≡ Some p → (same : Bool) → nat_eq root c ≡ same → (same || false) ≡ false
  not_root c p up true is = let e : root ≡ c = eqb-true root c is in let both : None ≡ Some p = sym top ∙ ap (λ m. (at m).parent) e ∙ up in cc
  not_root c p up false is = refl

  pub wanted_down : (depth : ℕ) → GoesDown at depth (wanted_inputs at root viewport)
  wanted_down depth c p up far = by_tree (is_in_path at root p) refl
    where
      by_tree : (under : Bool) → is_in_path at root p ≡ under
          → wanted_inputs at root viewport c ≡ if_shown ((at c).item.style.hidden) (inputs_if_block ((at p).item.kind) ((at p).item) (wanted_inputs at root viewport p))
      by_tree true is =
          let inside : is_in_path at root c ≡ true = above_in at shallow root c p up is in
          ap (λ under. cond under (inputs_in at root viewport c) None) inside
          ∙ inputs_down at shallow root viewport c p up (in_flow_unpositioned at c (still c inside))
          ∙ sym (ap (λ under. if_shown ((at c).item.style.hidden) (inputs_if_block ((at p).item.kind) ((at p).item) (cond under (inputs_in at root viewport p) None))) is)
      by_tree false is =
          ap
          (λ under. cond under (inputs_in at root viewport c) None)
          (in_child at shallow root c p up ∙ ap (λ under. nat_eq root c || under) is ∙ not_root c p up (nat_eq root c) refl)
          ∙ none_handed ((at c).item.style.hidden) ((at p).item.kind) ((at p).item)
          ∙ sym (ap (λ under. if_shown ((at c).item.style.hidden) (inputs_if_block ((at p).item.kind) ((at p).item) (cond under (inputs_in at root viewport p) None))) is)
