-- The parts of a box, and of the inputs that a box hands down.
use Rattle.std.proofs.Common.{◌≡◌, ◌≤◌, ℕ, ℤ, pos, arith, Bool, true, false, cond, Option, Some, None, option_map, refl, ap, ◌∙◌}
use Rattle.std.proofs.lemmas.Int.{to_z_pos}
use Rattle.std.specs.Prelude.{unsigned_abs}
use mir.Val.{of_z, to_z}
use mir.Syntax.{w64}
use Rattle.px_units.specs.Lengths.{cap}
use Rattle.layout_model.specs.Styles.{Style, Sides}
use Rattle.layout_model.specs.Items.{Item, Kind}
use Rattle.layout_model.specs.Boxes.{Inputs, Box, computed, child_inputs, box_with, used_width, used_height, used_side, on_sides, has_definite_height, inputs_inside}

module _ (item : Item) (inputs : Inputs) (inside : ℕ) where
  pub box_is : (width height : ℕ) (margin border padding : Sides ℕ)
      → width ≡ used_width item inputs margin border padding → height ≡ used_height item inputs inside margin border padding
      → margin ≡ on_sides (used_side (inputs.width)) (item.style.margin) → border ≡ on_sides cap (item.style.border)
      → padding ≡ on_sides (used_side (inputs.width)) (item.style.padding)
      → record { width = width; height = height; margin = margin; border = border; padding = padding } ≡ computed item inputs inside
  unfolding computed
  box_is width height margin border padding wide tall m b p =
      ap (λ w. let box : Box = record { width = w; height = height; margin = margin; border = border; padding = padding } in box) wide
      ∙ ap (λ h. let box : Box = record { width = used_width item inputs margin border padding; height = h; margin = margin; border = border; padding = padding } in box) tall
      ∙ ap (λ sides. box_with item inputs inside sides border padding) m
      ∙ ap (λ sides. box_with item inputs inside (on_sides (used_side (inputs.width)) (item.style.margin)) sides padding) b
      ∙ ap (λ sides. box_with item inputs inside (on_sides (used_side (inputs.width)) (item.style.margin)) (on_sides cap (item.style.border)) sides) p

pub inputs_are : (item : Item) (inputs : Inputs) (box : Box) → box ≡ computed item inputs 0
    → record { width = box.width; height = cond (has_definite_height item inputs) (Some (box.height)) None; flow = true } ≡ child_inputs item inputs
unfolding child_inputs
inputs_are item inputs box is = ap (inputs_inside item inputs) is

pub item_same : (style other : Style) (kind like : Kind) → style ≡ other → kind ≡ like → ◌≡◌ {A = Item} (record { style = style; kind = kind }) (record { style = other; kind = like })
item_same style other kind like first second =
    ap (λ s. let item : Item = record { style = s; kind = kind } in item) first ∙ ap (λ k. let item : Item = record { style = other; kind = k } in item) second

pub inputs_with : (width wide : ℕ) (height tall : Option ℕ) → width ≡ wide → height ≡ tall
    → ◌≡◌ {A = Inputs} (record { width = width; height = height; flow = true }) (record { width = wide; height = tall; flow = true })
inputs_with width wide height tall first second =
    ap (λ w. let inputs : Inputs = record { width = w; height = height; flow = true } in inputs) first
    ∙ ap (λ h. let inputs : Inputs = record { width = wide; height = h; flow = true } in inputs) second

-- a length that was given a sign and loses it again
pub unsigned_again : (given : ℤ) (units : ℕ) → units ≤ 2147483647 → given ≡ pos units → unsigned_abs (to_z w64 (of_z w64 given)) ≡ units
unsigned_again given units low is = ap (λ z. unsigned_abs (to_z w64 (of_z w64 z))) is ∙ ap unsigned_abs (to_z_pos w64 units (omega arith))

pub unsigned_if : (definite : Bool) (units : ℕ) → option_map unsigned_abs (cond definite (Some (pos units)) None) ≡ cond definite (Some units) None
unsigned_if true units = refl
unsigned_if false units = refl

pub unsigned_of : (units : ℕ) → units ≤ 2147483647 → unsigned_abs (to_z w64 units) ≡ units
unsigned_of units low = ap unsigned_abs (to_z_pos w64 units (omega arith))
