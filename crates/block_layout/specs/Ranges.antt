-- The results of layout are bounded by the largest length.
use Rattle.std.specs.Prelude.{ℕ, ◌≤◌, ℤ, pos, ◌≤ℤ◌, IfSome}
use Rattle.layout_model.specs.Styles.{Sides}
use Rattle.layout_model.specs.Boxes.{Box}
use Rattle.block_layout.specs.declared.Inputs.{Inputs}

-- from 0 to the largest length
abbrev pub IsLength : ℤ → Type 0
IsLength units = (pos 0 ≤ℤ units) × (units ≤ℤ pos 2147483647)

pub record IsInputs (inputs : Inputs) : Type 0 where
  pub wide : pos 0 ≤ℤ inputs.width
  pub narrow : inputs.width ≤ℤ pos 2147483647
  pub tall : IfSome inputs.height (λ height. pos 0 ≤ℤ height)
  pub low : IfSome inputs.height (λ height. height ≤ℤ pos 2147483647)

pub record IsSides (sides : Sides ℕ) : Type 0 where
  pub top : sides.top ≤ 2147483647
  pub right : sides.right ≤ 2147483647
  pub bottom : sides.bottom ≤ 2147483647
  pub left : sides.left ≤ 2147483647

pub record IsBox (box : Box) : Type 0 where
  pub width : box.width ≤ 2147483647
  pub height : box.height ≤ 2147483647
  pub margin : IsSides box.margin
  pub border : IsSides box.border
  pub padding : IsSides box.padding
