-- Which values the properties allow: only insets may be negative, and each length has a bound, which is this project's own choice.
use Rattle.std.specs.Prelude.{ℤ, pos, neg_ℤ, ◌≤ℤ◌, Option, Some, None}
use Rattle.px_units.specs.declared.Length.{Length}
use Rattle.px_units.specs.declared.Length.TheVariants as values
use Rattle.style_values.specs.declared.Style.{Style}
use Rattle.style_values.specs.declared.Declaration.{Declaration}
use Rattle.style_values.specs.declared.Declaration.TheVariants as declaration

-- at most 1,000,000 pixels, in units of 1/64 pixel
abbrev pub IsUnits : ℤ → Type 0
IsUnits units = (pos 0 ≤ℤ units) × (units ≤ℤ pos 64000000)

-- at most 10,000 percent, in hundredths
abbrev pub IsHundredths : ℤ → Type 0
IsHundredths hundredths = (pos 0 ≤ℤ hundredths) × (hundredths ≤ℤ pos 1000000)

-- a length or a percentage
abbrev pub IsSize : Length → Type 0
IsSize values.Auto = ⊥
IsSize (values.Px px) = IsUnits px.0
IsSize (values.Percent percent) = IsHundredths percent.0

-- `auto`, a length or a percentage
abbrev pub IsAutoOrSize : Length → Type 0
IsAutoOrSize values.Auto = Unit {0}
IsAutoOrSize (values.Px px) = IsUnits px.0
IsAutoOrSize (values.Percent percent) = IsHundredths percent.0

-- `none`, a length or a percentage
abbrev pub IsNoneOrSize : Option Length → Type 0
IsNoneOrSize None = Unit {0}
IsNoneOrSize (Some value) = IsSize value

-- `auto`, or a length or a percentage with an optional `-`
abbrev pub IsInset : Length → Type 0
IsInset values.Auto = Unit {0}
IsInset (values.Px px) = (neg_ℤ (pos 64000000) ≤ℤ px.0) × (px.0 ≤ℤ pos 64000000)
IsInset (values.Percent percent) = (neg_ℤ (pos 1000000) ≤ℤ percent.0) × (percent.0 ≤ℤ pos 1000000)

-- whether a declaration has a value that its property allows
abbrev pub IsAllowed : Declaration → Type 0
IsAllowed (declaration.Display value) = Unit {0}
IsAllowed (declaration.Width value) = IsAutoOrSize value
IsAllowed (declaration.Height value) = IsAutoOrSize value
IsAllowed (declaration.MinWidth value) = IsSize value
IsAllowed (declaration.MinHeight value) = IsSize value
IsAllowed (declaration.MaxWidth value) = IsNoneOrSize value
IsAllowed (declaration.MaxHeight value) = IsNoneOrSize value
IsAllowed (declaration.Margin sides value) = IsSize value
IsAllowed (declaration.Padding sides value) = IsSize value
IsAllowed (declaration.Border sides value) = IsUnits value.0
IsAllowed (declaration.BoxSizing value) = Unit {0}
IsAllowed (declaration.Overflow value) = Unit {0}
IsAllowed (declaration.Position value) = Unit {0}
IsAllowed (declaration.Top value) = IsInset value
IsAllowed (declaration.Right value) = IsInset value
IsAllowed (declaration.Bottom value) = IsInset value
IsAllowed (declaration.Left value) = IsInset value

-- whether each property of a style has a value that it allows
pub record IsStyle (style : Style) : Type 0 where
  pub width : IsAutoOrSize style.width
  pub height : IsAutoOrSize style.height
  pub min_width : IsSize style.min_width
  pub min_height : IsSize style.min_height
  pub max_width : IsNoneOrSize style.max_width
  pub max_height : IsNoneOrSize style.max_height
  pub margin_top : IsSize style.margin_top
  pub margin_right : IsSize style.margin_right
  pub margin_bottom : IsSize style.margin_bottom
  pub margin_left : IsSize style.margin_left
  pub padding_top : IsSize style.padding_top
  pub padding_right : IsSize style.padding_right
  pub padding_bottom : IsSize style.padding_bottom
  pub padding_left : IsSize style.padding_left
  pub border_top : IsUnits style.border_top.0
  pub border_right : IsUnits style.border_right.0
  pub border_bottom : IsUnits style.border_bottom.0
  pub border_left : IsUnits style.border_left.0
  pub top : IsInset style.top
  pub right : IsInset style.right
  pub bottom : IsInset style.bottom
  pub left : IsInset style.left
