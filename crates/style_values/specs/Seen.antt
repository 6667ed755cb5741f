-- What this crate's types stand for in the definitions of styles.
use Rattle.std.specs.Prelude.{Bool, true, false, option_map, unsigned_abs}
use Rattle.px_units.specs.Lengths.{seen_length, seen_inset}
use Rattle.layout_model.specs.Styles.{Style as StyleModel, Declaration as DeclarationModel, BoxSizing as BoxSizingModel, Overflow as OverflowModel, Position as PositionModel, StaticPosition, RelativePosition, AbsolutePosition, FixedPosition, ContentBox, BorderBox, OverflowVisible, OverflowHidden, OverflowClip, OverflowScroll, OverflowAuto, Side, TopSide, RightSide, BottomSide, LeftSide, AllSides, SetDisplay, SetWidth, SetHeight, SetMinWidth, SetMinHeight, SetMaxWidth, SetMaxHeight, SetMargin, SetPadding, SetBorder, SetBoxSizing, SetOverflow, SetPosition, SetTop, SetRight, SetBottom, SetLeft}
use Rattle.script_model.specs.Syntax.{Dimension, WidthDimension, HeightDimension}
use Rattle.style_values.specs.declared.Axis.{Axis}
use Rattle.style_values.specs.declared.Axis.TheVariants as axis
use Rattle.style_values.specs.declared.Display.{Display}
use Rattle.style_values.specs.declared.Display.TheVariants as display
use Rattle.style_values.specs.declared.BoxSizing.{BoxSizing}
use Rattle.style_values.specs.declared.BoxSizing.TheVariants as box_sizing
use Rattle.style_values.specs.declared.Overflow.{Overflow}
use Rattle.style_values.specs.declared.Overflow.TheVariants as overflow
use Rattle.style_values.specs.declared.Position.{Position}
use Rattle.style_values.specs.declared.Position.TheVariants as position
use Rattle.style_values.specs.declared.Sides.{Sides}
use Rattle.style_values.specs.declared.Sides.TheVariants.{Top, Right, Bottom, Left, All}
use Rattle.style_values.specs.declared.Style.{Style}
use Rattle.style_values.specs.declared.Declaration.{Declaration}
use Rattle.style_values.specs.declared.Declaration.TheVariants as declaration

-- whether an element of this display has no box
abbrev pub seen_display : Display → Bool
seen_display display.Block = false
seen_display display.Hidden = true

abbrev pub seen_box_sizing : BoxSizing → BoxSizingModel
seen_box_sizing box_sizing.Content = ContentBox
seen_box_sizing box_sizing.Border = BorderBox

abbrev pub seen_overflow : Overflow → OverflowModel
seen_overflow overflow.Visible = OverflowVisible
seen_overflow overflow.Hidden = OverflowHidden
seen_overflow overflow.Clip = OverflowClip
seen_overflow overflow.Scroll = OverflowScroll
seen_overflow overflow.Auto = OverflowAuto

abbrev pub seen_axis : Axis → Dimension
seen_axis axis.Width = WidthDimension
seen_axis axis.Height = HeightDimension

abbrev pub seen_position : Position → PositionModel
seen_position position.Static = StaticPosition
seen_position position.Relative = RelativePosition
seen_position position.Absolute = AbsolutePosition
seen_position position.Fixed = FixedPosition

abbrev pub seen_sides : Sides → Side
seen_sides Top = TopSide
seen_sides Right = RightSide
seen_sides Bottom = BottomSide
seen_sides Left = LeftSide
seen_sides All = AllSides

-- lengths except insets are given by their absolute values; specs/Ranges.antt says that none of them is negative
abbrev pub seen_style : Style → StyleModel
seen_style style = record {
  hidden = seen_display style.display;
  width = seen_length style.width;
  height = seen_length style.height;
  min_width = seen_length style.min_width;
  min_height = seen_length style.min_height;
  max_width = option_map seen_length style.max_width;
  max_height = option_map seen_length style.max_height;
  margin = record { top = seen_length style.margin_top; right = seen_length style.margin_right; bottom = seen_length style.margin_bottom; left = seen_length style.margin_left };
  padding = record { top = seen_length style.padding_top; right = seen_length style.padding_right; bottom = seen_length style.padding_bottom; left = seen_length style.padding_left };
  border = record { top = unsigned_abs style.border_top.0; right = unsigned_abs style.border_right.0; bottom = unsigned_abs style.border_bottom.0; left = unsigned_abs style.border_left.0 };
  box_sizing = seen_box_sizing style.box_sizing;
  overflow = seen_overflow style.overflow;
  position = seen_position style.position;
  inset = record { top = seen_inset style.top; right = seen_inset style.right; bottom = seen_inset style.bottom; left = seen_inset style.left };
}

abbrev pub seen_declaration : Declaration → DeclarationModel
seen_declaration (declaration.Display value) = SetDisplay (seen_display value)
seen_declaration (declaration.Width value) = SetWidth (seen_length value)
seen_declaration (declaration.Height value) = SetHeight (seen_length value)
seen_declaration (declaration.MinWidth value) = SetMinWidth (seen_length value)
seen_declaration (declaration.MinHeight value) = SetMinHeight (seen_length value)
seen_declaration (declaration.MaxWidth value) = SetMaxWidth (option_map seen_length value)
seen_declaration (declaration.MaxHeight value) = SetMaxHeight (option_map seen_length value)
seen_declaration (declaration.Margin sides value) = SetMargin (seen_sides sides) (seen_length value)
seen_declaration (declaration.Padding sides value) = SetPadding (seen_sides sides) (seen_length value)
seen_declaration (declaration.Border sides value) = SetBorder (seen_sides sides) (unsigned_abs value.0)
seen_declaration (declaration.BoxSizing value) = SetBoxSizing (seen_box_sizing value)
seen_declaration (declaration.Overflow value) = SetOverflow (seen_overflow value)
seen_declaration (declaration.Position value) = SetPosition (seen_position value)
seen_declaration (declaration.Top value) = SetTop (seen_inset value)
seen_declaration (declaration.Right value) = SetRight (seen_inset value)
seen_declaration (declaration.Bottom value) = SetBottom (seen_inset value)
seen_declaration (declaration.Left value) = SetLeft (seen_inset value)
