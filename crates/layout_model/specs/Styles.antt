-- Styles, and what a declaration changes in one (CSS 2.2, 4 to 11; CSS Positioned Layout 3, 2 and 3).
use Rattle.std.specs.Prelude.{ℕ, Bool, false, Option, None}
use Rattle.px_units.specs.Lengths.{LengthValue, Automatic, Pixels, InsetValue, AutomaticInset}

pub data BoxSizing : Type 0 where
  ContentBox : BoxSizing
  BorderBox : BoxSizing

-- `hidden`, `scroll` and `auto` make a box a scroll container; `clip` only clips
pub data Overflow : Type 0 where
  OverflowVisible : Overflow
  OverflowHidden : Overflow
  OverflowClip : Overflow
  OverflowScroll : Overflow
  OverflowAuto : Overflow

-- how a box is positioned (CSS Positioned Layout 3, 2)
pub data Position : Type 0 where
  StaticPosition : Position
  RelativePosition : Position
  AbsolutePosition : Position
  FixedPosition : Position

-- one value for each side
pub record Sides (A : Type 0) : Type 0 where
  pub top : A
  pub right : A
  pub bottom : A
  pub left : A

-- borders are in units; a maximum of None is `none`; the insets are the properties `top`, `right`, `bottom` and `left`
pub record Style : Type 0 where
  pub hidden : Bool
  pub width : LengthValue
  pub height : LengthValue
  pub min_width : LengthValue
  pub min_height : LengthValue
  pub max_width : Option LengthValue
  pub max_height : Option LengthValue
  pub margin : Sides LengthValue
  pub padding : Sides LengthValue
  pub border : Sides ℕ
  pub box_sizing : BoxSizing
  pub overflow : Overflow
  pub position : Position
  pub inset : Sides InsetValue

-- the side that a declaration sets; all four for a shorthand
pub data Side : Type 0 where
  TopSide : Side
  RightSide : Side
  BottomSide : Side
  LeftSide : Side
  AllSides : Side

pub data Declaration : Type 0 where
  SetDisplay : (hidden : Bool) → Declaration
  SetWidth : (value : LengthValue) → Declaration
  SetHeight : (value : LengthValue) → Declaration
  SetMinWidth : (value : LengthValue) → Declaration
  SetMinHeight : (value : LengthValue) → Declaration
  SetMaxWidth : (value : Option LengthValue) → Declaration
  SetMaxHeight : (value : Option LengthValue) → Declaration
  SetMargin : (side : Side) (value : LengthValue) → Declaration
  SetPadding : (side : Side) (value : LengthValue) → Declaration
  SetBorder : (side : Side) (units : ℕ) → Declaration
  SetBoxSizing : (value : BoxSizing) → Declaration
  SetOverflow : (value : Overflow) → Declaration
  SetPosition : (value : Position) → Declaration
  SetTop : (value : InsetValue) → Declaration
  SetRight : (value : InsetValue) → Declaration
  SetBottom : (value : InsetValue) → Declaration
  SetLeft : (value : InsetValue) → Declaration

abbrev pub all_four : {A : Type 0} → A → Sides A
all_four value = record { top = value; right = value; bottom = value; left = value }

-- the sides with one of them, or all four, set
abbrev pub with_side : {A : Type 0} → Side → A → Sides A → Sides A
with_side TopSide value sides = record sides { top = value }
with_side RightSide value sides = record sides { right = value }
with_side BottomSide value sides = record sides { bottom = value }
with_side LeftSide value sides = record sides { left = value }
with_side AllSides value sides = all_four value

-- the style of a newly created element
abbrev pub first_style : Style
first_style = record {
  hidden = false;
  width = Automatic;
  height = Automatic;
  min_width = Pixels 0;
  min_height = Pixels 0;
  max_width = None;
  max_height = None;
  margin = all_four (Pixels 0);
  padding = all_four (Pixels 0);
  border = all_four 0;
  box_sizing = ContentBox;
  overflow = OverflowVisible;
  position = StaticPosition;
  inset = all_four AutomaticInset;
}

-- the style with a declaration applied
abbrev pub declared : Declaration → Style → Style
declared (SetDisplay hidden) style = record style { hidden = hidden }
declared (SetWidth value) style = record style { width = value }
declared (SetHeight value) style = record style { height = value }
declared (SetMinWidth value) style = record style { min_width = value }
declared (SetMinHeight value) style = record style { min_height = value }
declared (SetMaxWidth value) style = record style { max_width = value }
declared (SetMaxHeight value) style = record style { max_height = value }
declared (SetMargin side value) style = record style { margin = with_side side value (style.margin) }
declared (SetPadding side value) style = record style { padding = with_side side value (style.padding) }
declared (SetBorder side units) style = record style { border = with_side side units (style.border) }
declared (SetBoxSizing value) style = record style { box_sizing = value }
declared (SetOverflow value) style = record style { overflow = value }
declared (SetPosition value) style = record style { position = value }
declared (SetTop value) style = record style { inset = record (style.inset) { top = value } }
declared (SetRight value) style = record style { inset = record (style.inset) { right = value } }
declared (SetBottom value) style = record style { inset = record (style.inset) { bottom = value } }
declared (SetLeft value) style = record style { inset = record (style.inset) { left = value } }
