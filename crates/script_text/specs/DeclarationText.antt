-- The words of a declaration: its property and its value (CSS 2.2, 8 to 11; CSS Box Sizing 3, 3.3; CSS Positioned Layout 3, 2 and 3).
use Rattle.std.specs.Prelude.{ℕ, Bool, true, false, List, [], ◌++◌, Option, Some, None, codes}
use Rattle.px_units.specs.Lengths.{LengthValue, Automatic, Pixels, Percentage, InsetValue, AutomaticInset, InsetPixels, InsetPercentage}
use Rattle.layout_model.specs.Styles.{Declaration, SetDisplay, SetWidth, SetHeight, SetMinWidth, SetMinHeight, SetMaxWidth, SetMaxHeight, SetMargin, SetPadding, SetBorder, SetBoxSizing, SetOverflow, SetPosition, SetTop, SetRight, SetBottom, SetLeft, Side, TopSide, RightSide, BottomSide, LeftSide, AllSides, BoxSizing, ContentBox, BorderBox, Overflow, OverflowVisible, OverflowHidden, OverflowClip, OverflowScroll, OverflowAuto, Position, StaticPosition, RelativePosition, AbsolutePosition, FixedPosition}
use Rattle.media_queries.specs.LengthText.{length_text}
use Rattle.script_text.specs.NumberText.{percent_text, signed_text, signed_percent_text}

-- what follows the name of a property that has sides
abbrev pub side_text : Side → List ℕ
side_text TopSide = codes "-top"
side_text RightSide = codes "-right"
side_text BottomSide = codes "-bottom"
side_text LeftSide = codes "-left"
side_text AllSides = []

abbrev pub display_text : Bool → List ℕ
display_text false = codes "block"
display_text true = codes "none"

unfoldable pub size_text : LengthValue → List ℕ
unfolding length_text percent_text
size_text Automatic = codes "auto"
size_text (Pixels units) = length_text units
size_text (Percentage hundredths) = percent_text hundredths

abbrev pub none_or_text : Option LengthValue → List ℕ
none_or_text None = codes "none"
none_or_text (Some value) = size_text value

abbrev pub box_sizing_text : BoxSizing → List ℕ
box_sizing_text ContentBox = codes "content-box"
box_sizing_text BorderBox = codes "border-box"

abbrev pub overflow_text : Overflow → List ℕ
overflow_text OverflowVisible = codes "visible"
overflow_text OverflowHidden = codes "hidden"
overflow_text OverflowClip = codes "clip"
overflow_text OverflowScroll = codes "scroll"
overflow_text OverflowAuto = codes "auto"

abbrev pub position_text : Position → List ℕ
position_text StaticPosition = codes "static"
position_text RelativePosition = codes "relative"
position_text AbsolutePosition = codes "absolute"
position_text FixedPosition = codes "fixed"

unfoldable pub inset_text : InsetValue → List ℕ
unfolding signed_text signed_percent_text
inset_text AutomaticInset = codes "auto"
inset_text (InsetPixels units) = signed_text units
inset_text (InsetPercentage hundredths) = signed_percent_text hundredths

-- the name of a property, and a value
pub record DeclarationPhrase : Type 0 where
  pub property : List ℕ
  pub value : List ℕ

abbrev pub sets_to : List ℕ → List ℕ → DeclarationPhrase
sets_to property value = record { property = property; value = value }

abbrev pub declaration_phrase : Declaration → DeclarationPhrase
declaration_phrase (SetDisplay hidden) = sets_to (codes "display") (display_text hidden)
declaration_phrase (SetWidth value) = sets_to (codes "width") (size_text value)
declaration_phrase (SetHeight value) = sets_to (codes "height") (size_text value)
declaration_phrase (SetMinWidth value) = sets_to (codes "min-width") (size_text value)
declaration_phrase (SetMinHeight value) = sets_to (codes "min-height") (size_text value)
declaration_phrase (SetMaxWidth value) = sets_to (codes "max-width") (none_or_text value)
declaration_phrase (SetMaxHeight value) = sets_to (codes "max-height") (none_or_text value)
declaration_phrase (SetMargin side value) = sets_to (codes "margin" ++ side_text side) (size_text value)
declaration_phrase (SetPadding side value) = sets_to (codes "padding" ++ side_text side) (size_text value)
declaration_phrase (SetBorder side units) = sets_to (codes "border" ++ side_text side) (length_text units)
declaration_phrase (SetBoxSizing value) = sets_to (codes "box-sizing") (box_sizing_text value)
declaration_phrase (SetOverflow value) = sets_to (codes "overflow") (overflow_text value)
declaration_phrase (SetPosition value) = sets_to (codes "position") (position_text value)
declaration_phrase (SetTop value) = sets_to (codes "top") (inset_text value)
declaration_phrase (SetRight value) = sets_to (codes "right") (inset_text value)
declaration_phrase (SetBottom value) = sets_to (codes "bottom") (inset_text value)
declaration_phrase (SetLeft value) = sets_to (codes "left") (inset_text value)

abbrev pub property_text : Declaration → List ℕ
property_text declaration = (declaration_phrase declaration).property

abbrev pub value_text : Declaration → List ℕ
value_text declaration = (declaration_phrase declaration).value
