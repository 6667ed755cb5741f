-- The properties of a style with their values (CSS 2.2, 8 to 11; CSS Box Sizing 3, 3.3; CSS Positioned Layout 3). Which values a
-- property has here is this project's own choice.
use Rattle.std.specs.Prelude.{ℕ, Bool, true, false, cond, List, [], ◌∷◌, ◌++◌, Option, Some, None, option_map, bytes_eq, codes}
use Rattle.word_model.specs.Numbers.{length_of, percent_of, signed_of, signed_percent_of}
use Rattle.px_units.specs.Lengths.{LengthValue, Automatic, Pixels, Percentage, InsetValue, AutomaticInset, InsetPixels, InsetPercentage}
use Rattle.layout_model.specs.Styles.{Declaration, SetDisplay, SetWidth, SetHeight, SetMinWidth, SetMinHeight, SetMaxWidth, SetMaxHeight, SetMargin, SetPadding, SetBorder, SetBoxSizing, SetOverflow, SetPosition, SetTop, SetRight, SetBottom, SetLeft, TopSide, RightSide, BottomSide, LeftSide, AllSides, BoxSizing, ContentBox, BorderBox, Overflow, OverflowVisible, OverflowHidden, OverflowClip, OverflowScroll, OverflowAuto, Position, StaticPosition, RelativePosition, AbsolutePosition, FixedPosition}
use Rattle.text_io.specs.declared.kinds.Version.{Version}
use Rattle.text_io.specs.declared.kinds.Version.TheVariants.{First, Second}
use Rattle.script_model.specs.Keywords.{Keyword, keyword, lookup}

-- the value of the first reader, or that of the second if the first has none
unfoldable pub either_of : {A : Type 0} → Option A → Option A → Option A
either_of None second = second
either_of (Some value) second = Some value

-- a length or a percentage
unfoldable pub size_of : List ℕ → Option LengthValue
unfolding either_of length_of percent_of
size_of text = either_of (option_map Pixels (length_of text)) (option_map Percentage (percent_of text))

-- `auto`, a length or a percentage
unfoldable pub auto_or_size_of : List ℕ → Option LengthValue
unfolding size_of
auto_or_size_of text = cond (bytes_eq text (codes "auto")) (Some Automatic) (size_of text)

-- `none`, a length or a percentage
unfoldable pub none_or_size_of : List ℕ → Option (Option LengthValue)
unfolding size_of
none_or_size_of text = cond (bytes_eq text (codes "none")) (Some None) (option_map Some (size_of text))

-- `auto`, or a length or a percentage with an optional `-`
unfoldable pub inset_of : List ℕ → Option InsetValue
unfolding either_of signed_of signed_percent_of
inset_of text =
    cond (bytes_eq text (codes "auto")) (Some AutomaticInset)
    (either_of (option_map InsetPixels (signed_of text)) (option_map InsetPercentage (signed_percent_of text)))

abbrev pub displays : List (Keyword Bool)
displays = keyword (codes "block") false ∷ keyword (codes "none") true ∷ []

abbrev pub box_sizings : List (Keyword BoxSizing)
box_sizings = keyword (codes "content-box") ContentBox ∷ keyword (codes "border-box") BorderBox ∷ []

abbrev pub overflows : List (Keyword Overflow)
overflows =
    keyword (codes "visible") OverflowVisible
    ∷ keyword (codes "hidden") OverflowHidden
    ∷ keyword (codes "clip") OverflowClip
    ∷ keyword (codes "scroll") OverflowScroll
    ∷ keyword (codes "auto") OverflowAuto
    ∷ []

abbrev pub positions : List (Keyword Position)
positions =
    keyword (codes "static") StaticPosition
    ∷ keyword (codes "relative") RelativePosition
    ∷ keyword (codes "absolute") AbsolutePosition
    ∷ keyword (codes "fixed") FixedPosition
    ∷ []

-- a reader of a property's values
abbrev pub ValueReader : Type 0
ValueReader = List ℕ → Option Declaration

-- a reader whose declaration has the value that another reader reads
abbrev pub sets : {A : Type 0} → (A → Declaration) → (List ℕ → Option A) → ValueReader
sets declare of text = option_map declare (of text)

-- the properties of both versions, with their values
abbrev pub properties : List (Keyword ValueReader)
properties =
    keyword (codes "display") (sets SetDisplay (lookup displays))
    ∷ keyword (codes "width") (sets SetWidth auto_or_size_of)
    ∷ keyword (codes "height") (sets SetHeight auto_or_size_of)
    ∷ keyword (codes "min-width") (sets SetMinWidth size_of)
    ∷ keyword (codes "min-height") (sets SetMinHeight size_of)
    ∷ keyword (codes "max-width") (sets SetMaxWidth none_or_size_of)
    ∷ keyword (codes "max-height") (sets SetMaxHeight none_or_size_of)
    ∷ keyword (codes "margin-top") (sets (SetMargin TopSide) size_of)
    ∷ keyword (codes "margin-right") (sets (SetMargin RightSide) size_of)
    ∷ keyword (codes "margin-bottom") (sets (SetMargin BottomSide) size_of)
    ∷ keyword (codes "margin-left") (sets (SetMargin LeftSide) size_of)
    ∷ keyword (codes "margin") (sets (SetMargin AllSides) size_of)
    ∷ keyword (codes "padding-top") (sets (SetPadding TopSide) size_of)
    ∷ keyword (codes "padding-right") (sets (SetPadding RightSide) size_of)
    ∷ keyword (codes "padding-bottom") (sets (SetPadding BottomSide) size_of)
    ∷ keyword (codes "padding-left") (sets (SetPadding LeftSide) size_of)
    ∷ keyword (codes "padding") (sets (SetPadding AllSides) size_of)
    ∷ keyword (codes "border-top") (sets (SetBorder TopSide) length_of)
    ∷ keyword (codes "border-right") (sets (SetBorder RightSide) length_of)
    ∷ keyword (codes "border-bottom") (sets (SetBorder BottomSide) length_of)
    ∷ keyword (codes "border-left") (sets (SetBorder LeftSide) length_of)
    ∷ keyword (codes "border") (sets (SetBorder AllSides) length_of)
    ∷ keyword (codes "box-sizing") (sets SetBoxSizing (lookup box_sizings))
    ∷ keyword (codes "overflow") (sets SetOverflow (lookup overflows))
    ∷ []

-- those that only scripts of version 2 have
abbrev pub positioned_properties : List (Keyword ValueReader)
positioned_properties =
    keyword (codes "position") (sets SetPosition (lookup positions))
    ∷ keyword (codes "top") (sets SetTop inset_of)
    ∷ keyword (codes "right") (sets SetRight inset_of)
    ∷ keyword (codes "bottom") (sets SetBottom inset_of)
    ∷ keyword (codes "left") (sets SetLeft inset_of)
    ∷ []

abbrev pub properties_in : Version → List (Keyword ValueReader)
properties_in First = properties
properties_in Second = positioned_properties ++ properties

-- the reader for the values of the property with this name, if a version has it
unfoldable pub property_of : Version → List ℕ → Option ValueReader
unfolding lookup auto_or_size_of none_or_size_of size_of length_of inset_of
property_of version name = lookup (properties_in version) name
