-- How single commands change elements and documents: creation, styles and natural sizes (DOM, 4.5; HTML, 4.8.5; CSSOM, 6.6).
use Rattle.std.specs.Prelude.{ℕ, ℤ, pos, negsuc, ◌+ℤ◌, min, Bool, true, false, Option, Some, None, [], ◌∷◌, ◌++◌, length}
use Rattle.px_units.specs.Lengths.{LengthValue, Automatic, Pixels, Percentage}
use Rattle.layout_model.specs.Styles.{Style, Declaration, SetWidth, SetHeight, first_style, declared}
use Rattle.layout_model.specs.Items.{Kind, BlockKind, ImageKind, FrameKind, Item}
use Rattle.script_model.specs.Syntax.{Dimension, WidthDimension, HeightDimension}
use Rattle.page_model.specs.World.{Fresh, Document, Tree}
use Rattle.page_model.specs.Lookups.{new_element, change_element}

-- a newly created document, in a frame
abbrev pub new_document : ℕ → Document
new_document frame = record { state = Fresh; frame = Some frame; root = None }

-- the tree with a new element of a kind, which has this node document and no parent
abbrev pub with_element : Kind → ℕ → Option ℕ → Tree → Tree
with_element kind document framed tree =
    record tree { elements = tree.elements ++ new_element (record { style = first_style; kind = kind }) document framed ∷ [] }

-- the tree with a new frame and the document in it
abbrev pub with_frame : ℕ → Tree → Tree
with_frame document tree =
    record (with_element FrameKind document (Some (length tree.documents)) tree) {
      documents = tree.documents ++ new_document (length tree.elements) ∷ [];
    }

abbrev pub change_item : (Item → Item) → ℕ → Tree → Tree
change_item change n tree = change_element (λ element. record element { item = change (element.item) }) n tree

abbrev pub with_declaration : Declaration → ℕ → Tree → Tree
with_declaration declaration n tree = change_item (λ item. record item { style = declared declaration (item.style) }) n tree

abbrev pub pixels_of : LengthValue → Option ℕ
pixels_of Automatic = None
pixels_of (Pixels units) = Some units
pixels_of (Percentage hundredths) = None

abbrev pub dimension_of : Dimension → Style → LengthValue
dimension_of WidthDimension style = style.width
dimension_of HeightDimension style = style.height

abbrev pub set_dimension : Dimension → ℕ → Declaration
set_dimension WidthDimension units = SetWidth (Pixels units)
set_dimension HeightDimension units = SetHeight (Pixels units)

-- a signed length clamped between 0 and a maximum
abbrev pub kept_within : ℤ → ℕ → ℕ
kept_within (pos units) most = min units most
kept_within (negsuc units) most = 0

-- a length changed by a signed one, clamped between 0 and 1,000,000 pixels
abbrev pub grown : ℕ → ℤ → ℕ
grown units by = kept_within (pos units +ℤ by) 64000000

abbrev pub is_image : Kind → Bool
is_image BlockKind = false
is_image (ImageKind width height) = true
is_image FrameKind = false

abbrev pub with_natural_size : ℕ → ℕ → ℕ → Tree → Tree
with_natural_size width height n tree = change_item (λ item. record item { kind = ImageKind width height }) n tree
