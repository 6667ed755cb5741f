-- An element of the page by itself: its name, its style and its kind, and the documents that it belongs to and holds.
use Rattle.std.specs.Prelude.{ℕ, ℤ, pos, ◌≤ℤ◌, List, Option, unsigned_abs}
use Rattle.px_units.specs.declared.Size.{Size}
use Rattle.layout_model.specs.Styles.{Style, first_style, declared, Declaration}
use Rattle.layout_model.specs.Items.{Kind, ImageKind, Item}
use Rattle.page_documents.specs.Seen.{Carried}
use Rattle.block_layout.specs.declared.ItemKind.{ItemKind}
use Rattle.block_layout.specs.declared.ItemKind.TheVariants.{Block, Image, Frame}

-- what the tree holds of an element; `document` is its node document, and `framed` the document of a frame
pub record Described : Type 0 where
  pub name : List ℕ
  pub item : Item
  pub document : ℕ
  pub framed : Option ℕ

abbrev pub style_in : Described → Style
style_in it = it.item.style

abbrev pub kind_in : Described → Kind
kind_in it = it.item.kind

-- from 0 to the largest length, in units of 1/64 pixel
abbrev pub IsLength : ℤ → Type 0
IsLength units = (pos 0 ≤ℤ units) × (units ≤ℤ pos 2147483647)

abbrev pub IsNatural : Size → Type 0
IsNatural size = IsLength size.width × IsLength size.height

-- an image has a natural size in the range of lengths
abbrev pub IsKind : ItemKind → Type 0
IsKind Block = Unit {0}
IsKind (Image size) = IsNatural size
IsKind Frame = Unit {0}

-- what it carries besides its name
abbrev pub carried_in : Described → Carried
carried_in it = record { item = it.item; document = it.document; framed = it.framed }

-- an element just made in a document; `framed` is the document of a frame
abbrev pub described : List ℕ → Kind → ℕ → Option ℕ → Described
described name kind document framed = record {
  name = name;
  item = record { style = first_style; kind = kind };
  document = document;
  framed = framed;
}

-- an element after it was given to a document
abbrev pub owned_by : ℕ → Described → Described
owned_by document it = record it { document = document }

abbrev pub with_item : (Item → Item) → Described → Described
with_item change it = record it { item = change (it.item) }

abbrev pub declared_in : Declaration → Item → Item
declared_in declaration item = record item { style = declared declaration (item.style) }

abbrev pub sized_in : Size → Item → Item
sized_in size item = record item { kind = ImageKind (unsigned_abs size.width) (unsigned_abs size.height) }
