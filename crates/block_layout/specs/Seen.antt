-- What this crate's types stand for in the definitions of boxes, and sizes and points of the code from pairs of lengths.
use Rattle.std.specs.Prelude.{ℕ, pos, option_map, unsigned_abs}
use Rattle.px_units.specs.declared.Size.{Size}
use Rattle.px_units.specs.declared.Point.{Point}
use Rattle.layout_model.specs.Items.{Item, Kind, BlockKind, ImageKind, FrameKind}
use Rattle.layout_model.specs.Boxes.{Inputs as InputsModel}
use Rattle.style_values.specs.declared.Style.{Style}
use Rattle.style_values.specs.Seen.{seen_style}
use Rattle.block_layout.specs.declared.Inputs.{Inputs}
use Rattle.block_layout.specs.declared.ItemKind.{ItemKind}
use Rattle.block_layout.specs.declared.ItemKind.TheVariants.{Block, Image, Frame}

-- lengths by their absolute values; specs/Ranges.antt says that nothing that the code gives is negative
abbrev pub seen_inputs : Inputs → InputsModel
seen_inputs inputs = record { width = unsigned_abs inputs.width; height = option_map unsigned_abs inputs.height; flow = inputs.flow }

abbrev pub seen_kind : ItemKind → Kind
seen_kind Block = BlockKind
seen_kind (Image size) = ImageKind (unsigned_abs size.width) (unsigned_abs size.height)
seen_kind Frame = FrameKind

abbrev pub as_size : ℕ × ℕ → Size
as_size pair = record { width = pos pair.0; height = pos pair.1 }

abbrev pub as_point : ℕ × ℕ → Point
as_point pair = record { left = pos pair.0; top = pos pair.1 }

abbrev pub seen_item : Style → ItemKind → Item
seen_item style kind = record { style = seen_style style; kind = seen_kind kind }
