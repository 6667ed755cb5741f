-- The entries of a delivery (Resize Observer, 2.3 and 3.4: ResizeObserverEntry).
use Rattle.std.specs.Prelude.{ℤ, pos, ◌≤ℤ◌, unsigned_abs}
use Rattle.px_units.specs.declared.Size.{Size}
use Rattle.px_units.specs.declared.Point.{Point}
use Rattle.page_model.specs.World.{Extent}
use Rattle.page_model.specs.Gathering.{SizeEntry}
use Rattle.element_tree.specs.Links.{node_id}
use Rattle.resize_observer.specs.Observations.{seen_size}
use Rattle.depth_gather.specs.declared.entries.ResizeEntry.{ResizeEntry}

abbrev pub as_size : Extent → Size
as_size extent = record { width = pos extent.across; height = pos extent.down }

abbrev pub as_point : Extent → Point
as_point extent = record { left = pos extent.across; top = pos extent.down }

abbrev pub seen_point : Point → Extent
seen_point point = record { across = unsigned_abs point.left; down = unsigned_abs point.top }

-- what an entry stands for
abbrev pub seen_entry : ResizeEntry → SizeEntry
seen_entry entry = record {
  target = entry.target.0;
  corner = seen_point entry.corner;
  content = seen_size entry.content;
  border = seen_size entry.border;
  device = seen_size entry.device;
  depth = entry.depth;
}

-- the entry that stands for one of the definitions, with no negative length
abbrev pub as_entry : SizeEntry → ResizeEntry
as_entry entry = record {
  target = node_id entry.target;
  corner = as_point entry.corner;
  content = as_size entry.content;
  border = as_size entry.border;
  device = as_size entry.device;
  depth = entry.depth;
}

-- a length from 0 to 2 ^ 48 units or device pixels, so that two of them together lie below 2 ^ 50
abbrev pub IsLength : ℤ → Type 0
IsLength units = (pos 0 ≤ℤ units) × (units ≤ℤ pos 281474976710656)

-- the lengths of an entry
pub record HasLengths (entry : ResizeEntry) : Type 0 where
  pub left : IsLength entry.corner.left
  pub top : IsLength entry.corner.top
  pub width : IsLength entry.content.width
  pub height : IsLength entry.content.height
  pub border_width : IsLength entry.border.width
  pub border_height : IsLength entry.border.height
  pub device_width : IsLength entry.device.width
  pub device_height : IsLength entry.device.height
