-- What this crate's types stand for in the definitions of layout.
use Rattle.std.specs.Prelude.{ℕ, ◌+◌, ◌*◌, ℤ, pos, neg_ℤ, ◌+ℤ◌, ◌-ℤ◌, ◌≤ℤ◌, Option, Some, None, IfSome, option_map, unsigned_abs}
use Rattle.px_units.specs.declared.Point.{Point}
use Rattle.px_units.specs.declared.Size.{Size}
use Rattle.layout_model.specs.Nodes.{Holder as HolderModel, HeldByElement, HeldByPage, HeldByScreen}
use Rattle.layout_model.specs.FlatPlaces.{Along}
use Rattle.element_tree.specs.declared.node.NodeId.{NodeId}
use Rattle.block_layout.specs.Ranges.{IsLength}
use Rattle.positioned_layout.specs.declared.Holder.{Holder}
use Rattle.positioned_layout.specs.declared.Holder.TheVariants as holder
use Rattle.positioned_layout.specs.declared.Measure.{Measure}
use Rattle.positioned_layout.specs.declared.insets.Side.{Side}
use Rattle.positioned_layout.specs.Measured.{Measured}

abbrev pub seen_holder : Holder → HolderModel
seen_holder (holder.Node node) = HeldByElement node.0
seen_holder holder.Page = HeldByPage
seen_holder holder.Screen = HeldByScreen

abbrev pub held_from : Option NodeId → Holder
held_from None = holder.Page
held_from (Some element) = holder.Node element

abbrev pub pair_of_point : Point → ℕ × ℕ
pair_of_point point = (unsigned_abs point.left, unsigned_abs point.top)

abbrev pub pair_of_size : Size → ℕ × ℕ
pair_of_size size = (unsigned_abs size.width, unsigned_abs size.height)

abbrev pub seen_measure : Measure → Measured
seen_measure measure = record {
  width = unsigned_abs measure.width;
  height = option_map unsigned_abs measure.height;
  inner = pair_of_point measure.inner;
  corner = pair_of_point measure.corner;
  margin = pair_of_point measure.margin;
  margin_height = unsigned_abs measure.margin_height;
  above = unsigned_abs measure.above;
  padding = pair_of_size measure.padding;
  border = pair_of_size measure.border;
  clips = measure.clips;
}

-- lengths by their absolute values, except for insets
abbrev pub seen_side : Side → Along
seen_side side = record {
  containing = unsigned_abs side.containing;
  near = side.near;
  far = side.far;
  near_margin = unsigned_abs side.near_margin;
  far_margin = unsigned_abs side.far_margin;
  border = unsigned_abs side.border;
}

-- a place, as a point
abbrev pub as_place : ℤ × ℤ → Point
as_place pair = record { left = pair.0; top = pair.1 }

abbrev pub as_size : ℕ × ℕ → Size
as_size pair = record { width = pos pair.0; height = pos pair.1 }

-- from 0 to 2 ^ 40 units
abbrev pub IsSpan : ℤ → Type 0
IsSpan units = (pos 0 ≤ℤ units) × (units ≤ℤ pos 1099511627776)

abbrev pub IsSpanOfSize : Size → Type 0
IsSpanOfSize size = IsSpan size.width × IsSpan size.height

-- no number of a measure is negative or above 2 ^ 40, and neither coordinate of the padding box's corner is above the largest
-- length
pub record IsMeasure (measure : Measure) : Type 0 where
  pub width : IsSpan measure.width
  pub height : IfSome measure.height IsSpan
  pub inner : IsSpan measure.inner.left × IsSpan measure.inner.top
  pub corner : IsLength measure.corner.left × IsLength measure.corner.top
  pub margin : IsSpan measure.margin.left × IsSpan measure.margin.top
  pub margin_height : IsSpan measure.margin_height
  pub above : IsSpan measure.above
  pub padding : IsSpanOfSize measure.padding
  pub border : IsSpanOfSize measure.border

-- at most the largest length away from 0
abbrev pub IsReach : ℤ → Type 0
IsReach units = (neg_ℤ (pos 2147483647) ≤ℤ units) × (units ≤ℤ pos 2147483647)

-- at most as far from 0 as so many boxes can be, each placed relative to another
abbrev pub IsNear : ℕ → ℤ → Type 0
IsNear boxes units = (neg_ℤ (pos (4294967296 * boxes)) ≤ℤ units) × (units ≤ℤ pos (4294967296 * boxes))

-- the same after a walk from one depth to another
abbrev pub IsWalked : ℕ → ℕ → ℤ → Type 0
IsWalked from to units =
    (neg_ℤ (pos (4294967296 * from)) ≤ℤ (units -ℤ pos (4294967296 * to))) × ((units +ℤ pos (4294967296 * to)) ≤ℤ pos (4294967296 * from))

abbrev pub IsNearPoint : ℕ → Point → Type 0
IsNearPoint boxes point = IsNear boxes point.left × IsNear boxes point.top

-- the same, and a border further
abbrev pub IsCorner : ℕ → ℤ → Type 0
IsCorner boxes units =
    (neg_ℤ (pos (4294967296 * boxes + 2147483647)) ≤ℤ units) × (units ≤ℤ pos (4294967296 * boxes + 2147483647))

abbrev pub IsCornerPoint : ℕ → Point → Type 0
IsCornerPoint boxes point = IsCorner boxes point.left × IsCorner boxes point.top

pub record IsSide (side : Side) : Type 0 where
  pub containing : IsSpan side.containing
  pub near : IfSome side.near IsReach
  pub far : IfSome side.far IsReach
  pub near_margin : IsSpan side.near_margin
  pub far_margin : IsSpan side.far_margin
  pub border : IsSpan side.border

-- a fact about what holds a box, if that is an element
abbrev pub IfElement : Holder → (ℕ → Type 0) → Type 0
IfElement (holder.Node node) fact = fact node.0
IfElement holder.Page fact = Unit {0}
IfElement holder.Screen fact = Unit {0}
