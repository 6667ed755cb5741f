-- What the types of this crate stand for.
use Rattle.std.specs.Prelude.{Bool, true, false, pos, unsigned_abs}
use Rattle.px_units.specs.declared.Point.{Point}
use Rattle.px_units.specs.declared.Size.{Size}
use Rattle.page_model.specs.World.{Extent}
use Rattle.page_model.specs.Scrolls.{within_range}
use Rattle.scrolling.specs.declared.outcome.Outcome.{Outcome}
use Rattle.scrolling.specs.declared.outcome.Outcome.TheVariants.{Moved, Same}

-- a size is never negative, so it is seen through absolute values
abbrev pub seen_size : Size → Extent
seen_size size = record { across = unsigned_abs size.width; down = unsigned_abs size.height }

abbrev pub point_of : Extent → Point
point_of extent = record { left = pos extent.across; top = pos extent.down }

-- a requested position, clamped to a range
abbrev pub kept_in : Size → Point → Extent
kept_in range wanted = within_range (seen_size range) wanted.left wanted.top

-- the result of a scroll, by whether the offset in force stays as it was
abbrev pub outcome_of : Bool → Outcome
outcome_of true = Same
outcome_of false = Moved
