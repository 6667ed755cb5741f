-- What stored positions stand for.
use Rattle.page_model.specs.World.{Extent}
use Rattle.scrolling.specs.declared.positions.Position.{Position}

abbrev pub seen_position : Position → Extent
seen_position position = record { across = position.across; down = position.down }
