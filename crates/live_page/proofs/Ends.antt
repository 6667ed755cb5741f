-- Whether a command can begin.
use Rattle.std.proofs.Common.{◌≡◌, ◌≤◌, ◌<◌, suc, Bool, true, false, Option, Some, None, ap}
use Rattle.std.specs.Prelude.{nat_lt}
use Rattle.std.proofs.lemmas.Bool.{lt-ltb, le-ltb}
use Rattle.text_io.specs.Limits.{limit_number}
use Rattle.text_io.specs.declared.kinds.LimitKind.{LimitKind}
use Rattle.text_io.specs.declared.kinds.LimitKind.TheVariants as limits
use Rattle.page_model.specs.Commands.{begun_in}
use Rattle.page_model.specs.Steps.{Did, ◌>>◌, met_unless}
use Rattle.page_model.specs.World.{World}
use Rattle.live_page.specs.Lives.{met_by}

abbrev by-room : World → Bool → Option LimitKind
by-room world room = met_by (met_unless room limits.Commands >> Did (record world { begun = suc world.begun }))

room-left : (world : World) (room : Bool) → room ≡ true → by-room world room ≡ None
unfolding ◌>>◌
room-left world room is = ap (by-room world) is

no-room : (world : World) (room : Bool) → room ≡ false → by-room world room ≡ Some limits.Commands
unfolding ◌>>◌
no-room world room is = ap (by-room world) is

pub can_begin : (world : World) → world.begun < limit_number (world.version) limits.Commands → met_by (begun_in world) ≡ None
unfolding begun_in
can_begin world few = room-left world (nat_lt world.begun (limit_number (world.version) limits.Commands)) (lt-ltb _ _ few)

pub cannot_begin : (world : World) → limit_number (world.version) limits.Commands ≤ world.begun → met_by (begun_in world) ≡ Some limits.Commands
unfolding begun_in
cannot_begin world all = no-room world (nat_lt world.begun (limit_number (world.version) limits.Commands)) (le-ltb _ _ all)
