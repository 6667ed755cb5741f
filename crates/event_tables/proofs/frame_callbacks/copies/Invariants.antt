use Rattle.std.proofs.Common.{◌≡◌, ◌==◌, ◌++◌, filter, map, Bool}
use Rattle.page_model.specs.World.{FrameCallback}
use Rattle.event_tables.specs.Seen.{seen_frame_callback}
use Rattle.event_tables.proofs.frame_callbacks.copies.Given as goal

abbrev pub invariant-loop-serial : goal.invariant-loop-serial
invariant-loop-serial l =
    let passes : FrameCallback → Bool = λ each. each.document == l.document.0 in
    l.batch ++ filter passes (map seen_frame_callback l.serial-iterator) ≡ filter passes (map seen_frame_callback l.held.entries)
