use Rattle.std.proofs.Common.{◌≡◌, find, length}
use Rattle.std.specs.Prelude.{Bool}
use Rattle.page_model.specs.World.{FrameCallback}
use Rattle.page_model.specs.FrameCallbacks.{frame_callback_stands}
use Rattle.event_tables.specs.Handed.{behind_first}
use Rattle.event_tables.proofs.frame_callbacks.FrameCallbacks.first_standing.Given as goal

abbrev pub invariant-loop-callback : goal.invariant-loop-callback
invariant-loop-callback l =
    let stands : FrameCallback → Bool = λ it. frame_callback_stands it l.self.part in
    (find stands l.batch ≡ find stands l.fn.batch) × (behind_first stands l.batch ≡ behind_first stands l.fn.batch)

abbrev pub decreases-loop-callback : goal.decreases-loop-callback
decreases-loop-callback l = length l.batch
