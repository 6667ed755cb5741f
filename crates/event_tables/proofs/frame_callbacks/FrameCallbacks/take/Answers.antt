use Rattle.std.proofs.Common.{◌==◌, not}
use Rattle.page_model.specs.World.{FrameCallback}
use Rattle.event_tables.specs.Seen.{seen_frame_callback}
use Rattle.event_tables.proofs.Seen.{kept_of}
use Rattle.event_tables.proofs.frame_callbacks.FrameCallbacks.take.Goals as goal

pub returns : goal.returns
returns c = kept_of seen_frame_callback (λ (each : FrameCallback). not (each.serial == c.args.serial)) c.self.inside.entries c.take.new.self c.args.self.now c.take.ensures c.self.view_is
