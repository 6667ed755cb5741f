use Rattle.std.proofs.Common.{◌==◌}
use Rattle.page_model.specs.World.{FrameCallback}
use Rattle.event_tables.specs.Seen.{seen_frame_callback}
use Rattle.event_tables.proofs.Seen.{any_of}
use Rattle.event_tables.proofs.frame_callbacks.FrameCallbacks.stands.Goals as goal

pub returns : goal.returns
returns c = any_of seen_frame_callback (λ (each : FrameCallback). each.serial == c.args.serial) c.self.inside.entries c.args.self.now _ c.has_serial.ensures c.self.view_is
