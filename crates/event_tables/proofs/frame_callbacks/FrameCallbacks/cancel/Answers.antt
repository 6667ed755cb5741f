use Rattle.std.proofs.Common.{not}
use Rattle.page_model.specs.World.{FrameCallback}
use Rattle.page_model.specs.FrameCallbacks.{is_frame_callback}
use Rattle.event_tables.specs.Seen.{seen_frame_callback}
use Rattle.event_tables.proofs.Seen.{any_of, kept_of}
use Rattle.event_tables.proofs.frame_callbacks.FrameCallbacks.cancel.Goals as goal

pub returns-clause-answer : goal.returns-clause-answer
returns-clause-answer c = any_of seen_frame_callback (is_frame_callback c.args.document.0 c.args.key) c.self.inside.entries c.args.self.now _ c.remove.ensures.answer c.self.view_is

pub returns-clause-cancelled : goal.returns-clause-cancelled
returns-clause-cancelled c =
    kept_of seen_frame_callback (λ (each : FrameCallback). not (is_frame_callback c.args.document.0 c.args.key each)) c.self.inside.entries c.remove.new.self c.args.self.now c.remove.ensures.removed c.self.view_is
