use Rattle.std.proofs.Common.{◌≡◌, ◌==◌, List, subst}
use Rattle.std.specs.Prelude.{IfOk}
use Rattle.page_model.specs.World.{FrameCallback}
use Rattle.event_tables.specs.Seen.{seen_frame_callback}
use Rattle.event_tables.proofs.Seen.{read_of}
use Rattle.event_tables.proofs.frame_callbacks.FrameCallbacks.begin.Goals as goal

pub returns : goal.returns
returns c =
    subst (λ (these : List FrameCallback). IfOk c.copies.result (λ batch. batch ≡ these))
    (read_of seen_frame_callback (λ (callback : FrameCallback). callback.document == c.args.document.0) c.self.inside.entries c.args.self.now _ c.held.ensures c.self.view_is)
    c.copies.ensures
