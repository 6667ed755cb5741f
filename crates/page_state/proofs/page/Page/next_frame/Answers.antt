-- A page stays ready for a tick once a frame callback was taken out.
use Rattle.std.proofs.Common.{rules}
use Rattle.page_state.proofs.Ready.{ready_by, frame_handed}
use Rattle.page_state.proofs.page.Page.next_frame.Goals as goal

pub returns-clause-removed : goal.returns-clause-removed
returns-clause-removed c = search rules

pub returns-clause-ready : goal.returns-clause-ready
returns-clause-ready c = λ handlers. ready_by handlers c.args.self.now.world (returns-clause-removed c) (frame_handed c.args.self.now.world _)
