-- Once there is room for what is seen of `top`, nothing is kept of registrations as before.
use Rattle.kept_findings.proofs.Settled.{registered_roomier}
use Rattle.page_state.proofs.first.findings.Goals as goal

pub returns-clause-registered : goal.returns-clause-registered
returns-clause-registered c = λ watchers margins none. registered_roomier _ _ _ _ c.add.ensures.roomier (c.new-findings.ensures.registered watchers margins none)
