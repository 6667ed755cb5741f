use Rattle.std.proofs.Common.{sym, subst}
use Rattle.candidate_index.specs.Held.{AreFound}
use Rattle.kept_findings.specs.Registered.{AreRegistered}
use Rattle.kept_findings.proofs.Registering.{none_registered}
use Rattle.kept_findings.proofs.findings.KeptFindings.new.Goals as goal

pub returns-clause-registered : goal.returns-clause-registered
returns-clause-registered c = λ watchers margins none.
    let seen = c.new.ensures in
    let clips = c.new-2.ensures.empty in
    let index = c.new-3.ensures.empty in
    subst (AreRegistered watchers margins) (λ i. record { seen = sym seen i; clips = sym clips i; kept = sym index i })
    (none_registered watchers margins none (subst (AreFound watchers) index (c.new-3.ensures.found watchers)))
