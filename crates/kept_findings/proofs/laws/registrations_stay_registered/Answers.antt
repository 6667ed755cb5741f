use Rattle.std.proofs.Common.{refl, []}
use Rattle.kept_findings.proofs.Settled.{registered_made, registered_taken, registered_roomier}
use Rattle.kept_findings.proofs.Observed.{registered_observed, registered_unobserved}
use Rattle.kept_findings.proofs.laws.registrations_stay_registered.Goals as goal

pub returns-clause-made : goal.returns-clause-made
returns-clause-made c = λ it document handler root margins thresholds scroll_margins now kept same registered.
    registered_made it scroll_margins now (record { document = document; handler = handler; root = root; margins = margins; thresholds = thresholds; registrations = []; queue = [] }) kept refl same registered

pub returns-clause-observed : goal.returns-clause-observed
returns-clause-observed c = registered_observed

pub returns-clause-unobserved : goal.returns-clause-unobserved
returns-clause-unobserved c = registered_unobserved

pub returns-clause-taken : goal.returns-clause-taken
returns-clause-taken c = registered_taken

pub returns-clause-roomier : goal.returns-clause-roomier
returns-clause-roomier c = registered_roomier
