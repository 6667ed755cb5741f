use Rattle.kept_findings.proofs.Stale.{skipped}
use Rattle.kept_findings.proofs.laws.settling_the_stale_ones_settles_all.Goals as goal

pub returns : goal.returns
returns c = skipped
