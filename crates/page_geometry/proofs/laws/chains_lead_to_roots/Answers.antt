use Rattle.page_geometry.proofs.Scenes.{chained_of, short_of, there_along}
use Rattle.page_geometry.proofs.laws.chains_lead_to_roots.Goals as goal

pub returns-clause-chained : goal.returns-clause-chained
returns-clause-chained c = chained_of

pub returns-clause-short : goal.returns-clause-short
returns-clause-short c = short_of

pub returns-clause-there : goal.returns-clause-there
returns-clause-there c = there_along
