use Rattle.candidate_index.proofs.Same.{same_is, still_kept}
use Rattle.candidate_index.proofs.laws.what_is_not_stale_is_found_as_it_was.Goals as goal

pub returns-clause-same : goal.returns-clause-same
returns-clause-same c = same_is

pub returns-clause-found : goal.returns-clause-found
returns-clause-found c = still_kept
