use Rattle.std.proofs.Common.{sym, subst}
use Rattle.candidate_index.specs.Held.{AreFound}
use Rattle.candidate_index.proofs.Found.{found_empty}
use Rattle.candidate_index.proofs.index.Index.new.Goals as goal

pub returns-clause-found : goal.returns-clause-found
returns-clause-found c = λ watchers. subst (AreFound watchers) (sym c.new.ensures) (found_empty watchers)
