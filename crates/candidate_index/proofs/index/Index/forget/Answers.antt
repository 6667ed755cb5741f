use Rattle.std.proofs.Common.{sym, subst}
use Rattle.candidate_index.specs.Held.{AreFound}
use Rattle.candidate_index.proofs.Found.{found_removed}
use Rattle.candidate_index.proofs.index.Index.forget.Goals as goal

pub returns-clause-found : goal.returns-clause-found
returns-clause-found c = λ watchers found.
    subst (AreFound watchers) (sym c.remove.ensures)
    (found_removed watchers c.self.inside.kept c.args.registration.0 (subst (AreFound watchers) (sym c.self.view_is) found))
