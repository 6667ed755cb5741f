use Rattle.std.proofs.Common.{None, sym, subst}
use Rattle.std.specs.FinMap.{insert}
use Rattle.kept_clips.proofs.Pairs.{either}
use Rattle.candidate_index.specs.Held.{AreFound}
use Rattle.candidate_index.proofs.Found.{found_inserted}
use Rattle.candidate_index.proofs.index.Index.add.Goals as goal

pub returns-clause-found : goal.returns-clause-found
returns-clause-found c = λ watchers found.
    let before = subst (AreFound watchers) (sym c.self.view_is) found in
    either c.insert.result (AreFound watchers) c.self.inside.kept c.insert.new.self (insert c.self.inside.kept (c.args.registration.0) None) c.insert.ensures.inserted c.insert.ensures.same
    (found_inserted watchers c.self.inside.kept c.args.registration.0 None tt before) before
