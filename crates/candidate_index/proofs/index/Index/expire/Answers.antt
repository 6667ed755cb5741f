use Rattle.std.proofs.Common.{◌≡◌, None, sym, subst}
use Rattle.std.specs.Prelude.{OnOk}
use Rattle.std.specs.FinMap.{insert}
use Rattle.candidate_index.specs.Held.{AreFound}
use Rattle.candidate_index.proofs.Found.{found_inserted}
use Rattle.candidate_index.proofs.index.Index.expire.Goals as goal

pub returns-clause-found : goal.returns-clause-found
returns-clause-found c =
    let done = subst (λ r. OnOk r (c.insert.new.self ≡ insert c.self.inside.kept (c.args.registration.0) None)) c.unwrap.ensures c.insert.ensures.inserted in
    λ watchers found.
    subst (AreFound watchers) (sym done)
    (found_inserted watchers c.self.inside.kept c.args.registration.0 None tt (subst (AreFound watchers) (sym c.self.view_is) found))
