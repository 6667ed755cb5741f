use Rattle.std.proofs.Common.{◌≡◌, ◌∙◌, ap, sym}
use Rattle.page_model.specs.Lookups.{intersection_observer_at}
use Rattle.clip_chain.specs.Worlds.{element_spot, spot_of_root}
use Rattle.intersection_observer.specs.Places.{Standing as Place, standing_of}
use Rattle.candidate_index.specs.Registrations.{target_of}
use Rattle.candidate_index.proofs.Places.{looked_up}
use Rattle.observer_tests.proofs.candidate_index_tests.spots_of.Goals as goal

pub returns-clause-root : goal.returns-clause-root
returns-clause-root c =
    let it = c.args.watchers.now.part in
    let serial = c.args.registration.0 in
    let watcher = looked_up (λ (p : Place). p.watcher) (standing_of serial it) (record { watcher = 0; target = 0 }) c.watcher_of-watcher.result.0 c.watcher_of-watcher.ensures.value in
    c.spot_of_root.ensures ∙ ap spot_of_root (c.root_of.ensures ∙ ap (λ w. (intersection_observer_at it w).root) (sym watcher))

pub returns-clause-target : goal.returns-clause-target
returns-clause-target c =
    let it = c.args.watchers.now.part in
    let serial = c.args.registration.0 in
    let target : target_of it serial ≡ c.target_of.result.0 = looked_up (λ (p : Place). p.target) (standing_of serial it) (record { watcher = 0; target = 0 }) c.target_of.result.0 c.target_of.ensures in
    ap element_spot (sym target)
