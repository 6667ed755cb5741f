use Rattle.std.proofs.Common.{◌≡◌, ◌∙◌, ℕ, List, Some, ap, sym, subst}
use Rattle.std.specs.Prelude.{OnOk}
use Rattle.std.specs.FinMap.{insert}
use Rattle.page_model.specs.Lookups.{intersection_observer_at}
use Rattle.intersection_observer.specs.Places.{Standing as Place, standing_of}
use Rattle.clip_chain.specs.Scenes.{root_bounds}
use Rattle.clip_chain.specs.Worlds.{spot_of_root}
use Rattle.thresholds.specs.Roots.{IsNear}
use Rattle.candidate_index.specs.declared.index.Kept.{Kept}
use Rattle.candidate_index.specs.Findings.{found_from}
use Rattle.candidate_index.specs.Held.{AreFound}
use Rattle.candidate_index.specs.Registrations.{observer_of, target_of, standing_for}
use Rattle.candidate_index.proofs.Places.{looked_up}
use Rattle.candidate_index.proofs.Found.{found_inserted}
use Rattle.candidate_index.proofs.Leaving.{found_is}
use Rattle.candidate_index.proofs.index.Index.recompute.Goals as goal

pub returns-clause-finding : goal.returns-clause-finding
returns-clause-finding g c =
    let it = c.args.watchers.now.part in
    let serial = c.args.registration.0 in
    let watcher = looked_up (λ (p : Place). p.watcher) (standing_of serial it) (record { watcher = 0; target = 0 }) c.watcher_of.result.0 c.watcher_of.ensures.value in
    let thresholds : c.thresholds_of.result.now ≡ (observer_of it serial).thresholds = c.thresholds_of.ensures ∙ ap (λ w. (intersection_observer_at it w).thresholds) (sym watcher) in
    λ between h.
    let basis = c.basis_of-basis.ensures.basis between h in
    c.find-finding.ensures.value ∙ (λ i. found_from (thresholds i) (basis i))
    ∙ found_is (g.S.Geometry.scene c.args.scene.now) (standing_for (g.S.Scene.standings c.args.scene.now) it serial) (observer_of it serial) (target_of it serial) (between serial)

pub returns-clause-found : goal.returns-clause-found
returns-clause-found g c =
    let it = c.args.watchers.now.part in
    let serial = c.args.registration.0 in
    let watcher = looked_up (λ (p : Place). p.watcher) (standing_of serial it) (record { watcher = 0; target = 0 }) c.watcher_of.result.0 c.watcher_of.ensures.value in
    let thresholds : c.thresholds_of.result.now ≡ (observer_of it serial).thresholds = c.thresholds_of.ensures ∙ ap (λ w. (intersection_observer_at it w).thresholds) (sym watcher) in
    let kept : Kept = record { basis = c.basis_of-basis.result; finding = c.find-finding.result } in
    let done = subst (λ r. OnOk r (c.insert.new.self ≡ insert c.self.inside.kept serial (Some kept))) c.unwrap.ensures c.insert.ensures.inserted in
    λ found.
    subst (AreFound it) (sym done)
    (found_inserted it c.self.inside.kept serial (Some kept) (c.find-finding.ensures.value ∙ ap (λ (t : List ℕ). found_from t c.basis_of-basis.result) thresholds)
    (subst (AreFound it) (sym c.self.view_is) found))

pub returns-clause-placed : goal.returns-clause-placed
returns-clause-placed g c =
    let before = root_bounds (g.S.Geometry.scene c.args.scene.now) (spot_of_root (observer_of c.args.watchers.now.part c.args.registration.0).root) in
    record {
      root = subst (IsNear before) (sym c.find-finding.ensures.root) c.basis_of-basis.ensures.near;
      bounds = c.find-finding.ensures.bounds;
      cut = c.find-finding.ensures.cut;
    }
