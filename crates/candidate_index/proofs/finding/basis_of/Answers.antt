use Rattle.std.proofs.Common.{◌≡◌, ◌∙◌, ℕ, false, ◌+◌, ap, sym, subst}
use Rattle.page_model.specs.World.{Root}
use Rattle.page_model.specs.Chains.{moved_out}
use Rattle.page_model.specs.Lookups.{intersection_observer_at}
use Rattle.clip_chain.specs.Scenes.{root_bounds}
use Rattle.clip_chain.specs.Chains.{Leads}
use Rattle.clip_chain.specs.Worlds.{element_spot, spot_of_root}
use Rattle.intersection_observer.specs.Places.{Standing as Place, standing_of}
use Rattle.intersection_observer.specs.Seen.{seen_root}
use Rattle.thresholds.specs.Roots.{IsNear}
use Rattle.candidate_index.specs.Findings.{limits_of, sight_over}
use Rattle.candidate_index.specs.Registrations.{observer_of, target_of, standing_for, IfChained, HasClip}
use Rattle.candidate_index.specs.Asked.{asked_if, steps_if}
use Rattle.candidate_index.proofs.Places.{looked_up}
use Rattle.candidate_index.proofs.Keeping.{if_still}
use Rattle.candidate_index.proofs.finding.basis_of.Goals as goal

pub sight_of-requires : goal.sight_of-requires
sight_of-requires g c =
    let scene = g.S.Geometry.scene c.args.scene.now in
    let standings = g.S.Scene.standings c.args.scene.now in
    let it = c.args.watchers.now.part in
    let serial = c.args.registration.0 in
    let watcher = looked_up (λ (p : Place). p.watcher) (standing_of serial it) (record { watcher = 0; target = 0 }) c.watcher_of-watcher.result.0 c.watcher_of-watcher.ensures.value in
    let target : target_of it serial ≡ c.target_of-target.result.0 = looked_up (λ (p : Place). p.target) (standing_of serial it) (record { watcher = 0; target = 0 }) c.target_of-target.result.0 c.target_of-target.ensures in
    let root : (observer_of it serial).root ≡ seen_root c.root_of-root.result = ap (λ w. (intersection_observer_at it w).root) watcher ∙ sym c.root_of-root.ensures in
    let P : Root → ℕ → Type 0 = λ r t. IfChained (standings r t) (HasClip scene c.args.clips.now serial r t) in
    subst (λ r. P r c.target_of-target.result.0) root (subst (λ t. P (observer_of it serial).root t) target c.requires.ready)

pub limits_of-requires : goal.limits_of-requires
limits_of-requires g c =
    let it = c.args.watchers.now.part in
    let serial = c.args.registration.0 in
    let watcher = looked_up (λ (p : Place). p.watcher) (standing_of serial it) (record { watcher = 0; target = 0 }) c.watcher_of-watcher.result.0 c.watcher_of-watcher.ensures.value in
    let root : (observer_of it serial).root ≡ seen_root c.root_of-root.result = ap (λ w. (intersection_observer_at it w).root) watcher ∙ sym c.root_of-root.ensures in
    subst (λ (r : Root). (g.S.Geometry.scene c.args.scene.now).moved (spot_of_root r) ≡ false) root c.requires.unmoved

pub returns-clause-basis : goal.returns-clause-basis
returns-clause-basis g c =
    let scene = g.S.Geometry.scene c.args.scene.now in
    let standings = g.S.Scene.standings c.args.scene.now in
    let it = c.args.watchers.now.part in
    let serial = c.args.registration.0 in
    let watcher = looked_up (λ (p : Place). p.watcher) (standing_of serial it) (record { watcher = 0; target = 0 }) c.watcher_of-watcher.result.0 c.watcher_of-watcher.ensures.value in
    let target : target_of it serial ≡ c.target_of-target.result.0 = looked_up (λ (p : Place). p.target) (standing_of serial it) (record { watcher = 0; target = 0 }) c.target_of-target.result.0 c.target_of-target.ensures in
    let root : (observer_of it serial).root ≡ seen_root c.root_of-root.result = ap (λ w. (intersection_observer_at it w).root) watcher ∙ sym c.root_of-root.ensures in
    let margins : c.margins_of.result.now ≡ (observer_of it serial).margins = c.margins_of.ensures ∙ ap (λ w. (intersection_observer_at it w).margins) (sym watcher) in
    let limits : c.limits_of.result ≡ limits_of scene (observer_of it serial) = c.limits_of.ensures.value ∙ (λ i. moved_out (margins i) (root_bounds scene (spot_of_root (sym root i)))) in
    λ between h.
    let P : Root → ℕ → Type 0 = λ r t. IfChained (standings r t) (Leads scene (element_spot t) (between serial) (spot_of_root r)) in
    let leads = subst (λ r. P r c.target_of-target.result.0) root (subst (λ t. P (observer_of it serial).root t) target h) in
    let sight = c.sight_of.ensures.sight (between serial) leads ∙ (λ i. sight_over scene (standings (sym root i) (sym target i)) (sym target i) (between serial)) in
    λ i. record { limits = limits i; sight = sight i }

pub returns-clause-clips : goal.returns-clause-clips
returns-clause-clips g c =
    let scene = g.S.Geometry.scene c.args.scene.now in
    let standings = g.S.Scene.standings c.args.scene.now in
    let it = c.args.watchers.now.part in
    let serial = c.args.registration.0 in
    let watcher = looked_up (λ (p : Place). p.watcher) (standing_of serial it) (record { watcher = 0; target = 0 }) c.watcher_of-watcher.result.0 c.watcher_of-watcher.ensures.value in
    let target : target_of it serial ≡ c.target_of-target.result.0 = looked_up (λ (p : Place). p.target) (standing_of serial it) (record { watcher = 0; target = 0 }) c.target_of-target.result.0 c.target_of-target.ensures in
    let root : (observer_of it serial).root ≡ seen_root c.root_of-root.result = ap (λ w. (intersection_observer_at it w).root) watcher ∙ sym c.root_of-root.ensures in
    λ between h.
    let P : Root → ℕ → Type 0 = λ r t. IfChained (standings r t) (Leads scene (element_spot t) (between serial) (spot_of_root r)) in
    let leads = subst (λ r. P r c.target_of-target.result.0) root (subst (λ t. P (observer_of it serial).root t) target h) in
    c.sight_of.ensures.clips (between serial) leads ∙ (λ i. asked_if (standings (sym root i) (sym target i)) scene (between serial) serial c.args.clips.now)

pub returns-clause-ticks : goal.returns-clause-ticks
returns-clause-ticks g c =
    let scene = g.S.Geometry.scene c.args.scene.now in
    let standings = g.S.Scene.standings c.args.scene.now in
    let it = c.args.watchers.now.part in
    let serial = c.args.registration.0 in
    let watcher = looked_up (λ (p : Place). p.watcher) (standing_of serial it) (record { watcher = 0; target = 0 }) c.watcher_of-watcher.result.0 c.watcher_of-watcher.ensures.value in
    let target : target_of it serial ≡ c.target_of-target.result.0 = looked_up (λ (p : Place). p.target) (standing_of serial it) (record { watcher = 0; target = 0 }) c.target_of-target.result.0 c.target_of-target.ensures in
    let root : (observer_of it serial).root ≡ seen_root c.root_of-root.result = ap (λ w. (intersection_observer_at it w).root) watcher ∙ sym c.root_of-root.ensures in
    λ between h.
    let P : Root → ℕ → Type 0 = λ r t. IfChained (standings r t) (Leads scene (element_spot t) (between serial) (spot_of_root r)) in
    let leads = subst (λ r. P r c.target_of-target.result.0) root (subst (λ t. P (observer_of it serial).root t) target h) in
    c.sight_of.ensures.ticks (between serial) leads ∙ (λ i. c.args.steps.now + steps_if (standings (sym root i) (sym target i)) (between serial) serial c.args.clips.now)

pub returns-clause-ready : goal.returns-clause-ready
returns-clause-ready g c = λ other.
    let scene = g.S.Geometry.scene c.args.scene.now in
    let it = c.args.watchers.now.part in
    let root = (observer_of it other).root in
    let target = target_of it other in
    if_still (standing_for (g.S.Scene.standings c.args.scene.now) it other) (HasClip scene c.args.clips.now other root target) (HasClip scene c.sight_of.new.clips other root target)
    (c.sight_of.ensures.ready other root target)

pub returns-clause-near : goal.returns-clause-near
returns-clause-near g c =
    let scene = g.S.Geometry.scene c.args.scene.now in
    let it = c.args.watchers.now.part in
    let serial = c.args.registration.0 in
    let watcher = looked_up (λ (p : Place). p.watcher) (standing_of serial it) (record { watcher = 0; target = 0 }) c.watcher_of-watcher.result.0 c.watcher_of-watcher.ensures.value in
    let root : (observer_of it serial).root ≡ seen_root c.root_of-root.result = ap (λ w. (intersection_observer_at it w).root) watcher ∙ sym c.root_of-root.ensures in
    subst (λ (r : Root). IsNear (root_bounds scene (spot_of_root r)) c.limits_of.result) (sym root) c.limits_of.ensures.near
