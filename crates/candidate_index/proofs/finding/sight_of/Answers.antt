use Rattle.std.proofs.Common.{◌≡◌, ◌∙◌, ◌+◌, length, ap, sym, subst}
use Rattle.element_tree.specs.declared.container.Container.{Container}
use Rattle.clip_chain.specs.Chains.{Leads}
use Rattle.clip_chain.specs.Worlds.{element_spot, spot_of_root}
use Rattle.intersection_observer.specs.Seen.{seen_root}
use Rattle.kept_clips.specs.declared.clip.Clip.{Clip}
use Rattle.kept_clips.specs.Clips.{clip_between}
use Rattle.kept_clips.specs.Held.{HeldClips, pair_of, with_clip}
use Rattle.kept_clips.specs.Chains.{is_current}
use Rattle.candidate_index.specs.declared.scene.Standing.{Standing}
use Rattle.candidate_index.specs.declared.scene.Standing.TheVariants.{Chained}
use Rattle.candidate_index.specs.declared.basis.Sight.TheVariants as sights
use Rattle.candidate_index.specs.Findings.{sight_over}
use Rattle.candidate_index.specs.Registrations.{HasClip}
use Rattle.candidate_index.specs.Asked.{asked_if, steps_if}
use Rattle.candidate_index.proofs.Asking.{once, counted, where_chained}
use Rattle.candidate_index.proofs.Keeping.{has_clip_still}
use Rattle.candidate_index.proofs.finding.sight_of.Goals as goal

pub returns-in-Chained-clause-sight : goal.returns-in-Chained-clause-sight
returns-in-Chained-clause-sight g c =
    let scene = g.S.Geometry.scene c.args.scene.now in
    let root = seen_root c.args.root in
    let target = c.args.target.0 in
    let standing : g.S.Scene.standings c.args.scene.now root target ≡ Chained = sym c.standing.ensures ∙ c.in-Chained.is in
    let ready = where_chained (g.S.Scene.standings c.args.scene.now root target) (HasClip scene c.args.clips.now c.args.serial root target) standing c.requires in
    λ between h.
    let leads = where_chained (g.S.Scene.standings c.args.scene.now root target) (Leads scene (element_spot target) between (spot_of_root root)) standing h in
    let pair = pair_of c.args.clips.now c.args.serial in
    let lead = subst (λ (r : Container). Leads scene pair.of between r) (sym ready.root_held) (subst (λ (o : Container). Leads scene o between (spot_of_root root)) (sym ready.target_held) leads) in
    let bounds = c.bounds.ensures.bounds in
    let clip = c.clip_of.ensures.clip between lead in
    (λ i. sights.Chained (bounds i) (clip i)) ∙ ap (λ (s : Standing). sight_over scene s target between) (sym standing)

pub returns-in-Chained-clause-clips : goal.returns-in-Chained-clause-clips
returns-in-Chained-clause-clips g c =
    let scene = g.S.Geometry.scene c.args.scene.now in
    let root = seen_root c.args.root in
    let target = c.args.target.0 in
    let clips : HeldClips = c.args.clips.now in
    let standing : g.S.Scene.standings c.args.scene.now root target ≡ Chained = sym c.standing.ensures ∙ c.in-Chained.is in
    let ready = where_chained (g.S.Scene.standings c.args.scene.now root target) (HasClip scene c.args.clips.now c.args.serial root target) standing c.requires in
    λ between h.
    let leads = where_chained (g.S.Scene.standings c.args.scene.now root target) (Leads scene (element_spot target) between (spot_of_root root)) standing h in
    let pair = pair_of c.args.clips.now c.args.serial in
    let lead = subst (λ (r : Container). Leads scene pair.of between r) (sym ready.root_held) (subst (λ (o : Container). Leads scene o between (spot_of_root root)) (sym ready.target_held) leads) in
    let clip = c.clip_of.ensures.clip between lead in
    once (is_current clips c.args.serial between) c.clip_of.new.self clips (with_clip c.args.serial (clip_between scene between) clips)
    (λ e. (c.clip_of.ensures.kept between lead e).0)
    (λ e. (c.clip_of.ensures.computed between lead e).0 ∙ ap (λ (k : Clip). with_clip c.args.serial k clips) clip)
    ∙ ap (λ (s : Standing). asked_if s scene between c.args.serial clips) (sym standing)

pub returns-in-Chained-clause-ticks : goal.returns-in-Chained-clause-ticks
returns-in-Chained-clause-ticks g c =
    let scene = g.S.Geometry.scene c.args.scene.now in
    let root = seen_root c.args.root in
    let target = c.args.target.0 in
    let clips : HeldClips = c.args.clips.now in
    let standing : g.S.Scene.standings c.args.scene.now root target ≡ Chained = sym c.standing.ensures ∙ c.in-Chained.is in
    let ready = where_chained (g.S.Scene.standings c.args.scene.now root target) (HasClip scene c.args.clips.now c.args.serial root target) standing c.requires in
    λ between h.
    let leads = where_chained (g.S.Scene.standings c.args.scene.now root target) (Leads scene (element_spot target) between (spot_of_root root)) standing h in
    let pair = pair_of c.args.clips.now c.args.serial in
    let lead = subst (λ (r : Container). Leads scene pair.of between r) (sym ready.root_held) (subst (λ (o : Container). Leads scene o between (spot_of_root root)) (sym ready.target_held) leads) in
    counted (is_current clips c.args.serial between) c.clip_of.new.steps c.args.steps.now (length between)
    (λ e. (c.clip_of.ensures.kept between lead e).1)
    (λ e. (c.clip_of.ensures.computed between lead e).1)
    ∙ ap (λ (s : Standing). c.args.steps.now + steps_if s between c.args.serial clips) (sym standing)

pub returns-in-Chained-clause-ready : goal.returns-in-Chained-clause-ready
returns-in-Chained-clause-ready g c = λ other root target has.
    has_clip_still (g.S.Geometry.scene c.args.scene.now) c.args.clips.now c.clip_of.new.self other root target (c.clip_of.ensures.spots other) (c.clip_of.ensures.exact other) has
