use Rattle.std.proofs.Common.{◌≡◌, ◌∙◌, ◌+◌, ℕ, filter, get_or, ap, sym, subst}
use Rattle.std.specs.List.{All}
use Rattle.std.specs.Prelude.{OnOk, IfOk}
use Rattle.std.proofs.lemmas.Result.{IfOk-weaker}
use Rattle.clip_chain.specs.Scenes.{Scene, through}
use Rattle.intersection_observer.specs.Seen.{serial_numbers}
use Rattle.kept_clips.specs.Seen.{scene_seen}
use Rattle.candidate_index.specs.Registrations.{serials_at, IsBetween, IsReady, IsRootUnmoved}
use Rattle.candidate_index.specs.Asked.{all_asked, all_steps}
use Rattle.candidate_index.specs.Held.{kept_of, is_stale_now}
use Rattle.kept_findings.specs.Held.{HeldFindings}
use Rattle.kept_findings.specs.Walks.{IsWalked, spots_between}
use Rattle.kept_findings.specs.Views.{seen_by, seen_for}
use Rattle.kept_findings.specs.Registered.{AreHeld, IsSettled}
use Rattle.kept_findings.proofs.Walking.{is_between}
use Rattle.kept_findings.proofs.Viewing.{view_is, places_at, stale_alike, all_unmoved, all_walked_through, between_through, all_between_through}
use Rattle.kept_findings.proofs.Asking.{Stays, all_ready, stays_asked, held_still}
use Rattle.kept_findings.proofs.findings.KeptFindings.stale_registrations.Goals as goal

pub stale_registrations-requires-clause-ready : goal.stale_registrations-requires-clause-ready
stale_registrations-requires-clause-ready g c =
    let scene = g.S.Geometry.scene c.args.scene.now in
    let standings = g.S.Scene.standings c.args.scene.now in
    let it = c.args.watchers.now.part in
    let margins = c.args.scroll_margins.now in
    let watcher = c.args.watcher.0 in
    let serials = serials_at it watcher in
    let at = places_at it watcher c.registrations.ensures.serials in
    let view : through c.root_spot.result c.margins_at.result scene ≡ seen_by it margins watcher scene =
    view_is it margins watcher c.root_spot.result c.margins_at.result scene c.root_spot.ensures c.margins_at.ensures in
    let rs = c.registrations.result.now in
    let seen = scene_seen c.self.inside.seen in
    let views : ℕ → Scene = λ s. seen_for it margins s seen in
    let before : Scene = seen_by it margins watcher seen in
    let now : Scene = seen_by it margins watcher scene in
    let clips = c.self.inside.clips in
    let between = spots_between scene standings c.requires.chained it in
    let held : AreHeld it margins (record { seen = c.self.inside.seen; clips = clips; kept = c.self.inside.index }) = subst (AreHeld it margins) (sym c.self.view_is) c.requires.held in
    let walked = all_walked_through it margins watcher standings scene seen serials (subst (λ (h : HeldFindings). All (IsWalked scene standings it h.seen) serials) (sym c.self.view_is) c.requires.walked) in
    let leads : (serial : ℕ) → IsBetween now standings it between serial = λ serial. between_through it margins watcher standings scene between serial (is_between scene standings c.requires.chained it serial) in
    let alike : All (λ serial. views serial ≡ before) serials = λ k d below. ap (λ w. seen_by it margins w seen) (at k d below) in
    subst (λ (s : Scene). All (IsReady s standings it clips) serials) (sym view)
    (all_ready views before now standings it between rs serials c.registrations.ensures.value alike c.registrations.ensures.standing walked leads clips held.pairs held.exact)

pub stale_registrations-requires-clause-unmoved : goal.stale_registrations-requires-clause-unmoved
stale_registrations-requires-clause-unmoved g c =
    let scene = g.S.Geometry.scene c.args.scene.now in
    let standings = g.S.Scene.standings c.args.scene.now in
    let it = c.args.watchers.now.part in
    let margins = c.args.scroll_margins.now in
    let watcher = c.args.watcher.0 in
    let serials = serials_at it watcher in
    let at = places_at it watcher c.registrations.ensures.serials in
    let view : through c.root_spot.result c.margins_at.result scene ≡ seen_by it margins watcher scene =
    view_is it margins watcher c.root_spot.result c.margins_at.result scene c.root_spot.ensures c.margins_at.ensures in
    subst (λ (s : Scene). All (IsRootUnmoved s it) serials) (sym view) (all_unmoved it margins watcher scene serials at)

pub returns-clause-stale : goal.returns-clause-stale
returns-clause-stale g c =
    let scene = g.S.Geometry.scene c.args.scene.now in
    let standings = g.S.Scene.standings c.args.scene.now in
    let it = c.args.watchers.now.part in
    let margins = c.args.scroll_margins.now in
    let watcher = c.args.watcher.0 in
    let serials = serials_at it watcher in
    let at = places_at it watcher c.registrations.ensures.serials in
    let view : through c.root_spot.result c.margins_at.result scene ≡ seen_by it margins watcher scene =
    view_is it margins watcher c.root_spot.result c.margins_at.result scene c.root_spot.ensures c.margins_at.ensures in
    let result = c.stale_registrations.result in
    λ between h.
    IfOk-weaker result (λ stale. serial_numbers stale.items ≡ filter (is_stale_now (seen_by it margins watcher scene) standings it between c.self.inside.index) serials)
    (λ stale. serial_numbers stale.items ≡ filter (λ serial. is_stale_now (seen_for it margins serial scene) standings it between c.args.self.now.kept serial) serials)
    (λ stale is.
    is
    ∙ stale_alike it margins watcher standings scene between c.self.inside.index serials at
    ∙ ap (λ (f : HeldFindings). filter (λ serial. is_stale_now (seen_for it margins serial scene) standings it between (f.kept) serial) serials) c.self.view_is)
    (subst (λ (s : Scene). All (IsBetween s standings it between) serials → IfOk result (λ stale. serial_numbers stale.items ≡ filter (is_stale_now s standings it between c.self.inside.index) serials)) view
    (c.stale_registrations.ensures.stale between) (all_between_through it margins watcher standings scene between serials h))

pub returns-clause-clips : goal.returns-clause-clips
returns-clause-clips g c =
    let scene = g.S.Geometry.scene c.args.scene.now in
    let standings = g.S.Scene.standings c.args.scene.now in
    let it = c.args.watchers.now.part in
    let margins = c.args.scroll_margins.now in
    let watcher = c.args.watcher.0 in
    let serials = serials_at it watcher in
    let at = places_at it watcher c.registrations.ensures.serials in
    let view : through c.root_spot.result c.margins_at.result scene ≡ seen_by it margins watcher scene =
    view_is it margins watcher c.root_spot.result c.margins_at.result scene c.root_spot.ensures c.margins_at.ensures in
    let result = c.stale_registrations.result in
    λ between h.
    subst (λ (f : HeldFindings). OnOk result (c.stale_registrations.new.clips ≡ all_asked (seen_by it margins watcher scene) standings it between serials (f.clips))) c.self.view_is
    (subst (λ (s : Scene). All (IsBetween s standings it between) serials → OnOk result (c.stale_registrations.new.clips ≡ all_asked s standings it between serials c.self.inside.clips)) view
    (c.stale_registrations.ensures.clips between) (all_between_through it margins watcher standings scene between serials h))

pub returns-clause-ticks : goal.returns-clause-ticks
returns-clause-ticks g c =
    let scene = g.S.Geometry.scene c.args.scene.now in
    let standings = g.S.Scene.standings c.args.scene.now in
    let it = c.args.watchers.now.part in
    let margins = c.args.scroll_margins.now in
    let watcher = c.args.watcher.0 in
    let serials = serials_at it watcher in
    let at = places_at it watcher c.registrations.ensures.serials in
    let view : through c.root_spot.result c.margins_at.result scene ≡ seen_by it margins watcher scene =
    view_is it margins watcher c.root_spot.result c.margins_at.result scene c.root_spot.ensures c.margins_at.ensures in
    let result = c.stale_registrations.result in
    λ between h.
    subst (λ (f : HeldFindings). OnOk result (c.stale_registrations.new.steps ≡ c.args.steps.now + all_steps (seen_by it margins watcher scene) standings it between serials (f.clips))) c.self.view_is
    (subst (λ (s : Scene). All (IsBetween s standings it between) serials → OnOk result (c.stale_registrations.new.steps ≡ c.args.steps.now + all_steps s standings it between serials c.self.inside.clips)) view
    (c.stale_registrations.ensures.ticks between) (all_between_through it margins watcher standings scene between serials h))

pub returns-clause-held : goal.returns-clause-held
returns-clause-held g c =
    let scene = g.S.Geometry.scene c.args.scene.now in
    let standings = g.S.Scene.standings c.args.scene.now in
    let it = c.args.watchers.now.part in
    let margins = c.args.scroll_margins.now in
    let watcher = c.args.watcher.0 in
    let serials = serials_at it watcher in
    let at = places_at it watcher c.registrations.ensures.serials in
    let view : through c.root_spot.result c.margins_at.result scene ≡ seen_by it margins watcher scene =
    view_is it margins watcher c.root_spot.result c.margins_at.result scene c.root_spot.ensures c.margins_at.ensures in
    let rs = c.registrations.result.now in
    let seen = scene_seen c.self.inside.seen in
    let views : ℕ → Scene = λ s. seen_for it margins s seen in
    let before : Scene = seen_by it margins watcher seen in
    let now : Scene = seen_by it margins watcher scene in
    let clips = c.self.inside.clips in
    let between = spots_between scene standings c.requires.chained it in
    let held : AreHeld it margins (record { seen = c.self.inside.seen; clips = clips; kept = c.self.inside.index }) = subst (AreHeld it margins) (sym c.self.view_is) c.requires.held in
    let walked = all_walked_through it margins watcher standings scene seen serials (subst (λ (h : HeldFindings). All (IsWalked scene standings it h.seen) serials) (sym c.self.view_is) c.requires.walked) in
    let leads : (serial : ℕ) → IsBetween now standings it between serial = λ serial. between_through it margins watcher standings scene between serial (is_between scene standings c.requires.chained it serial) in
    let alike : All (λ serial. views serial ≡ before) serials = λ k d below. ap (λ w. seen_by it margins w seen) (at k d below) in
    let result = c.stale_registrations.result in
    let stays : Stays views clips c.stale_registrations.new.clips =
    stays_asked views before now standings it between rs serials c.registrations.ensures.value alike c.registrations.ensures.standing walked leads result clips c.stale_registrations.new.clips held.pairs
    (subst (λ (s : Scene). All (IsBetween s standings it between) serials → OnOk result (c.stale_registrations.new.clips ≡ all_asked s standings it between serials clips)) view
    (c.stale_registrations.ensures.clips between) (λ k d below. leads (get_or serials k d)))
    c.stale_registrations.ensures.same_clips in
    held_still it margins c.self.inside.seen clips c.stale_registrations.new.clips c.self.inside.index stays held

pub returns-clause-touches : goal.returns-clause-touches
returns-clause-touches g c =
    let scene = g.S.Geometry.scene c.args.scene.now in
    let standings = g.S.Scene.standings c.args.scene.now in
    let it = c.args.watchers.now.part in
    let margins = c.args.scroll_margins.now in
    let watcher = c.args.watcher.0 in
    let serials = serials_at it watcher in
    let at = places_at it watcher c.registrations.ensures.serials in
    let view : through c.root_spot.result c.margins_at.result scene ≡ seen_by it margins watcher scene =
    view_is it margins watcher c.root_spot.result c.margins_at.result scene c.root_spot.ensures c.margins_at.ensures in
    let rs = c.registrations.result.now in
    let seen = scene_seen c.self.inside.seen in
    let views : ℕ → Scene = λ s. seen_for it margins s seen in
    let before : Scene = seen_by it margins watcher seen in
    let now : Scene = seen_by it margins watcher scene in
    let clips = c.self.inside.clips in
    let between = spots_between scene standings c.requires.chained it in
    let held : AreHeld it margins (record { seen = c.self.inside.seen; clips = clips; kept = c.self.inside.index }) = subst (AreHeld it margins) (sym c.self.view_is) c.requires.held in
    let walked = all_walked_through it margins watcher standings scene seen serials (subst (λ (h : HeldFindings). All (IsWalked scene standings it h.seen) serials) (sym c.self.view_is) c.requires.walked) in
    let leads : (serial : ℕ) → IsBetween now standings it between serial = λ serial. between_through it margins watcher standings scene between serial (is_between scene standings c.requires.chained it serial) in
    let alike : All (λ serial. views serial ≡ before) serials = λ k d below. ap (λ w. seen_by it margins w seen) (at k d below) in
    let result = c.stale_registrations.result in
    let stays : Stays views clips c.stale_registrations.new.clips =
    stays_asked views before now standings it between rs serials c.registrations.ensures.value alike c.registrations.ensures.standing walked leads result clips c.stale_registrations.new.clips held.pairs
    (subst (λ (s : Scene). All (IsBetween s standings it between) serials → OnOk result (c.stale_registrations.new.clips ≡ all_asked s standings it between serials clips)) view
    (c.stale_registrations.ensures.clips between) (λ k d below. leads (get_or serials k d)))
    c.stale_registrations.ensures.same_clips in
    stays.touches ∙ ap (λ (h : HeldFindings). h.clips.touches) c.self.view_is

pub returns-clause-registered : goal.returns-clause-registered
returns-clause-registered g c =
    λ registered.
    let held = returns-clause-held g c in
    record {
      held = held;
      settled = λ serial. subst (λ (h : HeldFindings). IsSettled c.args.watchers.now.part serial (kept_of h.kept serial)) (sym c.self.view_is) (registered.settled serial);
    }
