use Rattle.std.proofs.Common.{◌≡◌, ◌∙◌, ◌+◌, ℕ, Some, ap, refl, sym, subst}
use Rattle.std.specs.Ordering.{nat_cmp}
use Rattle.std.specs.FinMap.{FinMap, insert, contains_key}
use Rattle.std.specs.Prelude.{Option}
use Rattle.px_units.specs.declared.Rect.{Rect}
use Rattle.page_model.specs.Lookups.{scroll_margins_at}
use Rattle.clip_chain.specs.Scenes.{Scene, through, root_bounds}
use Rattle.clip_chain.specs.Worlds.{spot_of_root}
use Rattle.clip_chain.proofs.Moving.{root_unmoved, root_through}
use Rattle.intersection_observer.specs.Places.{Standing as Place, standing_of}
use Rattle.intersection_observer.specs.Seen.{seen_finding}
use Rattle.kept_clips.specs.Seen.{scene_seen}
use Rattle.candidate_index.specs.declared.index.Kept.{Kept}
use Rattle.candidate_index.specs.Ranges.{IsPlaced}
use Rattle.candidate_index.specs.Registrations.{place_of, observer_of, basis_for, finding_for, IsBetween, IsReady, IsRootUnmoved}
use Rattle.candidate_index.specs.Asked.{asked_for, steps_for}
use Rattle.candidate_index.proofs.Places.{looked_up}
use Rattle.kept_findings.specs.Held.{HeldFindings}
use Rattle.kept_findings.specs.Walks.{IsWalked, spots_between}
use Rattle.kept_findings.specs.Views.{seen_by, seen_for}
use Rattle.kept_findings.specs.Registered.{AreHeld}
use Rattle.kept_findings.proofs.Walking.{is_between}
use Rattle.kept_findings.proofs.Viewing.{view_is, walked_through, between_through}
use Rattle.kept_findings.proofs.Asking.{Stays, Known, known_of, asked_stays, ready_of}
use Rattle.kept_findings.proofs.Registering.{there_still}
use Rattle.kept_findings.proofs.findings.KeptFindings.recompute.Goals as goal

pub recompute-requires-clause-added : goal.recompute-requires-clause-added
recompute-requires-clause-added g c =
    (subst (AreHeld c.args.watchers.now.part c.args.scroll_margins.now) (sym c.self.view_is) c.requires.held).added c.args.registration.0 ∙ c.requires.standing

pub recompute-requires-clause-ready : goal.recompute-requires-clause-ready
recompute-requires-clause-ready g c =
    let scene = g.S.Geometry.scene c.args.scene.now in
    let standings = g.S.Scene.standings c.args.scene.now in
    let it = c.args.watchers.now.part in
    let margins = c.args.scroll_margins.now in
    let serial = c.args.registration.0 in
    let watcher : ℕ = (place_of it serial).watcher in
    let at : watcher ≡ c.watcher_of-watcher.result.0 = looked_up (λ (p : Place). p.watcher) (standing_of serial it) (record { watcher = 0; target = 0 }) c.watcher_of-watcher.result.0 c.watcher_of-watcher.ensures.value in
    let view : through c.root_spot.result c.margins_at.result scene ≡ seen_for it margins serial scene =
    view_is it margins c.watcher_of-watcher.result.0 c.root_spot.result c.margins_at.result scene c.root_spot.ensures c.margins_at.ensures ∙ ap (λ w. seen_by it margins w scene) (sym at) in
    let seen = scene_seen c.self.inside.seen in
    let views : ℕ → Scene = λ s. seen_for it margins s seen in
    let now : Scene = seen_for it margins serial scene in
    let clips = c.self.inside.clips in
    let between = spots_between scene standings c.requires.chained it in
    let held : AreHeld it margins (record { seen = c.self.inside.seen; clips = clips; kept = c.self.inside.index }) = subst (AreHeld it margins) (sym c.self.view_is) c.requires.held in
    let walked = subst (λ (h : HeldFindings). IsWalked scene standings it h.seen serial) (sym c.self.view_is) c.requires.walked in
    let leads : IsBetween now standings it between serial = between_through it margins watcher standings scene between serial (is_between scene standings c.requires.chained it serial) in
    let known : Known views (views serial) now standings it between serial =
    known_of views (views serial) now standings it between serial refl c.requires.standing (walked_through it margins watcher standings scene seen serial walked) leads in
    subst (λ (s : Scene). IsReady s standings it clips serial) (sym view) (ready_of views (views serial) now standings it between clips held.pairs held.exact serial known)

pub recompute-requires-clause-unmoved : goal.recompute-requires-clause-unmoved
recompute-requires-clause-unmoved g c =
    let scene = g.S.Geometry.scene c.args.scene.now in
    let standings = g.S.Scene.standings c.args.scene.now in
    let it = c.args.watchers.now.part in
    let margins = c.args.scroll_margins.now in
    let serial = c.args.registration.0 in
    let watcher : ℕ = (place_of it serial).watcher in
    let at : watcher ≡ c.watcher_of-watcher.result.0 = looked_up (λ (p : Place). p.watcher) (standing_of serial it) (record { watcher = 0; target = 0 }) c.watcher_of-watcher.result.0 c.watcher_of-watcher.ensures.value in
    let view : through c.root_spot.result c.margins_at.result scene ≡ seen_for it margins serial scene =
    view_is it margins c.watcher_of-watcher.result.0 c.root_spot.result c.margins_at.result scene c.root_spot.ensures c.margins_at.ensures ∙ ap (λ w. seen_by it margins w scene) (sym at) in
    subst (λ (s : Scene). IsRootUnmoved s it serial) (sym view) (root_unmoved scene (scroll_margins_at margins watcher) (spot_of_root (observer_of it serial).root))

pub returns-clause-finding : goal.returns-clause-finding
returns-clause-finding g c =
    let scene = g.S.Geometry.scene c.args.scene.now in
    let standings = g.S.Scene.standings c.args.scene.now in
    let it = c.args.watchers.now.part in
    let margins = c.args.scroll_margins.now in
    let serial = c.args.registration.0 in
    let watcher : ℕ = (place_of it serial).watcher in
    let at : watcher ≡ c.watcher_of-watcher.result.0 = looked_up (λ (p : Place). p.watcher) (standing_of serial it) (record { watcher = 0; target = 0 }) c.watcher_of-watcher.result.0 c.watcher_of-watcher.ensures.value in
    let view : through c.root_spot.result c.margins_at.result scene ≡ seen_for it margins serial scene =
    view_is it margins c.watcher_of-watcher.result.0 c.root_spot.result c.margins_at.result scene c.root_spot.ensures c.margins_at.ensures ∙ ap (λ w. seen_by it margins w scene) (sym at) in
    λ between h.
    subst (λ (s : Scene). IsBetween s standings it between serial → seen_finding c.recompute.result ≡ finding_for s standings it serial (between serial)) view (c.recompute.ensures.finding between)
    (between_through it margins watcher standings scene between serial h)

pub returns-clause-placed : goal.returns-clause-placed
returns-clause-placed g c =
    let scene = g.S.Geometry.scene c.args.scene.now in
    let standings = g.S.Scene.standings c.args.scene.now in
    let it = c.args.watchers.now.part in
    let margins = c.args.scroll_margins.now in
    let serial = c.args.registration.0 in
    let watcher : ℕ = (place_of it serial).watcher in
    let at : watcher ≡ c.watcher_of-watcher.result.0 = looked_up (λ (p : Place). p.watcher) (standing_of serial it) (record { watcher = 0; target = 0 }) c.watcher_of-watcher.result.0 c.watcher_of-watcher.ensures.value in
    let view : through c.root_spot.result c.margins_at.result scene ≡ seen_for it margins serial scene =
    view_is it margins c.watcher_of-watcher.result.0 c.root_spot.result c.margins_at.result scene c.root_spot.ensures c.margins_at.ensures ∙ ap (λ w. seen_by it margins w scene) (sym at) in
    let root = spot_of_root (observer_of it serial).root in
    subst (λ (r : Rect). IsPlaced r (seen_finding c.recompute.result)) (root_through scene (scroll_margins_at margins watcher) root)
    (subst (λ (s : Scene). IsPlaced (root_bounds s root) (seen_finding c.recompute.result)) view c.recompute.ensures.placed)

pub returns-clause-clips : goal.returns-clause-clips
returns-clause-clips g c =
    let scene = g.S.Geometry.scene c.args.scene.now in
    let standings = g.S.Scene.standings c.args.scene.now in
    let it = c.args.watchers.now.part in
    let margins = c.args.scroll_margins.now in
    let serial = c.args.registration.0 in
    let watcher : ℕ = (place_of it serial).watcher in
    let at : watcher ≡ c.watcher_of-watcher.result.0 = looked_up (λ (p : Place). p.watcher) (standing_of serial it) (record { watcher = 0; target = 0 }) c.watcher_of-watcher.result.0 c.watcher_of-watcher.ensures.value in
    let view : through c.root_spot.result c.margins_at.result scene ≡ seen_for it margins serial scene =
    view_is it margins c.watcher_of-watcher.result.0 c.root_spot.result c.margins_at.result scene c.root_spot.ensures c.margins_at.ensures ∙ ap (λ w. seen_by it margins w scene) (sym at) in
    λ between h.
    subst (λ (s : Scene). IsBetween s standings it between serial → c.recompute.new.clips ≡ asked_for s standings it between serial c.self.inside.clips) view (c.recompute.ensures.clips between)
    (between_through it margins watcher standings scene between serial h)
    ∙ ap (λ (f : HeldFindings). asked_for (seen_for it margins serial scene) standings it between serial (f.clips)) c.self.view_is

pub returns-clause-ticks : goal.returns-clause-ticks
returns-clause-ticks g c =
    let scene = g.S.Geometry.scene c.args.scene.now in
    let standings = g.S.Scene.standings c.args.scene.now in
    let it = c.args.watchers.now.part in
    let margins = c.args.scroll_margins.now in
    let serial = c.args.registration.0 in
    let watcher : ℕ = (place_of it serial).watcher in
    let at : watcher ≡ c.watcher_of-watcher.result.0 = looked_up (λ (p : Place). p.watcher) (standing_of serial it) (record { watcher = 0; target = 0 }) c.watcher_of-watcher.result.0 c.watcher_of-watcher.ensures.value in
    let view : through c.root_spot.result c.margins_at.result scene ≡ seen_for it margins serial scene =
    view_is it margins c.watcher_of-watcher.result.0 c.root_spot.result c.margins_at.result scene c.root_spot.ensures c.margins_at.ensures ∙ ap (λ w. seen_by it margins w scene) (sym at) in
    λ between h.
    subst (λ (s : Scene). IsBetween s standings it between serial → c.recompute.new.steps ≡ c.args.steps.now + steps_for s standings it between serial c.self.inside.clips + 1) view (c.recompute.ensures.ticks between)
    (between_through it margins watcher standings scene between serial h)
    ∙ ap (λ (f : HeldFindings). c.args.steps.now + steps_for (seen_for it margins serial scene) standings it between serial (f.clips) + 1) c.self.view_is

pub returns-clause-kept : goal.returns-clause-kept
returns-clause-kept g c =
    let scene = g.S.Geometry.scene c.args.scene.now in
    let standings = g.S.Scene.standings c.args.scene.now in
    let it = c.args.watchers.now.part in
    let margins = c.args.scroll_margins.now in
    let serial = c.args.registration.0 in
    let watcher : ℕ = (place_of it serial).watcher in
    let at : watcher ≡ c.watcher_of-watcher.result.0 = looked_up (λ (p : Place). p.watcher) (standing_of serial it) (record { watcher = 0; target = 0 }) c.watcher_of-watcher.result.0 c.watcher_of-watcher.ensures.value in
    let view : through c.root_spot.result c.margins_at.result scene ≡ seen_for it margins serial scene =
    view_is it margins c.watcher_of-watcher.result.0 c.root_spot.result c.margins_at.result scene c.root_spot.ensures c.margins_at.ensures ∙ ap (λ w. seen_by it margins w scene) (sym at) in
    λ between h.
    subst (λ (s : Scene). IsBetween s standings it between serial → c.recompute.new.self ≡ insert c.self.inside.index serial (Some (record { basis = basis_for s standings it serial (between serial); finding = c.recompute.result })))
    view (c.recompute.ensures.kept between)
    (between_through it margins watcher standings scene between serial h)
    ∙ ap (λ (f : HeldFindings). insert (f.kept) serial (Some (record { basis = basis_for (seen_for it margins serial scene) standings it serial (between serial); finding = c.recompute.result }))) c.self.view_is

pub returns-clause-touches : goal.returns-clause-touches
returns-clause-touches g c =
    let scene = g.S.Geometry.scene c.args.scene.now in
    let standings = g.S.Scene.standings c.args.scene.now in
    let it = c.args.watchers.now.part in
    let margins = c.args.scroll_margins.now in
    let serial = c.args.registration.0 in
    let watcher : ℕ = (place_of it serial).watcher in
    let at : watcher ≡ c.watcher_of-watcher.result.0 = looked_up (λ (p : Place). p.watcher) (standing_of serial it) (record { watcher = 0; target = 0 }) c.watcher_of-watcher.result.0 c.watcher_of-watcher.ensures.value in
    let view : through c.root_spot.result c.margins_at.result scene ≡ seen_for it margins serial scene =
    view_is it margins c.watcher_of-watcher.result.0 c.root_spot.result c.margins_at.result scene c.root_spot.ensures c.margins_at.ensures ∙ ap (λ w. seen_by it margins w scene) (sym at) in
    let seen = scene_seen c.self.inside.seen in
    let views : ℕ → Scene = λ s. seen_for it margins s seen in
    let now : Scene = seen_for it margins serial scene in
    let clips = c.self.inside.clips in
    let between = spots_between scene standings c.requires.chained it in
    let held : AreHeld it margins (record { seen = c.self.inside.seen; clips = clips; kept = c.self.inside.index }) = subst (AreHeld it margins) (sym c.self.view_is) c.requires.held in
    let walked = subst (λ (h : HeldFindings). IsWalked scene standings it h.seen serial) (sym c.self.view_is) c.requires.walked in
    let leads : IsBetween now standings it between serial = between_through it margins watcher standings scene between serial (is_between scene standings c.requires.chained it serial) in
    let known : Known views (views serial) now standings it between serial =
    known_of views (views serial) now standings it between serial refl c.requires.standing (walked_through it margins watcher standings scene seen serial walked) leads in
    let stays : Stays views clips c.recompute.new.clips =
    subst (Stays views clips)
    (sym (subst (λ (s : Scene). IsBetween s standings it between serial → c.recompute.new.clips ≡ asked_for s standings it between serial clips) view (c.recompute.ensures.clips between) leads))
    (asked_stays views (views serial) now standings it between clips serial (held.pairs serial) known) in
    stays.touches ∙ ap (λ (h : HeldFindings). h.clips.touches) c.self.view_is

pub returns-clause-held : goal.returns-clause-held
returns-clause-held g c =
    let scene = g.S.Geometry.scene c.args.scene.now in
    let standings = g.S.Scene.standings c.args.scene.now in
    let it = c.args.watchers.now.part in
    let margins = c.args.scroll_margins.now in
    let serial = c.args.registration.0 in
    let watcher : ℕ = (place_of it serial).watcher in
    let at : watcher ≡ c.watcher_of-watcher.result.0 = looked_up (λ (p : Place). p.watcher) (standing_of serial it) (record { watcher = 0; target = 0 }) c.watcher_of-watcher.result.0 c.watcher_of-watcher.ensures.value in
    let view : through c.root_spot.result c.margins_at.result scene ≡ seen_for it margins serial scene =
    view_is it margins c.watcher_of-watcher.result.0 c.root_spot.result c.margins_at.result scene c.root_spot.ensures c.margins_at.ensures ∙ ap (λ w. seen_by it margins w scene) (sym at) in
    let seen = scene_seen c.self.inside.seen in
    let views : ℕ → Scene = λ s. seen_for it margins s seen in
    let now : Scene = seen_for it margins serial scene in
    let clips = c.self.inside.clips in
    let between = spots_between scene standings c.requires.chained it in
    let held : AreHeld it margins (record { seen = c.self.inside.seen; clips = clips; kept = c.self.inside.index }) = subst (AreHeld it margins) (sym c.self.view_is) c.requires.held in
    let walked = subst (λ (h : HeldFindings). IsWalked scene standings it h.seen serial) (sym c.self.view_is) c.requires.walked in
    let leads : IsBetween now standings it between serial = between_through it margins watcher standings scene between serial (is_between scene standings c.requires.chained it serial) in
    let known : Known views (views serial) now standings it between serial =
    known_of views (views serial) now standings it between serial refl c.requires.standing (walked_through it margins watcher standings scene seen serial walked) leads in
    let stays : Stays views clips c.recompute.new.clips =
    subst (Stays views clips)
    (sym (subst (λ (s : Scene). IsBetween s standings it between serial → c.recompute.new.clips ≡ asked_for s standings it between serial clips) view (c.recompute.ensures.clips between) leads))
    (asked_stays views (views serial) now standings it between clips serial (held.pairs serial) known) in
    let last : Option Kept = Some (record { basis = basis_for now standings it serial (between serial); finding = c.recompute.result }) in
    record {
      pairs = λ other. stays.spots other ∙ held.pairs other;
      added = λ other.
          ap (λ (kept : FinMap nat_cmp (Option Kept)). contains_key kept other)
          (subst (λ (s : Scene). IsBetween s standings it between serial → c.recompute.new.self ≡ insert c.self.inside.index serial (Some (record { basis = basis_for s standings it serial (between serial); finding = c.recompute.result }))) view
          (c.recompute.ensures.kept between) leads)
          ∙ there_still c.self.inside.index serial last (held.added serial ∙ c.requires.standing) other
          ∙ held.added other;
      found = c.recompute.ensures.found held.found;
      exact = stays.exact held.exact;
    }
