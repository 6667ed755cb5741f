use Rattle.std.proofs.Common.{◌∙◌, None, ap, sym, subst, is_some, refl}
use Rattle.std.specs.Prelude.{Option}
use Rattle.intersection_observer.specs.Places.{Standing as Place}
use Rattle.intersection_observer.specs.Seen.{seen_finding}
use Rattle.intersection_observer.specs.Watchers.{HeldWatchers}
use Rattle.candidate_index.specs.declared.index.Kept.{Kept}
use Rattle.candidate_index.specs.Registrations.{basis_for}
use Rattle.candidate_index.specs.Held.{kept_of}
use Rattle.kept_findings.specs.Held.{HeldFindings}
use Rattle.kept_findings.specs.Walks.{spots_between}
use Rattle.kept_findings.specs.Views.{seen_for}
use Rattle.kept_findings.specs.Registered.{AreRegistered}
use Rattle.kept_findings.proofs.Walking.{is_between}
use Rattle.kept_findings.proofs.Settled.{kept_own, kept_other}
use Rattle.kept_findings.proofs.Finding.{fresh_found, others_found, registered_found, registered_refused}
use Rattle.kept_findings.proofs.findings.KeptFindings.settle.Goals as goal

pub returns-in-Ok-clause-fresh : goal.returns-in-Ok-clause-fresh
returns-in-Ok-clause-fresh g c = λ between leads.
    let scene = g.S.Geometry.scene c.args.scene.now in
    let standings = g.S.Scene.standings c.args.scene.now in
    let it = c.args.watchers.now.part in
    let serial = c.args.registration.0 in
    let margins = c.args.scroll_margins.now in
    let view = seen_for it margins serial scene in
    let kept = c.tell-told.ensures.kept in
    fresh_found view standings it serial c.args.self.now.kept c.tell-told.new.self.kept (record { basis = basis_for view standings it serial (between serial); finding = kept.0 }) (kept.1.2 between leads) between refl

pub returns-in-Ok-clause-others : goal.returns-in-Ok-clause-others
returns-in-Ok-clause-others g c = λ other apart.
    let scene = g.S.Geometry.scene c.args.scene.now in
    let standings = g.S.Scene.standings c.args.scene.now in
    let it = c.args.watchers.now.part in
    let serial = c.args.registration.0 in
    let margins = c.args.scroll_margins.now in
    let view = seen_for it margins serial scene in
    let between = spots_between scene standings c.requires.chained it in
    let kept = c.tell-told.ensures.kept in
    others_found view standings it serial c.args.self.now.kept c.tell-told.new.self.kept (record { basis = basis_for view standings it serial (between serial); finding = kept.0 })
    (kept.1.2 between (is_between scene standings c.requires.chained it serial)) other apart

pub returns-in-Ok-clause-registered : goal.returns-in-Ok-clause-registered
returns-in-Ok-clause-registered g c =
    let scene = g.S.Geometry.scene c.args.scene.now in
    let standings = g.S.Scene.standings c.args.scene.now in
    let it = c.args.watchers.now.part in
    let serial = c.args.registration.0 in
    let margins = c.args.scroll_margins.now in
    let view = seen_for it margins serial scene in
    let between = spots_between scene standings c.requires.chained it in
    let kept = c.tell-told.ensures.kept in
    let last : Kept = record { basis = basis_for view standings it serial (between serial); finding = kept.0 } in
    subst (λ (watchers : HeldWatchers). AreRegistered watchers.part margins c.tell-told.new.self) (sym c.in-Ok.ensures.settled)
    (registered_found it margins c.args.self.now c.tell-told.new.self serial c.args.time last (seen_finding c.tell-told.result) c.requires.registered c.tell-told.ensures.held
    (kept.1.2 between (is_between scene standings c.requires.chained it serial)) c.requires.serials kept.1.0 kept.1.1)

pub returns-in-Err-clause-expired : goal.returns-in-Err-clause-expired
returns-in-Err-clause-expired g c =
    ap (λ (held : HeldFindings). kept_of held.kept c.args.registration.0) c.expire.ensures ∙ kept_own c.tell-told.new.self.kept c.args.registration.0 None

pub returns-in-Err-clause-others : goal.returns-in-Err-clause-others
returns-in-Err-clause-others g c = λ other apart.
    let scene = g.S.Geometry.scene c.args.scene.now in
    let standings = g.S.Scene.standings c.args.scene.now in
    let it = c.args.watchers.now.part in
    let serial = c.args.registration.0 in
    let margins = c.args.scroll_margins.now in
    let view = seen_for it margins serial scene in
    let between = spots_between scene standings c.requires.chained it in
    let kept = c.tell-told.ensures.kept in
    ap (λ (held : HeldFindings). kept_of held.kept other) c.expire.ensures
    ∙ kept_other c.tell-told.new.self.kept serial other None apart
    ∙ others_found view standings it serial c.args.self.now.kept c.tell-told.new.self.kept (record { basis = basis_for view standings it serial (between serial); finding = kept.0 })
    (kept.1.2 between (is_between scene standings c.requires.chained it serial)) other apart

pub returns-in-Err-clause-registered : goal.returns-in-Err-clause-registered
returns-in-Err-clause-registered g c =
    let scene = g.S.Geometry.scene c.args.scene.now in
    let standings = g.S.Scene.standings c.args.scene.now in
    let it = c.args.watchers.now.part in
    let serial = c.args.registration.0 in
    let margins = c.args.scroll_margins.now in
    let view = seen_for it margins serial scene in
    let between = spots_between scene standings c.requires.chained it in
    let kept = c.tell-told.ensures.kept in
    let last : Kept = record { basis = basis_for view standings it serial (between serial); finding = kept.0 } in
    let there = c.tell-told.ensures.held.added serial ∙ ap (λ (o : Option Place). is_some o) c.requires.stands in
    subst (λ (watchers : HeldWatchers). AreRegistered watchers.part margins c.expire.new.self) (sym c.in-Err.ensures.same)
    (subst (AreRegistered it margins) (sym c.expire.ensures)
    (registered_refused it margins c.args.self.now c.tell-told.new.self serial c.args.time last (seen_finding c.tell-told.result) c.requires.registered c.tell-told.ensures.held
    (kept.1.2 between (is_between scene standings c.requires.chained it serial)) there))
