-- The registrations of a document are settled.
use Rattle.std.proofs.Common.{◌≡◌, ◌<◌, ◌≤◌, ◌+◌, Bool, List, length, rules, ap, sym, subst, ◌∙◌, arith}
use Rattle.std.specs.Prelude.{OnErr}
use Rattle.script_model.specs.Margins.{Margins}
use Rattle.page_model.specs.Shown.{Shown, shown_with}
use Rattle.page_model.specs.World.{Tree}
use Rattle.intersection_observer.specs.Watchers.{HeldWatchers}
use Rattle.intersection_update.specs.Keeping.{HaveChains, IsRefused}
use Rattle.intersection_update.specs.Steps.{most_steps}
use Rattle.intersection_update.specs.Updating.{updated, has_news, AreSettled, IsStopped}
use Rattle.kept_findings.specs.Registered.{AreRegistered}
use Rattle.page_boxes.specs.Kept.{LeavesUnboxed}
use Rattle.page_boxes.specs.Pages.{seen_screen}
use Rattle.page_state.specs.Boxes.{due_count}
use Rattle.page_state.specs.Findings.{Updates, AreUpdated}
use Rattle.page_state.specs.Quiet.{AreQuiet, noted}
use Rattle.page_state.specs.Views.{PageView}
use Rattle.page_state.proofs.Laid.{view_refreshed}
use Rattle.page_state.proofs.Quiet.{quiet_noted}
use Rattle.page_state.proofs.Updated.{at_world, on_ok, on_err, if_ok, ok_each, ok_all}
use Rattle.page_state.proofs.page.Page.settle_intersections.Goals as goal

pub returns-clause-updated : goal.returns-clause-updated
returns-clause-updated g c =
    on_ok c.update-told.result
    (λ is. at_world c.self.inside c.refresh.new.self c.refresh.ensures.same c.args.self.now c.self.view_is c.shown_at_once-shown.ensures c.as_slice.ensures.value
    (λ (s : Shown) (m : List Margins) (v : PageView). c.update-told.new.watchers.part ≡ updated s m s.tree c.args.document.0 v.world.clock v.world.intersection_observers)
    (ap (λ (it : HeldWatchers). it.part) is))
    c.update-told.ensures.updated

pub returns-clause-queued : goal.returns-clause-queued
returns-clause-queued g c =
    if_ok c.update-told.result
    (λ queued is. at_world c.self.inside c.refresh.new.self c.refresh.ensures.same c.args.self.now c.self.view_is c.shown_at_once-shown.ensures c.as_slice.ensures.value
    (λ (s : Shown) (m : List Margins) (v : PageView). queued ≡ has_news s.tree c.args.document.0 v.world.intersection_observers (updated s m s.tree c.args.document.0 v.world.clock v.world.intersection_observers))
    is)
    c.update-told.ensures.queued

pub returns-clause-rest : goal.returns-clause-rest
returns-clause-rest g c =
    ap (λ (v : PageView). record v { world = record (v.world) { intersection_observers = c.update-told.new.watchers.part }; found = c.update-told.new.findings })
    (view_refreshed c.self.inside c.refresh.new.self c.refresh.ensures.same c.args.self.now c.self.view_is)

pub returns-clause-stopped : goal.returns-clause-stopped
returns-clause-stopped g c =
    on_err c.update-told.result
    (at_world c.self.inside c.refresh.new.self c.refresh.ensures.same c.args.self.now c.self.view_is c.shown_at_once-shown.ensures c.as_slice.ensures.value
    (λ (s : Shown) (m : List Margins) (v : PageView). IsStopped s m s.tree c.args.document.0 v.world.clock v.world.intersection_observers c.update-told.new.watchers.part))
    c.update-told.ensures.stopped

pub returns-clause-unboxed : goal.returns-clause-unboxed
returns-clause-unboxed g c =
    subst (λ (v : PageView). LeavesUnboxed v.world.tree v.world.viewports.screen v.kept c.refresh.new.self.kept) c.self.view_is c.refresh.ensures.unboxed

pub returns-clause-settled : goal.returns-clause-settled
returns-clause-settled g c =
    on_ok c.update-told.result
    (at_world c.self.inside c.refresh.new.self c.refresh.ensures.same c.args.self.now c.self.view_is c.shown_at_once-shown.ensures c.as_slice.ensures.value
    (λ (s : Shown) (m : List Margins) (v : PageView). AreSettled s m c.args.document.0 v.world.intersection_observers c.update-told.new.watchers.part))
    c.update-told.ensures.settled

pub returns-clause-findings : goal.returns-clause-findings
returns-clause-findings g c =
    at_world c.self.inside c.refresh.new.self c.refresh.ensures.same c.args.self.now c.self.view_is c.shown_at_once-shown.ensures c.as_slice.ensures.value
    (λ (s : Shown) (m : List Margins) (v : PageView). Updates s m c.args.document.0 v.world.intersection_observers v.found c.update-told.new.findings)
    (record { touched = c.update-told.ensures.touched; left = c.update-told.ensures.left; kept = c.update-told.ensures.kept; others = c.update-told.ensures.others; pairs = c.update-told.ensures.pairs; computed = c.update-told.ensures.computed })

pub returns-clause-refused : goal.returns-clause-refused
returns-clause-refused g c = λ chained.
    at_world c.self.inside c.refresh.new.self c.refresh.ensures.same c.args.self.now c.self.view_is c.shown_at_once-shown.ensures c.as_slice.ensures.value
    (λ (s : Shown) (m : List Margins) (v : PageView). (chained : HaveChains s) → OnErr c.update-told.result (IsRefused s m chained c.args.document.0 v.world.clock v.world.intersection_observers c.update-told.new.watchers.part v.found.kept c.update-told.new.findings.kept))
    c.update-told.ensures.refused chained

pub returns-clause-ticks : goal.returns-clause-ticks
returns-clause-ticks g c =
    at_world c.self.inside c.refresh.new.self c.refresh.ensures.same c.args.self.now c.self.view_is c.shown_at_once-shown.ensures c.as_slice.ensures.value
    (λ (s : Shown) (m : List Margins) (v : PageView). (chained : HaveChains s) →
    c.update-told.new.steps + due_count v.world c.refresh.new.self.kept
    ≤ c.args.steps.now + due_count v.world v.kept + most_steps s m chained c.args.document.0 (v.world.intersection_observers) v.found c.update-told.new.findings)
    (λ chained. let registrations = c.update-told.ensures.ticks chained in let boxes = c.refresh.ensures.ticks in omega (arith, registrations, boxes))

pub returns-clause-fresh : goal.returns-clause-fresh
returns-clause-fresh g c =
    ok_all c.update-told.result
    (λ seen fresh current. at_world c.self.inside c.refresh.new.self c.refresh.ensures.same c.args.self.now c.self.view_is c.shown_at_once-shown.ensures c.as_slice.ensures.value
    (λ (s : Shown) (m : List Margins) (v : PageView). AreUpdated s m c.args.document.0 c.update-told.new.watchers.part c.update-told.new.findings)
    (record { seen = seen; fresh = fresh; current = current }))
    c.update-told.ensures.seen (ok_each _ c.update-told.result c.update-told.ensures.fresh) (ok_each _ c.update-told.result c.update-told.ensures.current)

pub note-requires : goal.note-requires
note-requires g c =
    let there : c.args.document.0 < length c.self.inside.laid.elements.tree.documents = subst (λ (v : PageView). c.args.document.0 < length v.world.tree.documents) (sym c.self.view_is) c.requires in
    let few : length c.self.inside.laid.elements.tree.documents ≤ 64 =
    subst (λ (it : Tree). length it.documents ≤ 64) (c.page.ensures.tree ∙ (λ i. (c.refresh.ensures.same i).tree)) c.document_count-count.ensures.bound in
    omega (arith, there, few)

-- what is noted of the documents
pub invariant_of-self : goal.invariant_of-self
invariant_of-self g c =
    let page = c.self.inside in
    let part = c.update-told.new.watchers.part in
    let found = c.update-told.new.findings in
    let margins = c.as_slice.result.now in
    let is = c.shown_at_once-shown.ensures in
    let before : AreQuiet page.settled c.shown_at_once-shown.result margins page.watchers.part page.findings =
    subst (λ (m : List Margins). AreQuiet page.settled c.shown_at_once-shown.result m page.watchers.part page.findings) (sym c.as_slice.ensures.value)
    (subst (λ (s : Shown). AreQuiet page.settled s page.scroll_margins.items page.watchers.part page.findings)
    (sym (is ∙ (λ i. shown_with ((c.refresh.ensures.same i).tree) (seen_screen page.screen) (page.scrolls)))) c.self.invariant.quiet) in
    let registered : AreRegistered page.watchers.part margins page.findings = subst (λ (m : List Margins). AreRegistered page.watchers.part m page.findings) (sym c.as_slice.ensures.value) c.self.invariant.registered in
    let after : AreQuiet c.note.new.self c.shown_at_once-shown.result margins part found =
    quiet_noted c.shown_at_once-shown.result margins c.args.document.0 page.clock page.watchers.part part page.findings found c.update-told.ensures.touched c.update-told.ensures.others c.update-told.ensures.pairs registered
    c.update-told.result page.settled c.note.new.self (c.note.ensures ∙ ap (λ (b : Bool). noted c.args.document.0 b page.settled) c.is_ok.ensures.value) before
    (on_ok c.update-told.result (λ (done : c.update-told.new.watchers ≡ _). ap (λ (it : HeldWatchers). it.part) done) c.update-told.ensures.updated)
    c.update-told.ensures.carried c.update-told.ensures.seen c.update-told.ensures.fresh c.update-told.ensures.current in
    let quiet : AreQuiet c.note.new.self (shown_with (c.refresh.new.self.elements.tree) (seen_screen page.screen) (page.scrolls)) page.scroll_margins.items part found =
    subst (λ (s : Shown). AreQuiet c.note.new.self s page.scroll_margins.items part found) is
    (subst (λ (m : List Margins). AreQuiet c.note.new.self c.shown_at_once-shown.result m part found) c.as_slice.ensures.value after) in
    search rules
