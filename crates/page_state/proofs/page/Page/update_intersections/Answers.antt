-- Intersections are updated, and a task that tells it waits.
use Rattle.std.proofs.Common.{◌≡◌, ◌<◌, ◌≤◌, ◌+◌, false, List, length, inl, refl, sym, ap, subst, ◌∙◌, arith}
use Rattle.page_model.specs.World.{World, Tree, IntersectionObservers}
use Rattle.page_model.specs.Shown.{shown_of}
use Rattle.intersection_observer.specs.Serials.{HasSerials}
use Rattle.kept_findings.specs.Held.{HeldFindings}
use Rattle.kept_layout.specs.declared.slots.Slot.{Slot}
use Rattle.intersection_update.specs.Keeping.{HaveChains, IsRefused}
use Rattle.intersection_update.specs.Steps.{most_steps}
use Rattle.intersection_update.specs.Updating.{has_news, AreSettled, IsStopped}
use Rattle.page_boxes.specs.Kept.{FillsOnly, LeavesUnboxed}
use Rattle.page_boxes.proofs.Undue.{fills_none}
use Rattle.page_laws.proofs.Changes.{same-next, update-next}
use Rattle.page_state.specs.Boxes.{due_count}
use Rattle.page_state.specs.Findings.{Updates, AreUpdated, TakesAtMost, settled_now}
use Rattle.page_state.specs.Notices.{IsNoticed, once_told}
use Rattle.page_state.specs.Quiet.{IsQuiet}
use Rattle.page_state.specs.Views.{PageView}
use Rattle.page_state.proofs.Quiet.{quiet_updated, quiet_settled, updates_none}
use Rattle.page_state.proofs.Updated.{now, world_queued, page_told, without_task, tree_queued, comes_to, moved, same_observers, none_lost, if_refused}
use Rattle.page_state.proofs.Ready.{ready_by, stopped_told}
use Rattle.page_state.proofs.page.Page.update_intersections.Goals as goal

-- the document is as its last update left it
pub returns-then-has-clause-updated : goal.returns-then-has-clause-updated
returns-then-has-clause-updated g c =
    let quiet = subst (λ (v : PageView). IsQuiet (shown_of v.world) v.world.scroll_margins c.args.document.0 v.world.intersection_observers v.found) c.self.view_is (c.self.invariant.quiet.each c.args.document.0 (sym c.has.ensures ∙ c.if-has.true)) in
    sym (ap (λ (world : World). record c.args.self.now { world = world }) (quiet_updated c.args.document.0 c.args.self.now.world c.args.self.now.found quiet))

pub returns-then-has-clause-boxes : goal.returns-then-has-clause-boxes
returns-then-has-clause-boxes g c = fills_none c.args.self.now.kept

pub returns-then-has-clause-unboxed : goal.returns-then-has-clause-unboxed
returns-then-has-clause-unboxed g c = λ n none. refl

pub returns-then-has-clause-settled : goal.returns-then-has-clause-settled
returns-then-has-clause-settled g c =
    let quiet = subst (λ (v : PageView). IsQuiet (shown_of v.world) v.world.scroll_margins c.args.document.0 v.world.intersection_observers v.found) c.self.view_is (c.self.invariant.quiet.each c.args.document.0 (sym c.has.ensures ∙ c.if-has.true)) in
    quiet_settled c.args.document.0 c.args.self.now.world c.args.self.now.found quiet (subst (λ (v : PageView). HasSerials v.world.intersection_observers) c.self.view_is c.tell_serials.ensures)

pub returns-then-has-clause-findings : goal.returns-then-has-clause-findings
returns-then-has-clause-findings g c = updates_none (shown_of c.args.self.now.world) c.args.self.now.world.scroll_margins c.args.document.0 c.args.self.now.world.intersection_observers c.args.self.now.found

pub returns-then-has-clause-fresh : goal.returns-then-has-clause-fresh
returns-then-has-clause-fresh g c =
    let quiet = subst (λ (v : PageView). IsQuiet (shown_of v.world) v.world.scroll_margins c.args.document.0 v.world.intersection_observers v.found) c.self.view_is (c.self.invariant.quiet.each c.args.document.0 (sym c.has.ensures ∙ c.if-has.true)) in
    quiet.updated

pub returns-then-has-clause-ticks : goal.returns-then-has-clause-ticks
returns-then-has-clause-ticks g c = λ chained. omega arith

pub settle_intersections-requires : goal.settle_intersections-requires
settle_intersections-requires g c =
    subst (λ (tree : Tree). c.args.document.0 < length tree.documents) (sym (ap (λ (v : PageView). v.world.tree) c.in_ok-queued.ensures.task ∙ tree_queued c.in_ok-queued.queued c.args.document.0 (c.args.self.now.world))) c.requires

-- the task was refused: nothing is changed
pub returns-in_err-queued-clause-rest : goal.returns-in_err-queued-clause-rest
returns-in_err-queued-clause-rest g c =
    if_refused c.from_residual.result
    (false, c.in_err-queued.ensures.same ∙ sym (λ i. record c.args.self.now { world = record (c.args.self.now.world) { intersection_observers = (c.in_err-queued.ensures.same i).world.intersection_observers }; kept = (c.in_err-queued.ensures.same i).kept; found = (c.in_err-queued.ensures.same i).found }))

pub returns-in_err-queued-clause-noticed : goal.returns-in_err-queued-clause-noticed
returns-in_err-queued-clause-noticed g c = if_refused c.from_residual.result (λ before. subst (λ (v : PageView). IsNoticed c.args.document.0 v.world) (sym c.in_err-queued.ensures.same) before)

pub returns-in_err-queued-clause-stopped : goal.returns-in_err-queued-clause-stopped
returns-in_err-queued-clause-stopped g c =
    if_refused c.from_residual.result
    (subst (λ (v : PageView). IsStopped (shown_of c.args.self.now.world) c.args.self.now.world.scroll_margins c.args.self.now.world.tree c.args.document.0 c.args.self.now.world.clock c.args.self.now.world.intersection_observers v.world.intersection_observers) (sym c.in_err-queued.ensures.same)
    (record { number = 0; place = 0; rooted = inl refl; settled = refl }))

pub returns-in_err-queued-clause-boxes : goal.returns-in_err-queued-clause-boxes
returns-in_err-queued-clause-boxes g c = subst (λ (v : PageView). FillsOnly c.args.self.now.kept v.kept) (sym c.in_err-queued.ensures.same) (fills_none c.args.self.now.kept)

pub returns-in_err-queued-clause-unboxed : goal.returns-in_err-queued-clause-unboxed
returns-in_err-queued-clause-unboxed g c = subst (λ (v : PageView). LeavesUnboxed c.args.self.now.world.tree c.args.self.now.world.viewports.screen c.args.self.now.kept v.kept) (sym c.in_err-queued.ensures.same) (λ n none. refl)

pub returns-in_err-queued-clause-findings : goal.returns-in_err-queued-clause-findings
returns-in_err-queued-clause-findings g c =
    subst (λ (v : PageView). Updates (shown_of c.args.self.now.world) c.args.self.now.world.scroll_margins c.args.document.0 c.args.self.now.world.intersection_observers c.args.self.now.found v.found) (sym c.in_err-queued.ensures.same)
    (updates_none (shown_of c.args.self.now.world) c.args.self.now.world.scroll_margins c.args.document.0 c.args.self.now.world.intersection_observers c.args.self.now.found)

pub returns-in_err-queued-clause-refused : goal.returns-in_err-queued-clause-refused
returns-in_err-queued-clause-refused g c = λ chained.
    if_refused c.from_residual.result
    (subst (λ (v : PageView). IsRefused (shown_of c.args.self.now.world) c.args.self.now.world.scroll_margins chained c.args.document.0 c.args.self.now.world.clock c.args.self.now.world.intersection_observers v.world.intersection_observers c.args.self.now.found.kept v.found.kept) (sym c.in_err-queued.ensures.same)
    (record { stopped = record { number = 0; place = 0; rooted = inl refl; settled = refl }; rest = λ serial. inl refl }))

pub returns-in_err-queued-clause-ticks : goal.returns-in_err-queued-clause-ticks
returns-in_err-queued-clause-ticks g c =
    subst (λ (v : PageView). (chained : HaveChains (shown_of c.args.self.now.world)) → TakesAtMost c.args.document.0 c.args.self.now v chained c.args.steps.now c.args.steps.now) (sym c.in_err-queued.ensures.same) (λ chained. omega arith)

pub returns-in_err-queued-clause-ready : goal.returns-in_err-queued-clause-ready
returns-in_err-queued-clause-ready g c = λ handlers. ready_by handlers c.args.self.now.world c.in_err-queued.ensures.same (same-next c.args.self.now.world)

pub returns-in-Ok-clause-boxes : goal.returns-in-Ok-clause-boxes
returns-in-Ok-clause-boxes g c =
    moved c.args.document.0 c.args.self.now c.in_ok-queued.queued c.in_ok-queued.ensures.task c.settle_intersections.ensures.rest c.in-Ok.tells (c.end_notice.ensures (now c.args.document.0 c.args.self.now c.in_ok-queued.queued c.in_ok-queued.ensures.task c.settle_intersections.ensures.rest) c.in_ok-queued.ensures.queued (world_queued c.args.document.0 c.args.self.now c.in_ok-queued.queued c.in_ok-queued.ensures.task c.settle_intersections.ensures.rest))
    (λ (v : PageView) (it : IntersectionObservers) (kept : List Slot) (found : HeldFindings). FillsOnly v.kept kept)
    (λ tasks holds. holds) c.settle_intersections.ensures.boxes

pub returns-in-Ok-clause-unboxed : goal.returns-in-Ok-clause-unboxed
returns-in-Ok-clause-unboxed g c =
    moved c.args.document.0 c.args.self.now c.in_ok-queued.queued c.in_ok-queued.ensures.task c.settle_intersections.ensures.rest c.in-Ok.tells (c.end_notice.ensures (now c.args.document.0 c.args.self.now c.in_ok-queued.queued c.in_ok-queued.ensures.task c.settle_intersections.ensures.rest) c.in_ok-queued.ensures.queued (world_queued c.args.document.0 c.args.self.now c.in_ok-queued.queued c.in_ok-queued.ensures.task c.settle_intersections.ensures.rest))
    (λ (v : PageView) (it : IntersectionObservers) (kept : List Slot) (found : HeldFindings). LeavesUnboxed v.world.tree v.world.viewports.screen v.kept kept)
    (λ tasks holds. holds) c.settle_intersections.ensures.unboxed

pub returns-in-Ok-clause-findings : goal.returns-in-Ok-clause-findings
returns-in-Ok-clause-findings g c =
    moved c.args.document.0 c.args.self.now c.in_ok-queued.queued c.in_ok-queued.ensures.task c.settle_intersections.ensures.rest c.in-Ok.tells (c.end_notice.ensures (now c.args.document.0 c.args.self.now c.in_ok-queued.queued c.in_ok-queued.ensures.task c.settle_intersections.ensures.rest) c.in_ok-queued.ensures.queued (world_queued c.args.document.0 c.args.self.now c.in_ok-queued.queued c.in_ok-queued.ensures.task c.settle_intersections.ensures.rest))
    (λ (v : PageView) (it : IntersectionObservers) (kept : List Slot) (found : HeldFindings). Updates (shown_of v.world) v.world.scroll_margins c.args.document.0 v.world.intersection_observers v.found found)
    (λ tasks holds. holds) c.settle_intersections.ensures.findings

pub returns-in-Ok-clause-ticks : goal.returns-in-Ok-clause-ticks
returns-in-Ok-clause-ticks g c =
    moved c.args.document.0 c.args.self.now c.in_ok-queued.queued c.in_ok-queued.ensures.task c.settle_intersections.ensures.rest c.in-Ok.tells (c.end_notice.ensures (now c.args.document.0 c.args.self.now c.in_ok-queued.queued c.in_ok-queued.ensures.task c.settle_intersections.ensures.rest) c.in_ok-queued.ensures.queued (world_queued c.args.document.0 c.args.self.now c.in_ok-queued.queued c.in_ok-queued.ensures.task c.settle_intersections.ensures.rest))
    (λ (v : PageView) (it : IntersectionObservers) (kept : List Slot) (found : HeldFindings). (chained : HaveChains (shown_of v.world)) → c.settle_intersections.new.steps + due_count v.world kept ≤ c.args.steps.now + due_count v.world v.kept + most_steps (shown_of v.world) v.world.scroll_margins chained c.args.document.0 v.world.intersection_observers v.found found)
    (λ tasks holds. holds) c.settle_intersections.ensures.ticks

pub returns-in-Ok-clause-updated : goal.returns-in-Ok-clause-updated
returns-in-Ok-clause-updated g c =
    page_told c.args.document.0 c.args.self.now c.in_ok-queued.queued c.in_ok-queued.ensures.task c.settle_intersections.ensures.rest c.in-Ok.tells (c.end_notice.ensures (now c.args.document.0 c.args.self.now c.in_ok-queued.queued c.in_ok-queued.ensures.task c.settle_intersections.ensures.rest) c.in_ok-queued.ensures.queued (world_queued c.args.document.0 c.args.self.now c.in_ok-queued.queued c.in_ok-queued.ensures.task c.settle_intersections.ensures.rest))
    ∙ ap (λ (world : World). record c.args.self.now { world = world; kept = c.end_notice.new.self.kept; found = c.end_notice.new.self.found })
    (ap (λ (it : IntersectionObservers). once_told c.in-Ok.tells c.args.document.0 (record (c.args.self.now.world) { intersection_observers = it }))
    (without_task c.args.document.0 c.args.self.now c.in_ok-queued.queued c.in_ok-queued.ensures.task (λ v. c.settle_intersections.new.self.world.intersection_observers ≡ settled_now c.args.document.0 v.world) (λ tasks holds. holds) c.in-Ok.ensures.updated)
    ∙ sym (comes_to c.args.document.0 (c.args.self.now.world) c.in-Ok.tells
    (without_task c.args.document.0 c.args.self.now c.in_ok-queued.queued c.in_ok-queued.ensures.task (λ v. c.in-Ok.tells ≡ has_news v.world.tree c.args.document.0 v.world.intersection_observers (settled_now c.args.document.0 v.world)) (λ tasks holds. holds) c.in-Ok.ensures.queued)))

pub returns-in-Ok-clause-settled : goal.returns-in-Ok-clause-settled
returns-in-Ok-clause-settled g c =
    moved c.args.document.0 c.args.self.now c.in_ok-queued.queued c.in_ok-queued.ensures.task c.settle_intersections.ensures.rest c.in-Ok.tells (c.end_notice.ensures (now c.args.document.0 c.args.self.now c.in_ok-queued.queued c.in_ok-queued.ensures.task c.settle_intersections.ensures.rest) c.in_ok-queued.ensures.queued (world_queued c.args.document.0 c.args.self.now c.in_ok-queued.queued c.in_ok-queued.ensures.task c.settle_intersections.ensures.rest))
    (λ (v : PageView) (it : IntersectionObservers) (kept : List Slot) (found : HeldFindings). AreSettled (shown_of v.world) v.world.scroll_margins c.args.document.0 v.world.intersection_observers it)
    (λ tasks holds. holds) c.in-Ok.ensures.settled

pub returns-in-Ok-clause-fresh : goal.returns-in-Ok-clause-fresh
returns-in-Ok-clause-fresh g c =
    moved c.args.document.0 c.args.self.now c.in_ok-queued.queued c.in_ok-queued.ensures.task c.settle_intersections.ensures.rest c.in-Ok.tells (c.end_notice.ensures (now c.args.document.0 c.args.self.now c.in_ok-queued.queued c.in_ok-queued.ensures.task c.settle_intersections.ensures.rest) c.in_ok-queued.ensures.queued (world_queued c.args.document.0 c.args.self.now c.in_ok-queued.queued c.in_ok-queued.ensures.task c.settle_intersections.ensures.rest))
    (λ (v : PageView) (it : IntersectionObservers) (kept : List Slot) (found : HeldFindings). AreUpdated (shown_of v.world) v.world.scroll_margins c.args.document.0 it found)
    (λ tasks holds. holds) c.in-Ok.ensures.fresh

pub returns-in-Ok-clause-ready : goal.returns-in-Ok-clause-ready
returns-in-Ok-clause-ready g c =
    λ handlers. ready_by handlers c.args.self.now.world (returns-in-Ok-clause-updated g c) (update-next c.args.document.0 c.args.self.now.world c.requires)

pub returns-in-Err-clause-boxes : goal.returns-in-Err-clause-boxes
returns-in-Err-clause-boxes g c =
    moved c.args.document.0 c.args.self.now c.in_ok-queued.queued c.in_ok-queued.ensures.task c.settle_intersections.ensures.rest c.has_entries-tells.result (c.end_notice-in-Err.ensures (now c.args.document.0 c.args.self.now c.in_ok-queued.queued c.in_ok-queued.ensures.task c.settle_intersections.ensures.rest) c.in_ok-queued.ensures.queued (world_queued c.args.document.0 c.args.self.now c.in_ok-queued.queued c.in_ok-queued.ensures.task c.settle_intersections.ensures.rest))
    (λ (v : PageView) (it : IntersectionObservers) (kept : List Slot) (found : HeldFindings). FillsOnly v.kept kept)
    (λ tasks holds. holds) c.settle_intersections.ensures.boxes

pub returns-in-Err-clause-unboxed : goal.returns-in-Err-clause-unboxed
returns-in-Err-clause-unboxed g c =
    moved c.args.document.0 c.args.self.now c.in_ok-queued.queued c.in_ok-queued.ensures.task c.settle_intersections.ensures.rest c.has_entries-tells.result (c.end_notice-in-Err.ensures (now c.args.document.0 c.args.self.now c.in_ok-queued.queued c.in_ok-queued.ensures.task c.settle_intersections.ensures.rest) c.in_ok-queued.ensures.queued (world_queued c.args.document.0 c.args.self.now c.in_ok-queued.queued c.in_ok-queued.ensures.task c.settle_intersections.ensures.rest))
    (λ (v : PageView) (it : IntersectionObservers) (kept : List Slot) (found : HeldFindings). LeavesUnboxed v.world.tree v.world.viewports.screen v.kept kept)
    (λ tasks holds. holds) c.settle_intersections.ensures.unboxed

pub returns-in-Err-clause-findings : goal.returns-in-Err-clause-findings
returns-in-Err-clause-findings g c =
    moved c.args.document.0 c.args.self.now c.in_ok-queued.queued c.in_ok-queued.ensures.task c.settle_intersections.ensures.rest c.has_entries-tells.result (c.end_notice-in-Err.ensures (now c.args.document.0 c.args.self.now c.in_ok-queued.queued c.in_ok-queued.ensures.task c.settle_intersections.ensures.rest) c.in_ok-queued.ensures.queued (world_queued c.args.document.0 c.args.self.now c.in_ok-queued.queued c.in_ok-queued.ensures.task c.settle_intersections.ensures.rest))
    (λ (v : PageView) (it : IntersectionObservers) (kept : List Slot) (found : HeldFindings). Updates (shown_of v.world) v.world.scroll_margins c.args.document.0 v.world.intersection_observers v.found found)
    (λ tasks holds. holds) c.settle_intersections.ensures.findings

pub returns-in-Err-clause-ticks : goal.returns-in-Err-clause-ticks
returns-in-Err-clause-ticks g c =
    moved c.args.document.0 c.args.self.now c.in_ok-queued.queued c.in_ok-queued.ensures.task c.settle_intersections.ensures.rest c.has_entries-tells.result (c.end_notice-in-Err.ensures (now c.args.document.0 c.args.self.now c.in_ok-queued.queued c.in_ok-queued.ensures.task c.settle_intersections.ensures.rest) c.in_ok-queued.ensures.queued (world_queued c.args.document.0 c.args.self.now c.in_ok-queued.queued c.in_ok-queued.ensures.task c.settle_intersections.ensures.rest))
    (λ (v : PageView) (it : IntersectionObservers) (kept : List Slot) (found : HeldFindings). (chained : HaveChains (shown_of v.world)) → c.settle_intersections.new.steps + due_count v.world kept ≤ c.args.steps.now + due_count v.world v.kept + most_steps (shown_of v.world) v.world.scroll_margins chained c.args.document.0 v.world.intersection_observers v.found found)
    (λ tasks holds. holds) c.settle_intersections.ensures.ticks

pub returns-in-Err-clause-rest : goal.returns-in-Err-clause-rest
returns-in-Err-clause-rest g c =
    (c.has_entries-tells.result, page_told c.args.document.0 c.args.self.now c.in_ok-queued.queued c.in_ok-queued.ensures.task c.settle_intersections.ensures.rest c.has_entries-tells.result (c.end_notice-in-Err.ensures (now c.args.document.0 c.args.self.now c.in_ok-queued.queued c.in_ok-queued.ensures.task c.settle_intersections.ensures.rest) c.in_ok-queued.ensures.queued (world_queued c.args.document.0 c.args.self.now c.in_ok-queued.queued c.in_ok-queued.ensures.task c.settle_intersections.ensures.rest)) ∙ sym (λ i. record c.args.self.now { world = once_told c.has_entries-tells.result c.args.document.0 (record (c.args.self.now.world) { intersection_observers = same_observers c.args.document.0 c.args.self.now c.in_ok-queued.queued c.in_ok-queued.ensures.task c.settle_intersections.ensures.rest c.has_entries-tells.result (c.end_notice-in-Err.ensures (now c.args.document.0 c.args.self.now c.in_ok-queued.queued c.in_ok-queued.ensures.task c.settle_intersections.ensures.rest) c.in_ok-queued.ensures.queued (world_queued c.args.document.0 c.args.self.now c.in_ok-queued.queued c.in_ok-queued.ensures.task c.settle_intersections.ensures.rest)) i }); kept = c.end_notice-in-Err.new.self.kept; found = c.end_notice-in-Err.new.self.found }))

pub returns-in-Err-clause-noticed : goal.returns-in-Err-clause-noticed
returns-in-Err-clause-noticed g c =
    λ before. none_lost c.args.document.0 c.args.self.now c.in_ok-queued.queued c.in_ok-queued.ensures.task c.settle_intersections.ensures.rest c.has_entries-tells.result (c.end_notice-in-Err.ensures (now c.args.document.0 c.args.self.now c.in_ok-queued.queued c.in_ok-queued.ensures.task c.settle_intersections.ensures.rest) c.in_ok-queued.ensures.queued (world_queued c.args.document.0 c.args.self.now c.in_ok-queued.queued c.in_ok-queued.ensures.task c.settle_intersections.ensures.rest)) c.has_entries-tells.ensures

pub returns-in-Err-clause-stopped : goal.returns-in-Err-clause-stopped
returns-in-Err-clause-stopped g c =
    moved c.args.document.0 c.args.self.now c.in_ok-queued.queued c.in_ok-queued.ensures.task c.settle_intersections.ensures.rest c.has_entries-tells.result (c.end_notice-in-Err.ensures (now c.args.document.0 c.args.self.now c.in_ok-queued.queued c.in_ok-queued.ensures.task c.settle_intersections.ensures.rest) c.in_ok-queued.ensures.queued (world_queued c.args.document.0 c.args.self.now c.in_ok-queued.queued c.in_ok-queued.ensures.task c.settle_intersections.ensures.rest))
    (λ (v : PageView) (it : IntersectionObservers) (kept : List Slot) (found : HeldFindings). IsStopped (shown_of v.world) v.world.scroll_margins v.world.tree c.args.document.0 v.world.clock v.world.intersection_observers it)
    (λ tasks holds. holds) c.in-Err.ensures.stopped

pub returns-in-Err-clause-refused : goal.returns-in-Err-clause-refused
returns-in-Err-clause-refused g c =
    moved c.args.document.0 c.args.self.now c.in_ok-queued.queued c.in_ok-queued.ensures.task c.settle_intersections.ensures.rest c.has_entries-tells.result (c.end_notice-in-Err.ensures (now c.args.document.0 c.args.self.now c.in_ok-queued.queued c.in_ok-queued.ensures.task c.settle_intersections.ensures.rest) c.in_ok-queued.ensures.queued (world_queued c.args.document.0 c.args.self.now c.in_ok-queued.queued c.in_ok-queued.ensures.task c.settle_intersections.ensures.rest))
    (λ (v : PageView) (it : IntersectionObservers) (kept : List Slot) (found : HeldFindings). (chained : HaveChains (shown_of v.world)) → IsRefused (shown_of v.world) v.world.scroll_margins chained c.args.document.0 v.world.clock v.world.intersection_observers it v.found.kept found.kept)
    (λ tasks holds. holds) c.in-Err.ensures.refused

pub returns-in-Err-clause-ready : goal.returns-in-Err-clause-ready
returns-in-Err-clause-ready g c =
    λ handlers.
    ready_by handlers c.args.self.now.world (page_told c.args.document.0 c.args.self.now c.in_ok-queued.queued c.in_ok-queued.ensures.task c.settle_intersections.ensures.rest c.has_entries-tells.result (c.end_notice-in-Err.ensures (now c.args.document.0 c.args.self.now c.in_ok-queued.queued c.in_ok-queued.ensures.task c.settle_intersections.ensures.rest) c.in_ok-queued.ensures.queued (world_queued c.args.document.0 c.args.self.now c.in_ok-queued.queued c.in_ok-queued.ensures.task c.settle_intersections.ensures.rest)))
    (stopped_told _ _ _ c.args.document.0 _ c.has_entries-tells.result c.args.self.now.world _ c.requires
    (without_task c.args.document.0 c.args.self.now c.in_ok-queued.queued c.in_ok-queued.ensures.task (λ v. IsStopped (shown_of v.world) v.world.scroll_margins v.world.tree c.args.document.0 v.world.clock v.world.intersection_observers c.settle_intersections.new.self.world.intersection_observers) (λ tasks holds. holds) c.in-Err.ensures.stopped))
