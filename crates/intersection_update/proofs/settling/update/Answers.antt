use Rattle.std.proofs.Common.{◌≡◌, ◌<◌, ◌+◌, ◌∙◌, false, length, Some, refl, ap, sym, subst, inl, inr, arith, tests}
use Rattle.page_model.specs.World.{Tree, IntersectionObservers}
use Rattle.page_model.specs.Intersections.{is_rooted_in}
use Rattle.clip_chain.specs.Worlds.{scene_of}
use Rattle.intersection_observer.specs.Watchers.{HeldWatchers, watcher_at}
use Rattle.kept_clips.specs.Seen.{sighting_of, sighting_in}
use Rattle.kept_clips.proofs.Looking.{changes_none}
use Rattle.kept_findings.specs.Held.{HeldFindings}
use Rattle.kept_findings.specs.Looks.{LookedAt}
use Rattle.kept_findings.specs.Registered.{AreRegistered}
use Rattle.kept_findings.specs.Rooms.{HaveRoom}
use Rattle.page_geometry.specs.Scenes.{standings_of}
use Rattle.page_geometry.proofs.Scenes.{chained_of}
use Rattle.intersection_update.specs.Updating.{updated, AreKept, AreSettled}
use Rattle.intersection_update.specs.Keeping.{KeepsComputed, HaveLooked}
use Rattle.intersection_update.proofs.Carried.{along_still, stale_still}
use Rattle.intersection_update.proofs.Current.{AreCurrent, current_skip, current_more, current_then}
use Rattle.intersection_update.proofs.Each.{settled_each}
use Rattle.intersection_update.proofs.Observers.{Looks, looks_more, looks_skip, Leaves, same_next, others_next, kept_to, leaves_more, leaves_skip, looked_at_before, there_is}
use Rattle.intersection_update.proofs.Settled.{kept_then}
use Rattle.intersection_update.proofs.Totals.{Totals, totals_skip, paid_here, apart_here, totals_more, totals_all}
use Rattle.intersection_update.proofs.Updates.{rooted_settled, rooted_same, next_observer, next_told, skipped_told, all_observers, all_told, stopped_settled, stopped_at, on_err}
use Rattle.intersection_update.specs.Watching.{is_watched}
use Rattle.intersection_update.proofs.Unwatched.{unwatched_same, unwatched_told, unwatched_settled, none_looked_at}
use Rattle.intersection_update.proofs.settling.update.Goals as goal
use Rattle.intersection_update.proofs.settling.update.Goals.{then-is_looked_at+in_ok-queued, else-is_looked_at}

pub returns-in_err-looks-clause-stopped : goal.returns-in_err-looks-clause-stopped
returns-in_err-looks-clause-stopped g c = on_err c.from_residual.result (record { number = 0; place = 0; rooted = inl refl; settled = refl })

pub returns-in_err-looks-clause-refused : goal.returns-in_err-looks-clause-refused
returns-in_err-looks-clause-refused g c = λ chained. on_err c.from_residual.result (record { stopped = record { number = 0; place = 0; rooted = inl refl; settled = refl }; rest = λ serial. inl refl })

pub returns-in_err-looks-clause-touched : goal.returns-in_err-looks-clause-touched
returns-in_err-looks-clause-touched g c = changes_none (scene_of c.args.shown.now) c.args.findings.now.seen c.args.findings.now.clips.touches

pub settle_stale-requires-clause-margins : goal.settle_stale-requires-clause-margins
settle_stale-requires-clause-margins g c = c.requires.margins ∙ sym c.loop-number.invariant.kept.carried.count

pub returns-in_err-queued-clause-stopped : goal.returns-in_err-queued-clause-stopped
returns-in_err-queued-clause-stopped g c =
    let document = c.args.document.0 in
    let number = c.loop-number.number in
    let rooted = sym (c.is_looked_at.ensures ∙ ap (λ (tree : Tree). is_rooted_in tree document (watcher_at c.loop-number.watchers number).root) c.page.ensures) ∙ c.if-is_looked_at.true in
    on_err c.from_residual-in_err-queued.result
    (stopped_at c.args.shown.now c.args.scroll_margins.now c.args.shown.now.tree document c.args.time c.args.watchers.now number c.loop-number.watchers c.settle_stale.new.watchers
    c.loop-number.invariant.kept.given c.loop-number.invariant.settled c.in_err-queued.ensures.stopped
    (sym (ap (is_rooted_in c.args.shown.now.tree document) (c.loop-number.invariant.kept.carried.alike number).root) ∙ rooted))

pub returns-in_err-queued-clause-touched : goal.returns-in_err-queued-clause-touched
returns-in_err-queued-clause-touched g c =
    let shown = c.args.shown.now in
    let margins = c.args.scroll_margins.now in
    let document = c.args.document.0 in
    let was = c.args.watchers.now.part in
    let it = c.loop-number.watchers.part in
    let number = c.loop-number.number in
    let so_far = c.loop-number.invariant in
    let carried = so_far.kept.carried in
    let rooted = sym (c.is_looked_at.ensures ∙ ap (λ (tree : Tree). is_rooted_in tree document (watcher_at c.loop-number.watchers number).root) c.page.ensures) ∙ c.if-is_looked_at.true in
    (looks_more shown document was it carried number c.args.findings.now c.loop-number.findings c.settle_stale.new.findings rooted so_far.looks c.settle_stale.ensures.looked).touched

pub returns-in_err-queued-clause-left : goal.returns-in_err-queued-clause-left
returns-in_err-queued-clause-left g c =
    let shown = c.args.shown.now in
    let margins = c.args.scroll_margins.now in
    let document = c.args.document.0 in
    let was = c.args.watchers.now.part in
    let it = c.loop-number.watchers.part in
    let number = c.loop-number.number in
    let so_far = c.loop-number.invariant in
    let carried = so_far.kept.carried in
    let rooted = sym (c.is_looked_at.ensures ∙ ap (λ (tree : Tree). is_rooted_in tree document (watcher_at c.loop-number.watchers number).root) c.page.ensures) ∙ c.if-is_looked_at.true in
    (looks_more shown document was it carried number c.args.findings.now c.loop-number.findings c.settle_stale.new.findings rooted so_far.looks c.settle_stale.ensures.looked).left

pub returns-in_err-queued-clause-kept : goal.returns-in_err-queued-clause-kept
returns-in_err-queued-clause-kept g c =
    let shown = c.args.shown.now in
    let margins = c.args.scroll_margins.now in
    let document = c.args.document.0 in
    let was = c.args.watchers.now.part in
    let it = c.loop-number.watchers.part in
    let number = c.loop-number.number in
    let so_far = c.loop-number.invariant in
    let carried = so_far.kept.carried in
    λ chained.
    same_next shown margins chained document was it carried number c.args.findings.now.kept c.loop-number.findings.kept c.settle_stale.new.findings.kept (so_far.leaves chained) (c.settle_stale.ensures.same chained) c.settle_stale.ensures.others

pub returns-in_err-queued-clause-others : goal.returns-in_err-queued-clause-others
returns-in_err-queued-clause-others g c =
    let shown = c.args.shown.now in
    let margins = c.args.scroll_margins.now in
    let document = c.args.document.0 in
    let was = c.args.watchers.now.part in
    let it = c.loop-number.watchers.part in
    let number = c.loop-number.number in
    let so_far = c.loop-number.invariant in
    let carried = so_far.kept.carried in
    let rooted = sym (c.is_looked_at.ensures ∙ ap (λ (tree : Tree). is_rooted_in tree document (watcher_at c.loop-number.watchers number).root) c.page.ensures) ∙ c.if-is_looked_at.true in
    let chained = chained_of shown c.document_count.ensures.page in
    others_next shown margins chained document was it carried number c.args.findings.now.kept c.loop-number.findings.kept c.settle_stale.new.findings.kept (so_far.leaves chained) (c.settle_stale.ensures.same chained) c.settle_stale.ensures.others rooted

pub returns-in_err-queued-clause-refused : goal.returns-in_err-queued-clause-refused
returns-in_err-queued-clause-refused g c =
    let shown = c.args.shown.now in
    let margins = c.args.scroll_margins.now in
    let document = c.args.document.0 in
    let was = c.args.watchers.now.part in
    let it = c.loop-number.watchers.part in
    let number = c.loop-number.number in
    let so_far = c.loop-number.invariant in
    let carried = so_far.kept.carried in
    let rooted = sym (c.is_looked_at.ensures ∙ ap (λ (tree : Tree). is_rooted_in tree document (watcher_at c.loop-number.watchers number).root) c.page.ensures) ∙ c.if-is_looked_at.true in
    λ chained.
    let refused = c.in_err-queued.ensures.refused chained in
    on_err c.from_residual-in_err-queued.result
    (record {
      stopped = record {
        number = number;
        place = refused.begun.place;
        rooted = inr (sym (ap (is_rooted_in shown.tree document) (carried.alike number).root) ∙ rooted);
        settled = stopped_settled shown margins shown.tree document c.args.time c.args.watchers.now number c.loop-number.watchers c.settle_stale.new.watchers so_far.kept.given so_far.settled refused.begun;
      };
      rest = kept_to shown margins chained document was it carried number c.args.findings.now.kept c.loop-number.findings.kept c.settle_stale.new.findings.kept (so_far.leaves chained) (c.settle_stale.ensures.same chained) c.settle_stale.ensures.others
          refused.begun.place refused.rest;
    })

pub loop-number-preserved : goal.loop-number-preserved
loop-number-preserved g c =
    let shown = c.args.shown.now in
    let margins = c.args.scroll_margins.now in
    let tree = shown.tree in
    let elements = length tree.elements in
    let documents = length tree.documents in
    let was : HeldWatchers = c.args.watchers.now in
    let now : HeldWatchers = c.loop-number.watchers in
    let number = c.loop-number.number in
    let so_far = c.loop-number.invariant in
    let there : number < length was.part.made = omega (arith, so_far.end, c.loop-number-test.true) in
    let looked = c.is_looked_at.ensures ∙ ap (λ (it : Tree). is_rooted_in it c.args.document.0 (watcher_at now number).root) c.page.ensures in
    elim c.if-is_looked_at.branch [
      | then-is_looked_at+in_ok-queued w ↦
          let next : HeldWatchers = w.settle_stale.new.watchers in
          let settled = w.in_ok-queued.ensures.settled ∙ rooted_settled shown margins tree c.args.document.0 c.args.time number now (sym looked ∙ w.if-is_looked_at.true) in
          record {
            settled = ap (λ (it : HeldWatchers). it.part.made) w.watchers-is ∙ next_observer shown margins tree c.args.document.0 c.args.time was number now next there so_far.settled settled;
            queued = w.queued-is ∙ next_told shown margins tree c.args.document.0 c.args.time was number now next c.loop-number.queued w.in_ok-queued.field-0 there
                so_far.kept.carried.count so_far.settled settled so_far.queued w.in_ok-queued.ensures.queued;
            kept = subst (AreKept elements was) (sym w.watchers-is) (kept_then elements was now next so_far.kept w.settle_stale.ensures.kept);
            registered = subst (λ (it : HeldWatchers). AreRegistered it.part margins c.if-is_looked_at.findings) (sym w.watchers-is)
                (subst (λ (it : HeldFindings). AreRegistered next.part margins it) (sym w.findings-is) w.settle_stale.ensures.registered);
            room = subst (HaveRoom elements documents) (sym w.findings-is) w.settle_stale.ensures.room;
            known = subst (λ (it : HeldFindings). HaveLooked shown it.seen c.if-is_looked_at.looks) (sym w.findings-is)
                (subst (λ (it : LookedAt). HaveLooked shown w.settle_stale.new.findings.seen it) (sym w.looks-is) w.settle_stale.ensures.known);
            looks = subst (Looks shown c.args.document.0 was.part (number + 1) c.args.findings.now) (sym w.findings-is)
                (looks_more shown c.args.document.0 was.part now.part so_far.kept.carried number c.args.findings.now c.loop-number.findings w.settle_stale.new.findings (sym looked ∙ w.if-is_looked_at.true) so_far.looks w.settle_stale.ensures.looked);
            leaves = λ chained.
                subst (λ (it : HeldFindings). Leaves shown margins chained c.args.document.0 was.part (number + 1) c.args.findings.now.kept it.kept) (sym w.findings-is)
                (leaves_more shown margins chained c.args.document.0 was.part now.part so_far.kept.carried number c.args.findings.now.kept c.loop-number.findings.kept w.settle_stale.new.findings.kept (so_far.leaves chained)
                (w.settle_stale.ensures.same chained) w.settle_stale.ensures.others (sym looked ∙ w.if-is_looked_at.true) (w.in_ok-queued.ensures.fresh chained) (w.in_ok-queued.ensures.rest chained));
            totals = λ chained.
                subst (Totals shown margins chained c.args.document.0 was.part (number + 1) c.args.findings.now c.if-is_looked_at.findings c.args.steps.now) (sym w.steps-is)
                (subst (λ (it : HeldFindings). Totals shown margins chained c.args.document.0 was.part (number + 1) c.args.findings.now it c.args.steps.now w.settle_stale.new.steps) (sym w.findings-is)
                (totals_more shown margins chained c.args.document.0 was.part now.part so_far.kept.carried number c.args.findings.now c.loop-number.findings w.settle_stale.new.findings c.args.steps.now c.loop-number.steps w.settle_stale.new.steps
                there (sym looked ∙ w.if-is_looked_at.true) (so_far.totals chained) w.clips.ensures.numbered w.settle_stale.ensures.looked.touched w.settle_stale.ensures.others w.settle_stale.ensures.pairs
                w.settle_stale.ensures.listed (w.settle_stale.ensures.paid chained)));
            current = λ chained.
                subst (AreCurrent shown chained was.part c.args.document.0 (number + 1)) (sym w.findings-is)
                (current_more shown chained was.part c.args.document.0 now.part so_far.kept.carried number margins c.loop-number.findings w.settle_stale.new.findings so_far.registered so_far.looks.seen
                w.settle_stale.ensures.looked.touched w.settle_stale.ensures.pairs (w.in_ok-queued.ensures.current chained) (so_far.current chained));
            computed = subst (λ (it : HeldFindings). KeepsComputed c.args.findings.now.clips it.clips) (sym w.findings-is)
                (λ serial some. w.settle_stale.ensures.computed serial (so_far.computed serial some));
            end = so_far.end;
          }
      | else-is_looked_at w ↦
          let settled = rooted_same shown margins tree c.args.document.0 c.args.time number now (sym looked ∙ w.if-is_looked_at.false) in
          record {
            settled = ap (λ (it : HeldWatchers). it.part.made) w.watchers-is ∙ next_observer shown margins tree c.args.document.0 c.args.time was number now now there so_far.settled settled;
            queued = w.queued-is ∙ skipped_told shown margins tree c.args.document.0 c.args.time was number now c.loop-number.queued there so_far.kept.carried.count so_far.settled settled so_far.queued;
            kept = subst (AreKept elements was) (sym w.watchers-is) so_far.kept;
            registered = subst (λ (it : HeldWatchers). AreRegistered it.part margins c.if-is_looked_at.findings) (sym w.watchers-is)
                (subst (λ (it : HeldFindings). AreRegistered now.part margins it) (sym w.findings-is) so_far.registered);
            room = subst (HaveRoom elements documents) (sym w.findings-is) so_far.room;
            known = subst (λ (it : HeldFindings). HaveLooked shown it.seen c.if-is_looked_at.looks) (sym w.findings-is)
                (subst (λ (it : LookedAt). HaveLooked shown c.loop-number.findings.seen it) (sym w.looks-is) so_far.known);
            looks = subst (Looks shown c.args.document.0 was.part (number + 1) c.args.findings.now) (sym w.findings-is)
                (looks_skip shown c.args.document.0 was.part now.part so_far.kept.carried number c.args.findings.now c.loop-number.findings (sym looked ∙ w.if-is_looked_at.false) so_far.looks);
            leaves = λ chained.
                subst (λ (it : HeldFindings). Leaves shown margins chained c.args.document.0 was.part (number + 1) c.args.findings.now.kept it.kept) (sym w.findings-is)
                (leaves_skip shown margins chained c.args.document.0 was.part now.part so_far.kept.carried number c.args.findings.now.kept c.loop-number.findings.kept (sym looked ∙ w.if-is_looked_at.false) (so_far.leaves chained));
            totals = λ chained.
                subst (Totals shown margins chained c.args.document.0 was.part (number + 1) c.args.findings.now c.if-is_looked_at.findings c.args.steps.now) (sym w.steps-is)
                (subst (λ (it : HeldFindings). Totals shown margins chained c.args.document.0 was.part (number + 1) c.args.findings.now it c.args.steps.now c.loop-number.steps) (sym w.findings-is)
                (totals_skip shown margins chained c.args.document.0 was.part now.part so_far.kept.carried number c.args.findings.now c.loop-number.findings c.args.steps.now c.loop-number.steps
                there (sym looked ∙ w.if-is_looked_at.false) (so_far.totals chained)));
            current = λ chained.
                subst (AreCurrent shown chained was.part c.args.document.0 (number + 1)) (sym w.findings-is)
                (current_skip shown chained was.part c.args.document.0 now.part so_far.kept.carried number c.loop-number.findings (sym looked ∙ w.if-is_looked_at.false) (so_far.current chained));
            computed = subst (λ (it : HeldFindings). KeepsComputed c.args.findings.now.clips it.clips) (sym w.findings-is) so_far.computed;
            end = so_far.end;
          }
    ]

pub returns-clause-updated : goal.returns-clause-updated
returns-clause-updated g c =
    all_observers c.args.shown.now c.args.scroll_margins.now c.args.shown.now.tree c.args.document.0 c.args.time c.args.watchers.now c.loop-number.number c.loop-number.watchers c.loop-number.invariant.kept.rest c.loop-number.invariant.kept.given
    (omega (arith, c.loop-number.invariant.end, c.loop-number-test.false, c.loop-number.auto.number-end)) c.loop-number.invariant.settled

pub returns-clause-settled : goal.returns-clause-settled
returns-clause-settled g c =
    let shown = c.args.shown.now in
    let margins = c.args.scroll_margins.now in
    let was : HeldWatchers = c.args.watchers.now in
    let it : HeldWatchers = c.loop-number.watchers in
    let whole : it ≡ record was { part = updated shown margins shown.tree c.args.document.0 c.args.time (was.part) } =
    all_observers shown margins shown.tree c.args.document.0 c.args.time was c.loop-number.number it c.loop-number.invariant.kept.rest c.loop-number.invariant.kept.given
    (omega (arith, c.loop-number.invariant.end, c.loop-number-test.false, c.loop-number.auto.number-end)) c.loop-number.invariant.settled in
    subst (AreSettled shown margins c.args.document.0 was.part) (sym (ap (λ (all : HeldWatchers). all.part) whole))
    (λ watcher place registration. settled_each shown margins c.args.document.0 c.args.time watcher place registration was.part c.tell_serials.ensures)

pub returns-clause-queued : goal.returns-clause-queued
returns-clause-queued g c =
    all_told c.args.shown.now c.args.scroll_margins.now c.args.shown.now.tree c.args.document.0 c.args.time c.args.watchers.now c.loop-number.number c.loop-number.queued
    (omega (arith, c.loop-number.invariant.end, c.loop-number-test.false, c.loop-number.auto.number-end)) c.loop-number.invariant.queued

pub returns-clause-touched : goal.returns-clause-touched
returns-clause-touched g c = c.loop-number.invariant.looks.touched

pub returns-clause-left : goal.returns-clause-left
returns-clause-left g c = c.loop-number.invariant.looks.left

pub returns-clause-seen : goal.returns-clause-seen
returns-clause-seen g c =
    let shown = c.args.shown.now in
    let margins = c.args.scroll_margins.now in
    let was = c.args.watchers.now.part in
    let it = c.loop-number.watchers.part in
    let carried = c.loop-number.invariant.kept.carried in
    λ serial looked.
    let before = looked_at_before shown c.args.document.0 was it carried serial looked in
    along_still was it carried serial (scene_of shown) (standings_of shown) (λ spot. sighting_of c.loop-number.findings.seen spot ≡ Some (sighting_in (scene_of shown) spot))
    (c.loop-number.invariant.looks.seen serial before
    (omega (arith, there_is shown c.args.document.0 was serial before, c.loop-number.invariant.end, c.loop-number-test.false, c.loop-number.auto.number-end)))

pub returns-clause-kept : goal.returns-clause-kept
returns-clause-kept g c = λ chained. (c.loop-number.invariant.leaves chained).same

pub returns-clause-others : goal.returns-clause-others
returns-clause-others g c = (c.loop-number.invariant.leaves (chained_of c.args.shown.now c.document_count.ensures.page)).others

pub returns-clause-fresh : goal.returns-clause-fresh
returns-clause-fresh g c =
    let shown = c.args.shown.now in
    let margins = c.args.scroll_margins.now in
    let was = c.args.watchers.now.part in
    let it = c.loop-number.watchers.part in
    let carried = c.loop-number.invariant.kept.carried in
    λ chained serial looked.
    let before = looked_at_before shown c.args.document.0 was it carried serial looked in
    stale_still was it carried serial (scene_of shown) (standings_of shown) chained margins c.loop-number.findings.kept
    ∙ (c.loop-number.invariant.leaves chained).fresh serial before
    (omega (arith, there_is shown c.args.document.0 was serial before, c.loop-number.invariant.end, c.loop-number-test.false, c.loop-number.auto.number-end))

pub returns-clause-current : goal.returns-clause-current
returns-clause-current g c =
    let shown = c.args.shown.now in
    let was = c.args.watchers.now.part in
    let it = c.loop-number.watchers.part in
    let carried = c.loop-number.invariant.kept.carried in
    λ chained below serial looked.
    let before = looked_at_before shown c.args.document.0 was it carried serial looked in
    current_then shown chained was it carried c.loop-number.findings.clips serial
    (c.loop-number.invariant.current chained below serial before
    (omega (arith, there_is shown c.args.document.0 was serial before, c.loop-number.invariant.end, c.loop-number-test.false, c.loop-number.auto.number-end)))

pub returns-clause-ticks : goal.returns-clause-ticks
returns-clause-ticks g c = λ chained.
    totals_all c.args.shown.now c.args.scroll_margins.now chained c.args.document.0 c.args.watchers.now.part c.loop-number.number c.args.findings.now c.loop-number.findings c.args.steps.now c.loop-number.steps
    (omega (arith, c.loop-number.invariant.end, c.loop-number.auto.number-end)) (c.loop-number.invariant.totals chained).paid

pub returns-in_err-queued-clause-ticks : goal.returns-in_err-queued-clause-ticks
returns-in_err-queued-clause-ticks g c =
    let shown = c.args.shown.now in
    let margins = c.args.scroll_margins.now in
    let document = c.args.document.0 in
    let was = c.args.watchers.now.part in
    let it = c.loop-number.watchers.part in
    let number = c.loop-number.number in
    let so_far = c.loop-number.invariant in
    let carried = so_far.kept.carried in
    let rooted = sym (c.is_looked_at.ensures ∙ ap (λ (tree : Tree). is_rooted_in tree document (watcher_at c.loop-number.watchers number).root) c.page.ensures) ∙ c.if-is_looked_at.true in
    let there : number < length was.made = omega (arith, so_far.end, c.loop-number-test.true) in
    λ chained.
    totals_all shown margins chained document was (number + 1) c.args.findings.now c.settle_stale.new.findings c.args.steps.now c.settle_stale.new.steps (omega (arith, there))
    (paid_here shown margins chained document was it carried number c.args.findings.now c.loop-number.findings c.settle_stale.new.findings c.args.steps.now c.loop-number.steps c.settle_stale.new.steps there rooted
    (so_far.totals chained) c.clips.ensures.numbered c.settle_stale.ensures.looked.touched c.settle_stale.ensures.listed (c.settle_stale.ensures.paid chained))

pub returns-in_err-looks-clause-ticks : goal.returns-in_err-looks-clause-ticks
returns-in_err-looks-clause-ticks g c = λ chained. omega arith

pub returns-clause-pairs : goal.returns-clause-pairs
returns-clause-pairs g c = (c.loop-number.invariant.totals (chained_of c.args.shown.now c.document_count.ensures.page)).apart

pub returns-in_err-queued-clause-pairs : goal.returns-in_err-queued-clause-pairs
returns-in_err-queued-clause-pairs g c =
    let shown = c.args.shown.now in
    let document = c.args.document.0 in
    let was = c.args.watchers.now.part in
    let it = c.loop-number.watchers.part in
    let number = c.loop-number.number in
    let so_far = c.loop-number.invariant in
    let carried = so_far.kept.carried in
    let rooted = sym (c.is_looked_at.ensures ∙ ap (λ (tree : Tree). is_rooted_in tree document (watcher_at c.loop-number.watchers number).root) c.page.ensures) ∙ c.if-is_looked_at.true in
    let there : number < length was.made = omega (arith, so_far.end, c.loop-number-test.true) in
    let chained = chained_of shown c.document_count.ensures.page in
    apart_here shown c.args.scroll_margins.now chained document was it carried number c.args.findings.now c.loop-number.findings c.settle_stale.new.findings c.args.steps.now c.loop-number.steps c.settle_stale.new.steps there rooted
    (so_far.totals chained) c.settle_stale.ensures.pairs

pub returns-in_err-queued-clause-computed : goal.returns-in_err-queued-clause-computed
returns-in_err-queued-clause-computed g c = λ serial some. c.settle_stale.ensures.computed serial (c.loop-number.invariant.computed serial some)

pub returns-then-not-is_watched_in-clause-updated : goal.returns-then-not-is_watched_in-clause-updated
returns-then-not-is_watched_in-clause-updated g c =
    let none : is_watched c.args.shown.now.tree c.args.document.0 c.args.watchers.now.part ≡ false =
    sym c.is_watched_in.ensures ∙ (let no : c.is_watched_in.result ≡ false = grind (arith, tests, c.if-not-is_watched_in.true) in no)
    in
    ap (λ (it : IntersectionObservers). record (c.args.watchers.now) { part = it }) (sym (unwatched_same c.args.shown.now c.args.scroll_margins.now c.args.shown.now.tree c.args.document.0 c.args.time c.args.watchers.now.part none))

pub returns-then-not-is_watched_in-clause-queued : goal.returns-then-not-is_watched_in-clause-queued
returns-then-not-is_watched_in-clause-queued g c =
    let none : is_watched c.args.shown.now.tree c.args.document.0 c.args.watchers.now.part ≡ false =
    sym c.is_watched_in.ensures ∙ (let no : c.is_watched_in.result ≡ false = grind (arith, tests, c.if-not-is_watched_in.true) in no)
    in
    unwatched_told c.args.shown.now c.args.scroll_margins.now c.args.shown.now.tree c.args.document.0 c.args.time c.args.watchers.now.part none

pub returns-then-not-is_watched_in-clause-settled : goal.returns-then-not-is_watched_in-clause-settled
returns-then-not-is_watched_in-clause-settled g c =
    let none : is_watched c.args.shown.now.tree c.args.document.0 c.args.watchers.now.part ≡ false =
    sym c.is_watched_in.ensures ∙ (let no : c.is_watched_in.result ≡ false = grind (arith, tests, c.if-not-is_watched_in.true) in no)
    in
    unwatched_settled c.args.shown.now c.args.scroll_margins.now c.args.document.0 c.args.watchers.now.part none

pub returns-then-not-is_watched_in-clause-touched : goal.returns-then-not-is_watched_in-clause-touched
returns-then-not-is_watched_in-clause-touched g c =
    let none : is_watched c.args.shown.now.tree c.args.document.0 c.args.watchers.now.part ≡ false =
    sym c.is_watched_in.ensures ∙ (let no : c.is_watched_in.result ≡ false = grind (arith, tests, c.if-not-is_watched_in.true) in no)
    in
    changes_none (scene_of c.args.shown.now) c.args.findings.now.seen c.args.findings.now.clips.touches

pub returns-then-not-is_watched_in-clause-seen : goal.returns-then-not-is_watched_in-clause-seen
returns-then-not-is_watched_in-clause-seen g c =
    let none : is_watched c.args.shown.now.tree c.args.document.0 c.args.watchers.now.part ≡ false =
    sym c.is_watched_in.ensures ∙ (let no : c.is_watched_in.result ≡ false = grind (arith, tests, c.if-not-is_watched_in.true) in no)
    in
    λ serial looked. absurd (none_looked_at c.args.shown.now.tree c.args.document.0 serial c.args.watchers.now.part none looked)

pub returns-then-not-is_watched_in-clause-fresh : goal.returns-then-not-is_watched_in-clause-fresh
returns-then-not-is_watched_in-clause-fresh g c =
    let none : is_watched c.args.shown.now.tree c.args.document.0 c.args.watchers.now.part ≡ false =
    sym c.is_watched_in.ensures ∙ (let no : c.is_watched_in.result ≡ false = grind (arith, tests, c.if-not-is_watched_in.true) in no)
    in
    λ chained serial looked. absurd (none_looked_at c.args.shown.now.tree c.args.document.0 serial c.args.watchers.now.part none looked)

pub returns-then-not-is_watched_in-clause-current : goal.returns-then-not-is_watched_in-clause-current
returns-then-not-is_watched_in-clause-current g c =
    let none : is_watched c.args.shown.now.tree c.args.document.0 c.args.watchers.now.part ≡ false =
    sym c.is_watched_in.ensures ∙ (let no : c.is_watched_in.result ≡ false = grind (arith, tests, c.if-not-is_watched_in.true) in no)
    in
    λ chained few serial looked. absurd (none_looked_at c.args.shown.now.tree c.args.document.0 serial c.args.watchers.now.part none looked)
