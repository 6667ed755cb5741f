use Rattle.std.proofs.Common.{◌≡◌, ◌∙◌, ◌+◌, ◌<◌, ◌≤◌, length, get_or, Option, refl, ap, sym, subst, inl, arith}
use Rattle.std.specs.List.{All}
use Rattle.std.specs.FinMap.{FinMap}
use Rattle.std.specs.Ordering.{nat_cmp}
use Rattle.std.proofs.lemmas.List.Elements.{All-weaker}
use Rattle.page_model.specs.World.{IntersectionObservers}
use Rattle.page_model.specs.Lookups.{scroll_margins_at}
use Rattle.clip_chain.specs.Worlds.{scene_of}
use Rattle.intersection_observer.specs.declared.registration.RegistrationId.{RegistrationId}
use Rattle.intersection_observer.specs.Watchers.{HeldWatchers, watcher_at}
use Rattle.intersection_observer.specs.Settling.{with_settled}
use Rattle.kept_clips.specs.Touches.{Touched, last_number}
use Rattle.kept_clips.specs.Held.{HeldClips}
use Rattle.kept_clips.specs.Scenes.{AgreesAt}
use Rattle.kept_clips.specs.Seen.{Seen, scene_seen}
use Rattle.candidate_index.specs.declared.index.Kept.{Kept}
use Rattle.candidate_index.specs.Registrations.{place_of, serials_at, target_of}
use Rattle.candidate_index.specs.Asked.{asked_for}
use Rattle.candidate_index.specs.Held.{kept_of}
use Rattle.kept_findings.specs.Walks.{IsWalked, spots_between, found_in}
use Rattle.kept_findings.specs.Views.{seen_by, seen_for}
use Rattle.kept_findings.proofs.Rooms.{room_looked, room_same}
use Rattle.kept_findings.proofs.Walking.{is_between}
use Rattle.page_geometry.specs.Scenes.{standings_of, telling_of}
use Rattle.page_geometry.proofs.Scenes.{chained_of}
use Rattle.intersection_update.specs.Keeping.{is_stale_in, StandsAt, HasCurrentClip}
use Rattle.intersection_update.proofs.Carried.{carried_same, along_still, stale_still, asked_still, steps_still}
use Rattle.intersection_update.proofs.Current.{current_first, still_asked}
use Rattle.intersection_update.proofs.Room.{may_be_walked}
use Rattle.intersection_update.proofs.Keeping.{at_standing, all_standing, watcher_is, SoFar, none_so_far, same_more, others_more, kept_but_one, one_more, none_stale, stale_at, looked_along, looked_still}
use Rattle.intersection_update.proofs.Settled.{kept_same, kept_then, kept_once, longer_once, queued_is}
use Rattle.intersection_update.proofs.Stale.{numbers_are, as_many, next_of, stands, next_settled, stale_settled, stopped_at}
use Rattle.intersection_update.proofs.Steps.{cost, computed_asked, computed_all, computed_same, apart_asked, pair_same, paid_first, paid_more, paid_from, paid_all, with_touches}
use Rattle.intersection_update.proofs.Updates.{either_queued, not_queued, on_err}
use Rattle.intersection_update.proofs.settling.settle_stale.Goals as goal

pub look-requires-clause-chained : goal.look-requires-clause-chained
look-requires-clause-chained g c = chained_of c.args.shown.now c.document_count.ensures.page

pub look-requires-clause-room : goal.look-requires-clause-room
look-requires-clause-room g c = λ k none below. may_be_walked c.args.shown.now c.document_count.ensures.page c.args.watchers.now.part c.args.findings.now c.requires.room (get_or (serials_at c.args.watchers.now.part c.args.watcher.0) k none)

pub stale_registrations-requires-clause-chained : goal.stale_registrations-requires-clause-chained
stale_registrations-requires-clause-chained g c = chained_of c.args.shown.now c.document_count.ensures.page

pub returns-in_err-stale-clause-room : goal.returns-in_err-stale-clause-room
returns-in_err-stale-clause-room g c =
    let elements = length c.args.shown.now.tree.elements in
    let documents = length c.args.shown.now.tree.documents in
    room_same elements documents c.look.new.self c.stale_registrations.new.self c.stale_registrations.ensures.seen c.stale_registrations.ensures.touches
    (room_looked elements documents (scene_of c.args.shown.now) c.args.findings.now c.look.new.self c.look.ensures.looked c.requires.room)

pub loop-registration-init : goal.loop-registration-init
loop-registration-init g c =
    let elements = length c.args.shown.now.tree.elements in
    let documents = length c.args.shown.now.tree.documents in
    let was : HeldWatchers = c.args.watchers.now in
    record {
      settled = λ chained. refl;
      queued = sym (not_queued (length (watcher_at was c.args.watcher.0).queue));
      longer = omega arith;
      kept = kept_same elements was was refl;
      registered = c.stale_registrations.ensures.registered (c.look.ensures.registered c.args.scroll_margins.now c.requires.registered);
      room = room_same elements documents c.look.new.self c.stale_registrations.new.self c.stale_registrations.ensures.seen c.stale_registrations.ensures.touches
          (room_looked elements documents (scene_of c.args.shown.now) c.args.findings.now c.look.new.self c.look.ensures.looked c.requires.room);
      known = c.stale_registrations.ensures.known;
      looked = looked_along c.args.shown.now was.part c.args.watcher.0 c.registrations.ensures.serials c.args.findings.now c.look.new.self c.stale_registrations.new.self c.look.new.looks
          c.look.ensures.looked c.look.ensures.known c.look.ensures.noted c.look.ensures.left c.stale_registrations.ensures.seen c.stale_registrations.ensures.touches;
      paid = λ chained.
          let scene = scene_of c.args.shown.now in
          let view = seen_by was.part c.args.scroll_margins.now c.args.watcher.0 scene in
          let standings = standings_of c.args.shown.now in
          let between = spots_between scene standings chained was.part in
          let serials = serials_at was.part c.args.watcher.0 in
          let leads = is_between scene standings chained was.part in
          let last : HeldClips = c.stale_registrations.new.self.clips in
          let first : HeldClips = c.look.new.self.clips in
          let old : HeldClips = c.args.findings.now.clips in
          paid_from view standings was.part between first (record old { touches = last.touches }) last serials c.deref-registration-items.result.now c.args.steps.now c.stale_registrations.new.steps 0
          (with_touches old first (last.touches) c.look.ensures.looked.pairs c.stale_registrations.ensures.touches)
          (paid_first view standings was.part between first last serials c.deref-registration-items.result.now c.args.steps.now c.stale_registrations.new.steps
          c.clips.ensures.numbered
          (c.in_ok-stale.ensures.clips between (λ k none below. leads (get_or serials k none))) c.stale_registrations.ensures.touches
          (c.in_ok-stale.ensures.ticks between (λ k none below. leads (get_or serials k none))));
      current = λ chained below.
          let scene = scene_of c.args.shown.now in
          let between = spots_between scene (standings_of c.args.shown.now) chained was.part in
          let serials = serials_at was.part c.args.watcher.0 in
          current_first (seen_by was.part c.args.scroll_margins.now c.args.watcher.0 scene) (standings_of c.args.shown.now) was.part between serials c.look.new.self.clips c.stale_registrations.new.self.clips
          c.clips.ensures.numbered (c.in_ok-stale.ensures.clips between (λ k none there. is_between scene (standings_of c.args.shown.now) chained was.part (get_or serials k none))) c.stale_registrations.ensures.touches below;
      so_far = λ chained.
          subst (λ (kept : FinMap nat_cmp (Option Kept)). SoFar c.args.shown.now c.args.scroll_margins.now chained was.part c.args.watcher.0 c.args.findings.now.kept kept c.deref-registration-items.result.now 0)
          (sym (c.stale_registrations.ensures.kept ∙ c.look.ensures.kept)) (none_so_far c.args.shown.now c.args.scroll_margins.now chained was.part c.args.watcher.0 c.args.findings.now.kept c.deref-registration-items.result.now);
      computed =
          let chained = chained_of c.args.shown.now c.document_count.ensures.page in
          let scene = scene_of c.args.shown.now in
          let standings = standings_of c.args.shown.now in
          let between = spots_between scene standings chained was.part in
          let serials = serials_at was.part c.args.watcher.0 in
          computed_all (seen_by was.part c.args.scroll_margins.now c.args.watcher.0 scene) standings was.part between serials c.args.findings.now.clips c.look.new.self.clips c.stale_registrations.new.self.clips
          (computed_same c.args.findings.now.clips c.look.new.self.clips c.look.ensures.looked.pairs)
          (c.in_ok-stale.ensures.clips between (λ k none below. is_between scene standings chained was.part (get_or serials k none)));
      walked = subst (λ (seen : Seen). All (IsWalked (scene_of c.args.shown.now) (standings_of c.args.shown.now) was.part seen) (serials_at was.part c.args.watcher.0)) (sym c.stale_registrations.ensures.seen) c.look.ensures.walked;
    }

pub stale_registrations-requires-clause-held : goal.stale_registrations-requires-clause-held
stale_registrations-requires-clause-held g c = (c.look.ensures.registered c.args.scroll_margins.now c.requires.registered).held

pub settle-requires-clause-margins : goal.settle-requires-clause-margins
settle-requires-clause-margins g c = c.requires.margins ∙ sym c.loop-registration.invariant.kept.carried.count

pub settle-requires-clause-stands : goal.settle-requires-clause-stands
settle-requires-clause-stands g c =
    let shown = c.args.shown.now in
    let margins = c.args.scroll_margins.now in
    let page = c.document_count.ensures.page in
    let chained = chained_of shown page in
    let was = c.args.watchers.now.part in
    let names = c.deref-registration-items.result.now in
    let k = c.loop-registration.registration-index in
    let none : RegistrationId = record { 0 = 0 } in
    let same = numbers_are shown margins chained c.args.time c.args.watcher.0 was c.args.findings.now names c.in_ok-stale.stale.items c.look.new.self c.deref-registration-items.ensures.value c.look.ensures.kept c.in_ok-stale.ensures.stale in
    let below : k < length names = omega arith in
    stands shown margins chained c.args.time c.args.watcher.0 was c.args.findings.now page c.registrations.ensures.serials k (get_or names k none).0 c.loop-registration.watchers.part
    (next_of shown margins chained c.args.time c.args.watcher.0 was c.args.findings.now page c.registrations.ensures.serials names none k same below) c.loop-registration.invariant.kept.carried

pub settle-requires-clause-chained : goal.settle-requires-clause-chained
settle-requires-clause-chained g c = chained_of c.args.shown.now c.document_count.ensures.page

pub settle-requires-clause-walked : goal.settle-requires-clause-walked
settle-requires-clause-walked g c =
    let shown = c.args.shown.now in
    let margins = c.args.scroll_margins.now in
    let page = c.document_count.ensures.page in
    let chained = chained_of shown page in
    let was = c.args.watchers.now.part in
    let names = c.deref-registration-items.result.now in
    let k = c.loop-registration.registration-index in
    let none : RegistrationId = record { 0 = 0 } in
    let same = numbers_are shown margins chained c.args.time c.args.watcher.0 was c.args.findings.now names c.in_ok-stale.stale.items c.look.new.self c.deref-registration-items.ensures.value c.look.ensures.kept c.in_ok-stale.ensures.stale in
    let below : k < length names = omega arith in
    let serial = (get_or names k none).0 in
    let seen = c.loop-registration.findings.seen in
    along_still was c.loop-registration.watchers.part c.loop-registration.invariant.kept.carried serial (scene_of shown) (standings_of shown) (AgreesAt (scene_seen seen) (scene_of shown))
    (at_standing (IsWalked (scene_of shown) (standings_of shown) was seen) was c.args.watcher.0 serial
    (stands shown margins chained c.args.time c.args.watcher.0 was c.args.findings.now page c.registrations.ensures.serials k serial was
    (next_of shown margins chained c.args.time c.args.watcher.0 was c.args.findings.now page c.registrations.ensures.serials names none k same below) (carried_same was))
    c.loop-registration.invariant.walked)

pub returns-in_err-queued-clause-stopped : goal.returns-in_err-queued-clause-stopped
returns-in_err-queued-clause-stopped g c =
    let shown = c.args.shown.now in
    let margins = c.args.scroll_margins.now in
    let page = c.document_count.ensures.page in
    let was = c.args.watchers.now.part in
    let watcher = c.args.watcher.0 in
    let names = c.deref-registration-items.result.now in
    let k = c.loop-registration.registration-index in
    let none : RegistrationId = record { 0 = 0 } in
    let serial = (get_or names k none).0 in
    let below : k < length names = omega arith in
    let chained = chained_of shown page in
    let same = numbers_are shown margins chained c.args.time watcher was c.args.findings.now names c.in_ok-stale.stale.items c.look.new.self c.deref-registration-items.ensures.value c.look.ensures.kept c.in_ok-stale.ensures.stale in
    let at = next_of shown margins chained c.args.time watcher was c.args.findings.now page c.registrations.ensures.serials names none k same below in
    let stops = stopped_at shown margins chained c.args.time watcher was c.args.findings.now page c.registrations.ensures.serials c.requires.registered k serial c.settle.new.watchers.part at
    (subst (λ n. k < n) (sym (as_many shown margins chained c.args.time watcher was c.args.findings.now names same)) below)
    (ap (λ (it : HeldWatchers). it.part) c.in_err-queued.ensures.same ∙ c.loop-registration.invariant.settled chained) in
    on_err c.from_residual-in_err-queued.result stops.begun

pub returns-in_err-queued-clause-same : goal.returns-in_err-queued-clause-same
returns-in_err-queued-clause-same g c =
    let shown = c.args.shown.now in
    let margins = c.args.scroll_margins.now in
    let page = c.document_count.ensures.page in
    let was = c.args.watchers.now.part in
    let watcher = c.args.watcher.0 in
    let names = c.deref-registration-items.result.now in
    let k = c.loop-registration.registration-index in
    let none : RegistrationId = record { 0 = 0 } in
    let serial = (get_or names k none).0 in
    let below : k < length names = omega arith in
    λ chained.
    let same = numbers_are shown margins chained c.args.time watcher was c.args.findings.now names c.in_ok-stale.stale.items c.look.new.self c.deref-registration-items.ensures.value c.look.ensures.kept c.in_ok-stale.ensures.stale in
    let stands_there = stands shown margins chained c.args.time watcher was c.args.findings.now page c.registrations.ensures.serials k serial was (next_of shown margins chained c.args.time watcher was c.args.findings.now page c.registrations.ensures.serials names none k same below) (carried_same was) in
    same_more shown margins chained was watcher serial c.args.findings.now.kept c.loop-registration.findings.kept c.settle.new.self.kept names k (c.loop-registration.invariant.so_far chained)
    (stale_at shown margins chained was watcher c.args.findings.now.kept names k none same below) (watcher_is was watcher serial stands_there) c.settle.ensures.others

pub returns-in_err-queued-clause-others : goal.returns-in_err-queued-clause-others
returns-in_err-queued-clause-others g c =
    let shown = c.args.shown.now in
    let margins = c.args.scroll_margins.now in
    let page = c.document_count.ensures.page in
    let was = c.args.watchers.now.part in
    let watcher = c.args.watcher.0 in
    let names = c.deref-registration-items.result.now in
    let k = c.loop-registration.registration-index in
    let none : RegistrationId = record { 0 = 0 } in
    let serial = (get_or names k none).0 in
    let below : k < length names = omega arith in
    let chained = chained_of shown page in
    let same = numbers_are shown margins chained c.args.time watcher was c.args.findings.now names c.in_ok-stale.stale.items c.look.new.self c.deref-registration-items.ensures.value c.look.ensures.kept c.in_ok-stale.ensures.stale in
    let stands_there = stands shown margins chained c.args.time watcher was c.args.findings.now page c.registrations.ensures.serials k serial was (next_of shown margins chained c.args.time watcher was c.args.findings.now page c.registrations.ensures.serials names none k same below) (carried_same was) in
    others_more shown margins chained was watcher serial c.args.findings.now.kept c.loop-registration.findings.kept c.settle.new.self.kept names k (c.loop-registration.invariant.so_far chained)
    (stale_at shown margins chained was watcher c.args.findings.now.kept names k none same below) (watcher_is was watcher serial stands_there) c.settle.ensures.others

pub returns-in_err-stale-clause-computed : goal.returns-in_err-stale-clause-computed
returns-in_err-stale-clause-computed g c =
    computed_same c.args.findings.now.clips c.stale_registrations.new.self.clips (ap (λ (it : HeldClips). it.pairs) c.in_err-stale.ensures.same_clips ∙ c.look.ensures.looked.pairs)

pub returns-in_err-queued-clause-computed : goal.returns-in_err-queued-clause-computed
returns-in_err-queued-clause-computed g c =
    let shown = c.args.shown.now in
    let margins = c.args.scroll_margins.now in
    let chained = chained_of shown c.document_count.ensures.page in
    let names = c.deref-registration-items.result.now in
    let none : RegistrationId = record { 0 = 0 } in
    let serial = (get_or names c.loop-registration.registration-index none).0 in
    let now = c.loop-registration.watchers.part in
    let between = spots_between (scene_of shown) (standings_of shown) chained now in
    computed_asked (seen_for now margins serial (scene_of shown)) (standings_of shown) now between serial c.args.findings.now.clips c.loop-registration.findings.clips c.settle.new.self.clips c.loop-registration.invariant.computed
    (c.settle.ensures.clips between (is_between (scene_of shown) (standings_of shown) chained now serial))

pub returns-in_err-queued-clause-room : goal.returns-in_err-queued-clause-room
returns-in_err-queued-clause-room g c =
    room_same (length c.args.shown.now.tree.elements) (length c.args.shown.now.tree.documents) c.loop-registration.findings c.settle.new.self c.settle.ensures.seen c.settle.ensures.touches c.loop-registration.invariant.room

pub returns-in_err-queued-clause-looked : goal.returns-in_err-queued-clause-looked
returns-in_err-queued-clause-looked g c =
    looked_still c.args.shown.now c.args.watchers.now.part c.args.watcher.0 c.registrations.ensures.serials c.args.findings.now c.loop-registration.findings c.settle.new.self c.loop-registration.invariant.looked
    c.settle.ensures.seen c.settle.ensures.touches

pub returns-in_err-queued-clause-refused : goal.returns-in_err-queued-clause-refused
returns-in_err-queued-clause-refused g c =
    let shown = c.args.shown.now in
    let margins = c.args.scroll_margins.now in
    let page = c.document_count.ensures.page in
    let was = c.args.watchers.now.part in
    let watcher = c.args.watcher.0 in
    let names = c.deref-registration-items.result.now in
    let k = c.loop-registration.registration-index in
    let none : RegistrationId = record { 0 = 0 } in
    let serial = (get_or names k none).0 in
    let below : k < length names = omega arith in
    λ chained.
    let same = numbers_are shown margins chained c.args.time watcher was c.args.findings.now names c.in_ok-stale.stale.items c.look.new.self c.deref-registration-items.ensures.value c.look.ensures.kept c.in_ok-stale.ensures.stale in
    let at = next_of shown margins chained c.args.time watcher was c.args.findings.now page c.registrations.ensures.serials names none k same below in
    let stands_there = stands shown margins chained c.args.time watcher was c.args.findings.now page c.registrations.ensures.serials k serial was at (carried_same was) in
    let stops = stopped_at shown margins chained c.args.time watcher was c.args.findings.now page c.registrations.ensures.serials c.requires.registered k serial c.settle.new.watchers.part at
    (subst (λ n. k < n) (sym (as_many shown margins chained c.args.time watcher was c.args.findings.now names same)) below)
    (ap (λ (it : HeldWatchers). it.part) c.in_err-queued.ensures.same ∙ c.loop-registration.invariant.settled chained) in
    on_err c.from_residual-in_err-queued.result
    (record {
      begun = stops.begun;
      rest = kept_but_one shown margins chained was watcher serial c.args.findings.now.kept c.loop-registration.findings.kept c.settle.new.self.kept names k (c.loop-registration.invariant.so_far chained)
          (stale_at shown margins chained was watcher c.args.findings.now.kept names k none same below) (watcher_is was watcher serial stands_there) c.settle.ensures.others
          stops.begun.place stops.here c.in_err-queued.ensures.expired;
    })

pub returns-in_err-stale-clause-looked : goal.returns-in_err-stale-clause-looked
returns-in_err-stale-clause-looked g c =
    looked_along c.args.shown.now c.args.watchers.now.part c.args.watcher.0 c.registrations.ensures.serials c.args.findings.now c.look.new.self c.stale_registrations.new.self c.look.new.looks
    c.look.ensures.looked c.look.ensures.known c.look.ensures.noted c.look.ensures.left c.stale_registrations.ensures.seen c.stale_registrations.ensures.touches

pub returns-in_err-stale-clause-same : goal.returns-in_err-stale-clause-same
returns-in_err-stale-clause-same g c = λ chained serial is. ap (λ (kept : FinMap nat_cmp (Option Kept)). kept_of kept serial) (c.stale_registrations.ensures.kept ∙ c.look.ensures.kept)

pub returns-in_err-stale-clause-others : goal.returns-in_err-stale-clause-others
returns-in_err-stale-clause-others g c = λ serial apart. ap (λ (kept : FinMap nat_cmp (Option Kept)). kept_of kept serial) (c.stale_registrations.ensures.kept ∙ c.look.ensures.kept)

pub returns-in_err-stale-clause-refused : goal.returns-in_err-stale-clause-refused
returns-in_err-stale-clause-refused g c = λ chained.
    on_err c.from_residual.result
    (record {
      begun = record { place = 0; settled = refl };
      rest = λ serial. inl (ap (λ (kept : FinMap nat_cmp (Option Kept)). kept_of kept serial) (c.stale_registrations.ensures.kept ∙ c.look.ensures.kept));
    })

pub loop-registration-preserved : goal.loop-registration-preserved
loop-registration-preserved g c =
    let shown = c.args.shown.now in
    let margins = c.args.scroll_margins.now in
    let page = c.document_count.ensures.page in
    let was : HeldWatchers = c.args.watchers.now in
    let now : HeldWatchers = c.loop-registration.watchers in
    let next : HeldWatchers = c.settle.new.watchers in
    let watcher = c.args.watcher.0 in
    let names = c.deref-registration-items.result.now in
    let k = c.loop-registration.registration-index in
    let none : RegistrationId = record { 0 = 0 } in
    let serial = (get_or names k none).0 in
    let so_far = c.loop-registration.invariant in
    let below : k < length names = omega arith in
    let chained = chained_of shown page in
    let same = numbers_are shown margins chained c.args.time watcher was.part c.args.findings.now names c.in_ok-stale.stale.items c.look.new.self c.deref-registration-items.ensures.value c.look.ensures.kept c.in_ok-stale.ensures.stale in
    let at = next_of shown margins chained c.args.time watcher was.part c.args.findings.now page c.registrations.ensures.serials names none k same below in
    let found = found_in (scene_of shown) (standings_of shown) chained (telling_of shown) (scroll_margins_at margins watcher) (watcher_at now watcher) (target_of now.part serial) in
    let settled : next ≡ record now { part = with_settled serial c.args.time found (now.part) } = c.in_ok-queued.ensures.settled chained in
    let there = stands shown margins chained c.args.time watcher was.part c.args.findings.now page c.registrations.ensures.serials k serial now.part at so_far.kept.carried in
    let made : watcher < length now.part.made = omega (arith, so_far.kept.carried.count, c.requires.watcher) in
    let longer = longer_once now next serial c.args.time watcher found settled in
    let queued = c.in_ok-queued.ensures.queued chained ∙ queued_is now next serial c.args.time watcher (target_of now.part serial) found there made settled in
    record {
      settled = λ any.
          let listed = numbers_are shown margins any c.args.time watcher was.part c.args.findings.now names c.in_ok-stale.stale.items c.look.new.self c.deref-registration-items.ensures.value c.look.ensures.kept c.in_ok-stale.ensures.stale in
          next_settled shown margins any c.args.time watcher was.part c.args.findings.now page c.registrations.ensures.serials k serial now.part next.part
          (next_of shown margins any c.args.time watcher was.part c.args.findings.now page c.registrations.ensures.serials names none k listed below) (so_far.settled any)
          (ap (λ (it : HeldWatchers). it.part) (c.in_ok-queued.ensures.settled any));
      queued = either_queued c.loop-registration.queued c.in_ok-queued.field-0 (length (watcher_at was watcher).queue) (length (watcher_at now watcher).queue) (length (watcher_at next watcher).queue)
          so_far.queued queued so_far.longer longer;
      longer = omega (arith, so_far.longer, longer);
      kept = kept_then (length shown.tree.elements) was now next so_far.kept (kept_once (length shown.tree.elements) now next serial c.args.time found (c.settle.ensures.reach chained) settled);
      registered = c.settle.ensures.registered;
      room = room_same (length shown.tree.elements) (length shown.tree.documents) c.loop-registration.findings c.settle.new.self c.settle.ensures.seen c.settle.ensures.touches so_far.room;
      known = c.settle.ensures.known;
      looked = looked_still shown was.part watcher c.registrations.ensures.serials c.args.findings.now c.loop-registration.findings c.settle.new.self so_far.looked c.settle.ensures.seen c.settle.ensures.touches;
      paid = λ any.
          let scene = scene_of shown in
          let view = seen_by was.part margins watcher scene in
          let standings = standings_of shown in
          let between = spots_between scene standings any was.part in
          let serials = serials_at was.part watcher in
          let old : HeldClips = c.args.findings.now.clips in
          let last : HeldClips = c.loop-registration.findings.clips in
          let new : HeldClips = c.settle.new.self.clips in
          let listed = numbers_are shown margins any c.args.time watcher was.part c.args.findings.now names c.in_ok-stale.stale.items c.look.new.self c.deref-registration-items.ensures.value c.look.ensures.kept c.in_ok-stale.ensures.stale in
          let stands_there = stands shown margins any c.args.time watcher was.part c.args.findings.now page c.registrations.ensures.serials k serial was.part
          (next_of shown margins any c.args.time watcher was.part c.args.findings.now page c.registrations.ensures.serials names none k listed below) (carried_same was.part) in
          let leads = is_between scene standings any now.part serial in
          let asked = c.settle.ensures.clips (spots_between scene standings any now.part) leads ∙ asked_still was.part now.part so_far.kept.carried serial scene standings any margins last
          ∙ ap (λ w. asked_for (seen_by was.part margins w scene) standings was.part between serial last) (watcher_is was.part watcher serial stands_there) in
          let ticks = c.settle.ensures.ticks (spots_between scene standings any now.part) leads ∙ ap (λ n. c.loop-registration.steps + n + 1) (steps_still was.part now.part so_far.kept.carried serial scene standings any last) in
          paid_from view standings was.part between (record old { touches = last.touches }) (record old { touches = new.touches }) new serials names c.args.steps.now c.settle.new.steps (k + 1)
          (ap (λ (t : Touched). record old { touches = t }) (sym c.settle.ensures.touches))
          (paid_more view standings was.part between (record old { touches = last.touches }) last new serials names c.args.steps.now c.loop-registration.steps c.settle.new.steps k (so_far.paid any) below
          (λ early. at_standing (λ s. cost view standings was.part between s last ≡ 0) was.part watcher serial stands_there ((so_far.paid any).none early))
          (λ other apart. at_standing (λ s. ¬ other ≡ s) was.part watcher serial stands_there apart)
          asked ticks);
      current = λ any early.
          let scene = scene_of shown in
          let standings = standings_of shown in
          let between = spots_between scene standings any was.part in
          let last : HeldClips = c.loop-registration.findings.clips in
          let new : HeldClips = c.settle.new.self.clips in
          let listed = numbers_are shown margins any c.args.time watcher was.part c.args.findings.now names c.in_ok-stale.stale.items c.look.new.self c.deref-registration-items.ensures.value c.look.ensures.kept c.in_ok-stale.ensures.stale in
          let stands_there = stands shown margins any c.args.time watcher was.part c.args.findings.now page c.registrations.ensures.serials k serial was.part
          (next_of shown margins any c.args.time watcher was.part c.args.findings.now page c.registrations.ensures.serials names none k listed below) (carried_same was.part) in
          let asked = c.settle.ensures.clips (spots_between scene standings any now.part) (is_between scene standings any now.part serial)
          ∙ asked_still was.part now.part so_far.kept.carried serial scene standings any margins last
          ∙ ap (λ w. asked_for (seen_by was.part margins w scene) standings was.part between serial last) (watcher_is was.part watcher serial stands_there) in
          All-weaker (HasCurrentClip shown any was.part last) (HasCurrentClip shown any was.part new)
          (λ other. still_asked (seen_by was.part margins watcher scene) standings was.part between serial other last new asked) (serials_at was.part watcher)
          (so_far.current any (subst (λ (t : Touched). t.count < last_number) c.settle.ensures.touches early));
      so_far = λ any.
          let listed = numbers_are shown margins any c.args.time watcher was.part c.args.findings.now names c.in_ok-stale.stale.items c.look.new.self c.deref-registration-items.ensures.value c.look.ensures.kept c.in_ok-stale.ensures.stale in
          let stands_there = stands shown margins any c.args.time watcher was.part c.args.findings.now page c.registrations.ensures.serials k serial was.part
          (next_of shown margins any c.args.time watcher was.part c.args.findings.now page c.registrations.ensures.serials names none k listed below) (carried_same was.part) in
          one_more shown margins any was.part watcher serial c.args.findings.now.kept c.loop-registration.findings.kept c.settle.new.self.kept names k (so_far.so_far any)
          (stale_at shown margins any was.part watcher c.args.findings.now.kept names k none listed below) (watcher_is was.part watcher serial stands_there) c.settle.ensures.others
          refl
          (sym (stale_still was.part now.part so_far.kept.carried serial (scene_of shown) (standings_of shown) any margins c.settle.new.self.kept)
          ∙ c.in_ok-queued.ensures.fresh (spots_between (scene_of shown) (standings_of shown) any now.part) (is_between (scene_of shown) (standings_of shown) any now.part serial));
      computed =
          let scene = scene_of shown in
          let standings = standings_of shown in
          let between = spots_between scene standings chained now.part in
          computed_asked (seen_for now.part margins serial scene) standings now.part between serial c.args.findings.now.clips c.loop-registration.findings.clips c.settle.new.self.clips so_far.computed
          (c.settle.ensures.clips between (is_between scene standings chained now.part serial));
      walked = subst (λ (seen : Seen). All (IsWalked (scene_of shown) (standings_of shown) was.part seen) (serials_at was.part watcher)) (sym c.settle.ensures.seen) so_far.walked;
    }

pub returns-clause-settled : goal.returns-clause-settled
returns-clause-settled g c =
    let shown = c.args.shown.now in
    let margins = c.args.scroll_margins.now in
    let page = c.document_count.ensures.page in
    let chained = chained_of shown page in
    let was : HeldWatchers = c.args.watchers.now in
    let watcher = c.args.watcher.0 in
    let names = c.deref-registration-items.result.now in
    let k = c.loop-registration.registration-index in
    let same = numbers_are shown margins chained c.args.time watcher was.part c.args.findings.now names c.in_ok-stale.stale.items c.look.new.self c.deref-registration-items.ensures.value c.look.ensures.kept c.in_ok-stale.ensures.stale in
    let past : length names ≤ k = omega arith in
    sym c.loop-registration.invariant.kept.rest
    ∙ ap (λ (part : IntersectionObservers). record was { part = part })
    (c.loop-registration.invariant.settled chained
    ∙ stale_settled shown margins chained c.args.time watcher was.part c.args.findings.now page c.registrations.ensures.serials c.requires.registered k
    (subst (λ n. n ≤ k) (sym (as_many shown margins chained c.args.time watcher was.part c.args.findings.now names same)) past))

pub returns-clause-others : goal.returns-clause-others
returns-clause-others g c = (c.loop-registration.invariant.so_far (chained_of c.args.shown.now c.document_count.ensures.page)).others

pub returns-clause-fresh : goal.returns-clause-fresh
returns-clause-fresh g c =
    let shown = c.args.shown.now in
    let margins = c.args.scroll_margins.now in
    let was = c.args.watchers.now.part in
    let watcher = c.args.watcher.0 in
    let names = c.deref-registration-items.result.now in
    let k = c.loop-registration.registration-index in
    let past : length names ≤ k = omega arith in
    λ chained.
    none_stale shown margins chained was watcher c.args.findings.now.kept c.loop-registration.findings.kept names k (c.loop-registration.invariant.so_far chained) past
    (numbers_are shown margins chained c.args.time watcher was c.args.findings.now names c.in_ok-stale.stale.items c.look.new.self c.deref-registration-items.ensures.value c.look.ensures.kept c.in_ok-stale.ensures.stale)

pub returns-clause-same : goal.returns-clause-same
returns-clause-same g c = λ chained. (c.loop-registration.invariant.so_far chained).same

pub returns-clause-rest : goal.returns-clause-rest
returns-clause-rest g c = λ chained. (c.loop-registration.invariant.so_far chained).rest

pub returns-in_err-stale-clause-listed : goal.returns-in_err-stale-clause-listed
returns-in_err-stale-clause-listed g c =
    all_standing (StandsAt c.args.watchers.now.part c.args.watcher.0) c.args.watchers.now.part c.args.watcher.0 c.registrations.ensures.serials (λ serial stands. stands)

pub returns-in_err-queued-clause-listed : goal.returns-in_err-queued-clause-listed
returns-in_err-queued-clause-listed g c =
    all_standing (StandsAt c.args.watchers.now.part c.args.watcher.0) c.args.watchers.now.part c.args.watcher.0 c.registrations.ensures.serials (λ serial stands. stands)

pub returns-clause-listed : goal.returns-clause-listed
returns-clause-listed g c =
    all_standing (StandsAt c.args.watchers.now.part c.args.watcher.0) c.args.watchers.now.part c.args.watcher.0 c.registrations.ensures.serials (λ serial stands. stands)

pub returns-in_err-stale-clause-pairs : goal.returns-in_err-stale-clause-pairs
returns-in_err-stale-clause-pairs g c = λ serial apart.
    pair_same c.args.findings.now.clips c.stale_registrations.new.self.clips (ap (λ (it : HeldClips). it.pairs) c.in_err-stale.ensures.same_clips ∙ c.look.ensures.looked.pairs) serial

pub returns-in_err-queued-clause-pairs : goal.returns-in_err-queued-clause-pairs
returns-in_err-queued-clause-pairs g c =
    let shown = c.args.shown.now in
    let margins = c.args.scroll_margins.now in
    let page = c.document_count.ensures.page in
    let was = c.args.watchers.now.part in
    let now = c.loop-registration.watchers.part in
    let watcher = c.args.watcher.0 in
    let names = c.deref-registration-items.result.now in
    let k = c.loop-registration.registration-index in
    let none : RegistrationId = record { 0 = 0 } in
    let serial = (get_or names k none).0 in
    let below : k < length names = omega arith in
    let chained = chained_of shown page in
    let between = spots_between (scene_of shown) (standings_of shown) chained now in
    let same = numbers_are shown margins chained c.args.time watcher was c.args.findings.now names c.in_ok-stale.stale.items c.look.new.self c.deref-registration-items.ensures.value c.look.ensures.kept c.in_ok-stale.ensures.stale in
    let stands_there = stands shown margins chained c.args.time watcher was c.args.findings.now page c.registrations.ensures.serials k serial was (next_of shown margins chained c.args.time watcher was c.args.findings.now page c.registrations.ensures.serials names none k same below) (carried_same was) in
    λ other apart.
    apart_asked (seen_for now margins serial (scene_of shown)) (standings_of shown) now between serial other c.loop-registration.findings.clips c.settle.new.self.clips
    (λ is. apart (ap (λ n. (place_of was n).watcher) is ∙ watcher_is was watcher serial stands_there))
    (c.settle.ensures.clips between (is_between (scene_of shown) (standings_of shown) chained now serial))
    ∙ (c.loop-registration.invariant.paid chained).others other
    (all_standing (λ s. ¬ other ≡ s) was watcher c.registrations.ensures.serials (λ s stands is. apart (ap (λ n. (place_of was n).watcher) is ∙ watcher_is was watcher s stands)))

pub returns-in_err-stale-clause-paid : goal.returns-in_err-stale-clause-paid
returns-in_err-stale-clause-paid g c = λ chained. let same = c.in_err-stale.ensures.same_steps in omega (arith, same)

-- the one that was refused is paid for too
pub returns-in_err-queued-clause-paid : goal.returns-in_err-queued-clause-paid
returns-in_err-queued-clause-paid g c =
    let shown = c.args.shown.now in
    let margins = c.args.scroll_margins.now in
    let page = c.document_count.ensures.page in
    let was = c.args.watchers.now.part in
    let now = c.loop-registration.watchers.part in
    let watcher = c.args.watcher.0 in
    let names = c.deref-registration-items.result.now in
    let k = c.loop-registration.registration-index in
    let none : RegistrationId = record { 0 = 0 } in
    let serial = (get_or names k none).0 in
    let so_far = c.loop-registration.invariant in
    let below : k < length names = omega arith in
    let scene = scene_of shown in
    let view = seen_by was margins watcher scene in
    let standings = standings_of shown in
    let serials = serials_at was watcher in
    let old : HeldClips = c.args.findings.now.clips in
    let last : HeldClips = c.loop-registration.findings.clips in
    let new : HeldClips = c.settle.new.self.clips in
    λ any.
    let between = spots_between scene standings any was in
    let listed = numbers_are shown margins any c.args.time watcher was c.args.findings.now names c.in_ok-stale.stale.items c.look.new.self c.deref-registration-items.ensures.value c.look.ensures.kept c.in_ok-stale.ensures.stale in
    let stands_there = stands shown margins any c.args.time watcher was c.args.findings.now page c.registrations.ensures.serials k serial was
    (next_of shown margins any c.args.time watcher was c.args.findings.now page c.registrations.ensures.serials names none k listed below) (carried_same was) in
    let leads = is_between scene standings any now serial in
    let asked = c.settle.ensures.clips (spots_between scene standings any now) leads ∙ asked_still was now so_far.kept.carried serial scene standings any margins last
    ∙ ap (λ w. asked_for (seen_by was margins w scene) standings was between serial last) (watcher_is was watcher serial stands_there) in
    let ticks = c.settle.ensures.ticks (spots_between scene standings any now) leads ∙ ap (λ n. c.loop-registration.steps + n + 1) (steps_still was now so_far.kept.carried serial scene standings any last) in
    paid_all view standings was between (record old { touches = new.touches }) new serials names (is_stale_in shown margins any was c.args.findings.now.kept) c.args.steps.now c.settle.new.steps (k + 1)
    (paid_from view standings was between (record old { touches = last.touches }) (record old { touches = new.touches }) new serials names c.args.steps.now c.settle.new.steps (k + 1)
    (ap (λ (t : Touched). record old { touches = t }) (sym c.settle.ensures.touches))
    (paid_more view standings was between (record old { touches = last.touches }) last new serials names c.args.steps.now c.loop-registration.steps c.settle.new.steps k (so_far.paid any) below
    (λ early. at_standing (λ s. cost view standings was between s last ≡ 0) was watcher serial stands_there ((so_far.paid any).none early))
    (λ other apart. at_standing (λ s. ¬ other ≡ s) was watcher serial stands_there apart)
    asked ticks))
    (omega (arith, below)) listed

pub returns-clause-pairs : goal.returns-clause-pairs
returns-clause-pairs g c =
    let was = c.args.watchers.now.part in
    let watcher = c.args.watcher.0 in
    λ serial apart.
    (c.loop-registration.invariant.paid (chained_of c.args.shown.now c.document_count.ensures.page)).others serial
    (all_standing (λ s. ¬ serial ≡ s) was watcher c.registrations.ensures.serials (λ s stands same. apart (ap (λ n. (place_of was n).watcher) same ∙ watcher_is was watcher s stands)))

pub returns-clause-current : goal.returns-clause-current
returns-clause-current g c = λ chained below. c.loop-registration.invariant.current chained below

pub returns-clause-paid : goal.returns-clause-paid
returns-clause-paid g c =
    let shown = c.args.shown.now in
    let margins = c.args.scroll_margins.now in
    let was = c.args.watchers.now.part in
    let watcher = c.args.watcher.0 in
    let names = c.deref-registration-items.result.now in
    let k = c.loop-registration.registration-index in
    let few : k ≤ length names = omega arith in
    let old : HeldClips = c.args.findings.now.clips in
    λ chained.
    paid_all (seen_by was margins watcher (scene_of shown)) (standings_of shown) was (spots_between (scene_of shown) (standings_of shown) chained was) (record old { touches = c.loop-registration.findings.clips.touches }) c.loop-registration.findings.clips
    (serials_at was watcher) names (is_stale_in shown margins chained was c.args.findings.now.kept) c.args.steps.now c.loop-registration.steps k (c.loop-registration.invariant.paid chained) few
    (numbers_are shown margins chained c.args.time watcher was c.args.findings.now names c.in_ok-stale.stale.items c.look.new.self c.deref-registration-items.ensures.value c.look.ensures.kept c.in_ok-stale.ensures.stale)
