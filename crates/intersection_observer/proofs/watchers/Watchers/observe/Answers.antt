use Rattle.std.proofs.Common.{◌≡◌, ◌∙◌, ap, sym, subst, ◌<◌, false, None, arith}
use Rattle.std.proofs.lemmas.Bool.{ltb-true}
use Rattle.page_model.specs.World.{Registration, IntersectionObserver}
use Rattle.page_model.specs.IntersectionObserving.{is_registered, intersection_observations}
use Rattle.intersection_observer.specs.Watchers.{HeldWatchers, watcher_at}
use Rattle.intersection_observer.proofs.Counts.{held-observed, held-free, IsEntered, entered}
use Rattle.intersection_observer.proofs.Changing.{within, read, once_registered}
use Rattle.intersection_observer.proofs.watchers.Watchers.observe.Goals as goal

absent : (c : goal.After-self-2-1) → is_registered c.args.target.0 (watcher_at c.args.self.now c.args.watcher.0).registrations ≡ false
absent c = ap (λ (it : IntersectionObserver). is_registered c.args.target.0 it.registrations) (sym (read c.self.view_is c.requires.watcher c.index.ensures)) ∙ sym c.if-observes.ensures

free : (c : goal.After-self-2-1) → is_registered c.args.target.0 c.index_mut.result.now.registrations ≡ false
free c = ap (λ (it : IntersectionObserver). is_registered c.args.target.0 it.registrations) (read c.self.view_is c.requires.watcher c.index_mut.ensures.value) ∙ absent c

pub invariant_of-self-2 : goal.invariant_of-self-2
invariant_of-self-2 c =
    let new : Registration = record { serial = c.self.inside.given; target = c.args.target.0; previous_index = None; met = false } in
    let there = within c.self.view_is c.requires.watcher in
    let in_places : IsEntered c.self.inside.places c.insert.new.self c.self.inside.given (record { watcher = c.args.watcher.0; target = c.args.target.0 }) =
    entered c.self.inside.places c.reserve.new.self c.insert.new.self c.self.inside.given (record { watcher = c.args.watcher.0; target = c.args.target.0 }) c.insert.result
    c.in-Ok.ensures.entries (held-free c.self.inside.most_watchers c.self.inside.most_registrations c.self.inside.places c.self.inside.given (c.self.inside.made.items) c.self.invariant)
    c.unwrap.ensures c.insert.ensures.updates c.insert.ensures.old c.insert.ensures.len
    in
    let room : intersection_observations (record { given = c.self.inside.given; made = c.self.inside.made.items }) < c.self.inside.most_registrations =
    subst (λ (it : HeldWatchers). intersection_observations it.part < it.most_registrations) (sym c.self.view_is) (ltb-true (intersection_observations c.args.self.now.part) c.args.self.now.most_registrations (sym c.if-not-has_space.ensures))
    in
    held-observed c.self.inside.most_watchers c.self.inside.most_registrations c.self.inside.places c.insert.new.self (c.self.inside.made.items) c.args.watcher.0 c.index_mut.result.now c.observe.new.self new
    there c.index_mut.ensures.value (ap (λ (it : IntersectionObserver). it.registrations) c.in-Ok-observe.ensures.ok) (free c)
    (omega (arith, room, c.self.invariant.counted))
    in_places.gets in_places.longer c.self.invariant

pub returns-clause-answer : goal.returns-clause-answer
returns-clause-answer c = (absent c, sym c.if-not-has_space.ensures, ap (λ (it : HeldWatchers). it.part.given) c.self.view_is)

pub returns-clause-observed : goal.returns-clause-observed
returns-clause-observed c = once_registered c.args.target.0 c.self.view_is c.requires.watcher c.index_mut.ensures.value c.in-Ok-observe.ensures.ok (free c)
