use Rattle.std.proofs.Common.{ap, sym, subst, ◌<◌, length, List}
use Rattle.std.proofs.lemmas.Bool.{ltb-true, not-false}
use Rattle.page_model.specs.World.{IntersectionObserver}
use Rattle.intersection_observer.specs.Watchers.{HeldWatchers, has_room}
use Rattle.intersection_observer.specs.Held.{IsHeld}
use Rattle.intersection_observer.proofs.Numbers.{part_of}
use Rattle.intersection_observer.proofs.Counts.{held-made}
use Rattle.intersection_observer.proofs.watchers.Watchers.make.Goals as goal

pub invariant_of-self-2 : goal.invariant_of-self-2
invariant_of-self-2 c =
    let room : length c.args.self.now.part.made < c.args.self.now.most_watchers =
    ltb-true (length c.args.self.now.part.made) c.args.self.now.most_watchers (not-false (has_room c.args.self.now) (sym c.if-is_full.ensures))
    in
    subst (λ (made : List IntersectionObserver). IsHeld c.self.inside.places (part_of c.self.inside.given made) c.self.inside.most_watchers c.self.inside.most_registrations) (sym c.in-Ok.ensures.items)
    (held-made c.self.inside.most_watchers c.self.inside.most_registrations c.self.inside.places c.self.inside.given (c.self.inside.made.items) c.new-watcher.result
    (ap (λ (it : IntersectionObserver). it.registrations) c.new-watcher.ensures)
    (subst (λ (it : HeldWatchers). length it.part.made < it.most_watchers) (sym c.self.view_is) room) c.self.invariant)
