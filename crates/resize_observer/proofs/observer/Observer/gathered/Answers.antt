use Rattle.std.proofs.Common.{refl}
use Rattle.resize_observer.proofs.Seen.{place-seen, gathered-active, gathered-skipped}
use Rattle.resize_observer.proofs.observer.Observer.gathered.Goals as goal

pub returns-then-active : goal.returns-then-active
returns-then-active c =
    gathered-active (c.self.inside.active.items) (c.self.inside.targets.items) (c.push_reserved.new.self.items) c.self.view_is c.if-active.true refl refl
    (place-seen (c.self.inside.targets.items) c.self.view_is refl c.requires.place) c.index-observation.ensures c.push_reserved.ensures.items

pub returns-else-active : goal.returns-else-active
returns-else-active c =
    gathered-skipped (c.self.inside.skipped.items) (c.self.inside.targets.items) (c.push_reserved-else-active.new.self.items) c.self.view_is c.if-active.false refl refl
    (place-seen (c.self.inside.targets.items) c.self.view_is refl c.requires.place) c.index-observation.ensures c.push_reserved-else-active.ensures.items
