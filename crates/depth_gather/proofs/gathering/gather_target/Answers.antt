use Rattle.std.proofs.Common.{◌∙◌, ap, sym, arith}
use Rattle.std.specs.Prelude.{nat_lt}
use Rattle.resize_observer.specs.Observers.{observer_at}
use Rattle.depth_gather.proofs.Gatherings.{gathered_changed, gathered_same, room_left}
use Rattle.depth_gather.proofs.gathering.gather_target.Goals as goal

pub gathered-requires-clause-room : goal.gathered-requires-clause-room
gathered-requires-clause-room g c =
    room_left (g.Z.Sizes.sight c.args.sizes.now) c.args.depth c.args.place (observer_at c.args.observers.now (c.args.observer.0)) (nat_lt c.args.depth c.depth_now.result) c.requires.before c.requires.place

pub returns-then-has_changed-clause-gathered : goal.returns-then-has_changed-clause-gathered
returns-then-has_changed-clause-gathered g c =
    gathered_changed (g.Z.Sizes.sight c.args.sizes.now) c.args.depth c.args.place (c.args.observer.0) c.args.observers.now c.gathered.new.self c.targets.result.now _ (nat_lt c.args.depth c.depth_now.result)
    c.requires.before c.targets.ensures.value (omega (arith, c.targets.ensures.count, c.requires.place))
    (sym c.has_changed.ensures ∙ c.if-has_changed.true) (ap (nat_lt c.args.depth) c.depth_now.ensures) c.gathered.ensures.gathered

pub returns-else-has_changed-clause-gathered : goal.returns-else-has_changed-clause-gathered
returns-else-has_changed-clause-gathered g c =
    gathered_same (g.Z.Sizes.sight c.args.sizes.now) c.args.depth c.args.place (c.args.observer.0) c.args.observers.now c.targets.result.now _
    c.requires.before c.targets.ensures.value (omega (arith, c.targets.ensures.count, c.requires.place))
    (sym c.has_changed.ensures ∙ c.if-has_changed.false)
