use Rattle.std.proofs.Common.{◌<◌, ◌≤◌, ◌-◌, arith, length, refl, subst, sym}
use Rattle.recorded_source.specs.Recorded.{IsFed, TakenBytes}
use Rattle.recorded_source.specs.contracts.recorded.Taken.{the_view}
use Rattle.recorded_source.proofs.Feeding.{fed_on}
use Rattle.recorded_source.proofs.recorded.Taken.take.Goals as goal

pub returns-clause-within : goal.returns-clause-within
returns-clause-within c =
    let room = subst (λ (it : TakenBytes). length c.args.piece.now ≤ 67108865 - it.bytes) (sym c.self.view_is) c.requires.room in
    omega (arith, room, c.self.invariant.0)

pub returns-clause-fed : goal.returns-clause-fed
returns-clause-fed c =
    λ bytes here. fed_on bytes c.args.piece.now (the_view c.self.inside) _ c.min-within.result c.line_feeds-feeds.result
    (subst (λ (it : TakenBytes). it.bytes < 67108865) (sym c.self.view_is) c.requires.more) c.min-within.ensures c.line_feeds-feeds.ensures.number refl refl
    (c.in_ok-feed.ensures.divides bytes) (subst (λ (it : TakenBytes). IsFed bytes it) (sym c.self.view_is) here)
