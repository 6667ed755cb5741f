use Rattle.std.proofs.Common.{ap, arith}
use Rattle.depth_gather.specs.Gathering.{active_count}
use Rattle.depth_gather.proofs.Places.{active_in, its_end, its_within, place_bound, counted_next}
use Rattle.depth_gather.proofs.gathering.active_number.Goals as goal

pub overflow_cast-number : goal.overflow_cast-number
overflow_cast-number c =
    let sum =
    counted_next c.args.document.0 c.args.observers.now.part c.loop-observer.place (c.in-Some.observer.0) c.loop-observer.number (active_count c.args.document.0 c.args.observers.now.part)
    c.in-Some.ensures.value c.loop-observer.invariant in
    omega (arith, sum, c.requires, c.active.ensures.count, c.in-Some.ensures.limits.held, c.in-Some.ensures.limits.most)

pub overflow_add-number : goal.overflow_add-number
overflow_add-number c =
    let sum =
    counted_next c.args.document.0 c.args.observers.now.part c.loop-observer.place (c.in-Some.observer.0) c.loop-observer.number (active_count c.args.document.0 c.args.observers.now.part)
    c.in-Some.ensures.value c.loop-observer.invariant in
    omega (arith, sum, c.requires, c.active.ensures.count, c.in-Some.ensures.limits.held, c.in-Some.ensures.limits.most)

pub overflow_add-place : goal.overflow_add-place
overflow_add-place c = omega (arith, place_bound c.args.document.0 c.args.observers.now.part c.loop-observer.place (c.in-Some.observer.0) c.in-Some.ensures.value)

pub loop-observer-smaller : goal.loop-observer-smaller
loop-observer-smaller c = omega (arith, its_within c.args.document.0 c.args.observers.now.part c.loop-observer.place (c.in-Some.observer.0) c.in-Some.ensures.value)

pub loop-observer-preserved : goal.loop-observer-preserved
loop-observer-preserved c =
    let sum =
    counted_next c.args.document.0 c.args.observers.now.part c.loop-observer.place (c.in-Some.observer.0) c.loop-observer.number (active_count c.args.document.0 c.args.observers.now.part)
    c.in-Some.ensures.value c.loop-observer.invariant in
    omega (arith, sum, c.active.ensures.count)

pub returns : goal.returns
returns c =
    let none = ap active_in (its_end c.args.document.0 c.args.observers.now.part c.loop-observer.place c.in_default.ensures.value) in
    omega (arith, none, c.loop-observer.invariant)
