use Rattle.std.proofs.Common.{◌∙◌, ap, sym, arith, length}
use Rattle.std.specs.Prelude.{not}
use Rattle.std.proofs.lemmas.Option.{slice_get_within}
use Rattle.resize_observer.specs.Observers.{observers_of}
use Rattle.depth_gather.specs.Deliveries.{active_at}
use Rattle.depth_gather.proofs.Places.{place_bound}
use Rattle.depth_gather.proofs.Passing.{turn_here, turn_later, turn_none, filled}
use Rattle.depth_gather.proofs.turns.next_turn.Goals as goal

pub overflow_add-at : goal.overflow_add-at
overflow_add-at c = omega (arith, place_bound c.args.document.0 c.args.observers.now.part c.loop-observer.at (c.in-Some.observer.0) c.in-Some.ensures.value)

pub returns-then-not-is_empty-clause-value : goal.returns-then-not-is_empty-clause-value
returns-then-not-is_empty-clause-value c =
    turn_here c.args.document.0 c.args.observers.now.part c.loop-observer.at (c.in-Some.observer.0) c.in-Some.ensures.value
    (filled (active_at c.args.observers.now.part (c.in-Some.observer.0)) (length c.active.result.now) c.is_empty.result c.active.ensures.count c.is_empty.ensures ∙ ap not c.if-not-is_empty.true)
    ∙ c.loop-observer.invariant

pub loop-observer-smaller : goal.loop-observer-smaller
loop-observer-smaller c = omega (arith, slice_get_within (observers_of c.args.observers.now.part c.args.document.0) c.loop-observer.at (c.in-Some.observer.0) (sym c.in-Some.ensures.value))

pub loop-observer-preserved : goal.loop-observer-preserved
loop-observer-preserved c =
    turn_later c.args.document.0 c.args.observers.now.part c.loop-observer.at (c.in-Some.observer.0) c.in-Some.ensures.value
    (filled (active_at c.args.observers.now.part (c.in-Some.observer.0)) (length c.active.result.now) c.is_empty.result c.active.ensures.count c.is_empty.ensures ∙ ap not c.if-not-is_empty.false)
    ∙ c.loop-observer.invariant

pub returns-clause-value : goal.returns-clause-value
returns-clause-value c = sym (turn_none c.args.document.0 c.args.observers.now.part c.loop-observer.at c.in_default.ensures.value) ∙ c.loop-observer.invariant
