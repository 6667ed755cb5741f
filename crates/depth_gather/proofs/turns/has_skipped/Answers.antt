use Rattle.std.proofs.Common.{◌+◌, ◌∙◌, ap, sym, arith, List, length, drop}
use Rattle.std.specs.Prelude.{Bool, not, ◌||◌}
use Rattle.std.specs.List.{list_any}
use Rattle.page_model.specs.World.{ResizeObserver}
use Rattle.page_model.specs.Gathering.{is_filled}
use Rattle.resize_observer.specs.Observers.{observer_at}
use Rattle.page_model.specs.Gathering.{is_of}
use Rattle.depth_gather.proofs.Places.{its_next, its_of, its_end, its_within, place_bound, any_of}
use Rattle.depth_gather.proofs.Passing.{filled}
use Rattle.depth_gather.proofs.turns.has_skipped.Goals as goal

abbrev some_skipped : List ResizeObserver → Bool
some_skipped observers = list_any (λ (it : ResizeObserver). is_filled it.skipped) observers

pub loop-observer-init : goal.loop-observer-init
loop-observer-init c = any_of (is_of c.args.document.0) (λ (it : ResizeObserver). is_filled it.skipped) c.args.observers.now.part.made

pub returns-then-not-is_empty : goal.returns-then-not-is_empty
returns-then-not-is_empty c =
    sym
    (ap (λ is. is || some_skipped (drop (c.loop-observer.place + 1) (its_of c.args.document.0 c.args.observers.now.part)))
    (filled (observer_at c.args.observers.now (c.in-Some.observer.0)).skipped (length c.skipped.result.now) c.is_empty.result c.skipped.ensures.count c.is_empty.ensures ∙ ap not c.if-not-is_empty.true))
    ∙ sym (ap some_skipped (its_next c.args.document.0 c.args.observers.now.part c.loop-observer.place (c.in-Some.observer.0) c.in-Some.ensures.value))
    ∙ c.loop-observer.invariant

pub overflow_add-place : goal.overflow_add-place
overflow_add-place c = omega (arith, place_bound c.args.document.0 c.args.observers.now.part c.loop-observer.place (c.in-Some.observer.0) c.in-Some.ensures.value)

pub loop-observer-smaller : goal.loop-observer-smaller
loop-observer-smaller c = omega (arith, its_within c.args.document.0 c.args.observers.now.part c.loop-observer.place (c.in-Some.observer.0) c.in-Some.ensures.value)

pub loop-observer-preserved : goal.loop-observer-preserved
loop-observer-preserved c =
    sym
    (ap (λ is. is || some_skipped (drop (c.loop-observer.place + 1) (its_of c.args.document.0 c.args.observers.now.part)))
    (filled (observer_at c.args.observers.now (c.in-Some.observer.0)).skipped (length c.skipped.result.now) c.is_empty.result c.skipped.ensures.count c.is_empty.ensures ∙ ap not c.if-not-is_empty.false))
    ∙ sym (ap some_skipped (its_next c.args.document.0 c.args.observers.now.part c.loop-observer.place (c.in-Some.observer.0) c.in-Some.ensures.value))
    ∙ c.loop-observer.invariant

pub returns : goal.returns
returns c =
    sym (ap some_skipped (its_end c.args.document.0 c.args.observers.now.part c.loop-observer.place c.in_default.ensures.value))
    ∙ c.loop-observer.invariant
