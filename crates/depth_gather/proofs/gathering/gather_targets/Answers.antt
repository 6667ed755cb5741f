use Rattle.std.proofs.Common.{◌≡◌, ◌+◌, ◌∙◌, ap, sym, arith, length}
use Rattle.page_model.specs.World.{ResizeObserver}
use Rattle.resize_observer.specs.Observers.{observer_at, changing, ungathered}
use Rattle.page_model.specs.Gathering.{gathered}
use Rattle.depth_gather.specs.Gathering.{gathered_first}
use Rattle.depth_gather.proofs.Gatherings.{changing_twice, changing_same, at_changing, all_gathered}
use Rattle.depth_gather.proofs.gathering.gather_targets.Goals as goal

pub loop-place-init : goal.loop-place-init
loop-place-init g c = record {
  so_far = c.begin_gather.ensures.begun;
  count = c.begin_gather.ensures.count;
  end = c.targets-place-end.ensures.count ∙ ap (λ (it : ResizeObserver). length it.targets) (at_changing ungathered (c.args.observer.0) c.args.observers.now c.begin_gather.new.self c.begin_gather.ensures.begun c.requires);
}

pub gather_target-requires-clause-place : goal.gather_target-requires-clause-place
gather_target-requires-clause-place g c =
    let first = observer_at c.args.observers.now (c.args.observer.0) in
    let change = gathered_first (g.Z.Sizes.sight c.args.sizes.now) c.args.depth c.loop-place.place in
    let is = at_changing change (c.args.observer.0) c.args.observers.now c.loop-place.observers c.loop-place.invariant.so_far c.requires in
    let same : length (observer_at c.loop-place.observers (c.args.observer.0)).targets ≡ length first.targets = ap (λ (it : ResizeObserver). length it.targets) is in
    omega (arith, same, c.loop-place.invariant.end, c.loop-place-test.true)

pub gather_target-requires-clause-before : goal.gather_target-requires-clause-before
gather_target-requires-clause-before g c =
    let change = gathered_first (g.Z.Sizes.sight c.args.sizes.now) c.args.depth c.loop-place.place in
    let is = at_changing change (c.args.observer.0) c.args.observers.now c.loop-place.observers c.loop-place.invariant.so_far c.requires in
    is ∙ ap change (sym is)

pub loop-place-preserved : goal.loop-place-preserved
loop-place-preserved g c = record {
  so_far =
      let sight = g.Z.Sizes.sight c.args.sizes.now in
      let before = gathered_first sight c.args.depth c.loop-place.place in
      let after = gathered_first sight c.args.depth (c.loop-place.place + 1) in
      c.gather_target.ensures.gathered
      ∙ ap (changing after (c.args.observer.0)) c.loop-place.invariant.so_far
      ∙ changing_twice after before (c.args.observer.0) c.args.observers.now;
  count = c.gather_target.ensures.count ∙ c.loop-place.invariant.count;
  end = c.loop-place.invariant.end;
}

pub returns-clause-gathered : goal.returns-clause-gathered
returns-clause-gathered g c =
    let sight = g.Z.Sizes.sight c.args.sizes.now in
    let first = observer_at c.args.observers.now (c.args.observer.0) in
    c.loop-place.invariant.so_far
    ∙ changing_same (gathered_first sight c.args.depth c.loop-place.place) (gathered sight c.args.depth) (c.args.observer.0) c.args.observers.now
    (all_gathered sight c.args.depth c.loop-place.place first (omega (arith, c.loop-place.invariant.end, c.loop-place-test.false)))
