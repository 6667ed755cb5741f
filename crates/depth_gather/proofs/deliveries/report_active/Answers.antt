use Rattle.std.proofs.Common.{◌∙◌, ap, refl, arith, length, List}
use Rattle.page_model.specs.World.{Observation}
use Rattle.depth_gather.proofs.Reported.{reporting_none, reporting_more, active_kept}
use Rattle.depth_gather.proofs.deliveries.report_active.Goals as goal

pub loop-place-init : goal.loop-place-init
loop-place-init g c = record {
  so_far = reporting_none (g.Z.Sizes.sight c.args.sizes.now) (c.args.observer.0) c.args.observers.now;
  count = refl;
  end = c.active-place-end.ensures.count;
  serials = c.active-place-end.ensures.serials;
}

pub bounds-active-place : goal.bounds-active-place
bounds-active-place g c =
    let same =
    ap (λ (active : List Observation). length active)
    (active_kept (g.Z.Sizes.sight c.args.sizes.now) c.loop-place.place (c.args.observer.0) c.args.observers.now c.loop-place.observers c.loop-place.invariant.so_far c.requires) in
    omega (arith, same, c.active.ensures.count, c.loop-place.invariant.end, c.loop-place-test.true)

pub loop-place-preserved : goal.loop-place-preserved
loop-place-preserved g c = record {
  so_far =
      let sight = g.Z.Sizes.sight c.args.sizes.now in
      let same = ap (λ (active : List Observation). length active) (active_kept sight c.loop-place.place (c.args.observer.0) c.args.observers.now c.loop-place.observers c.loop-place.invariant.so_far c.requires) in
      reporting_more sight c.loop-place.place (c.args.observer.0) c.args.observers.now c.loop-place.observers c.report.new.self c.active.result.now _ c.size_now-size.result
      c.loop-place.invariant.so_far c.requires c.loop-place.invariant.serials c.active.ensures.value
      (omega (arith, same, c.active.ensures.count, c.loop-place.invariant.end, c.loop-place-test.true)) c.size_now-size.ensures.value c.report.ensures.reported;
  count = c.report.ensures.count ∙ c.loop-place.invariant.count;
  end = c.loop-place.invariant.end;
  serials = c.loop-place.invariant.serials;
}
