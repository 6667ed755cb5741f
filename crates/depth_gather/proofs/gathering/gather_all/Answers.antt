use Rattle.std.proofs.Common.{◌≡◌, ◌∙◌, ap, refl, sym, arith, length, List, ℕ}
use Rattle.std.proofs.lemmas.Option.{slice_get_within}
use Rattle.resize_observer.specs.Observers.{observers_of}
use Rattle.depth_gather.proofs.Places.{place_bound}
use Rattle.depth_gather.proofs.Gatherings.{left_first, left_next, left_none, places_same}
use Rattle.depth_gather.proofs.gathering.gather_all.Goals as goal

pub loop-observer-init : goal.loop-observer-init
loop-observer-init g c = record { left = left_first (g.Z.Sizes.sight c.args.sizes.now) c.args.document.0 c.args.depth c.args.observers.now; count = refl }

pub overflow_add-place : goal.overflow_add-place
overflow_add-place g c = omega (arith, place_bound c.args.document.0 c.loop-observer.observers.part c.loop-observer.place (c.in-Some.observer.0) c.in-Some.ensures.value)

pub loop-observer-smaller : goal.loop-observer-smaller
loop-observer-smaller g c =
    let within = slice_get_within (observers_of c.loop-observer.observers.part c.args.document.0) c.loop-observer.place (c.in-Some.observer.0) (sym c.in-Some.ensures.value) in
    let same : length (observers_of c.gather_targets.new.observers.part c.args.document.0) ≡ length (observers_of c.loop-observer.observers.part c.args.document.0) =
    ap (λ (places : List ℕ). length places) (places_same (g.Z.Sizes.sight c.args.sizes.now) c.args.document.0 c.args.depth (c.in-Some.observer.0) c.loop-observer.observers c.gather_targets.new.observers c.gather_targets.ensures.gathered) in
    omega (arith, within, same)

pub loop-observer-preserved : goal.loop-observer-preserved
loop-observer-preserved g c = record {
  left =
      left_next (g.Z.Sizes.sight c.args.sizes.now) c.args.document.0 c.args.depth c.loop-observer.place (c.in-Some.observer.0) c.loop-observer.observers c.gather_targets.new.observers c.in-Some.ensures.value c.gather_targets.ensures.gathered
      ∙ c.loop-observer.invariant.left;
  count = c.gather_targets.ensures.count ∙ c.loop-observer.invariant.count;
}

pub returns-clause-gathered : goal.returns-clause-gathered
returns-clause-gathered g c =
    sym (left_none (g.Z.Sizes.sight c.args.sizes.now) c.args.document.0 c.args.depth c.loop-observer.place c.loop-observer.observers c.in_default.ensures.value) ∙ c.loop-observer.invariant.left
