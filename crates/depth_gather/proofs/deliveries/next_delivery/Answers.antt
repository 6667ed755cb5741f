use Rattle.std.proofs.Common.{ap, arith, length, subst, sym, List}
use Rattle.std.specs.List.{AllByRecursion}
use Rattle.std.proofs.lemmas.List.{length-map}
use Rattle.page_model.specs.World.{Observation}
use Rattle.resize_observer.specs.Observations.{seen_observation, seen_observations}
use Rattle.page_model.specs.Gathering.{size_entry}
use Rattle.depth_gather.specs.Entries.{as_entry, HasLengths}
use Rattle.depth_gather.specs.declared.entries.ResizeEntry.{ResizeEntry}
use Rattle.depth_gather.proofs.deliveries.next_delivery.Goals as goal

pub returns-clause-some : goal.returns-clause-some
returns-clause-some g c =
    let entries = ap (λ (these : List ResizeEntry). length these) c.new.ensures in
    let made = ap (λ (these : List ResizeEntry). length these) c.in_ok-entries.ensures.value in
    let each = length-map (seen_observations c.active.result.now) (λ (it : Observation). as_entry (size_entry (g.Z.Sizes.sight c.args.sizes.now) it)) in
    let seen = length-map c.active.result.now seen_observation in
    omega (arith, entries, made, each, seen, c.active.ensures.count, c.in-Some.ensures.some)

pub returns-clause-lengths : goal.returns-clause-lengths
returns-clause-lengths g c = subst (λ (these : List ResizeEntry). AllByRecursion HasLengths these) (sym c.new.ensures) c.in_ok-entries.ensures.lengths
