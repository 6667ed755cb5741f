use Rattle.std.proofs.Common.{List, subst, sym}
use Rattle.std.specs.List.{AllByRecursion}
use Rattle.depth_gather.specs.Entries.{HasLengths}
use Rattle.depth_gather.specs.declared.entries.ResizeEntry.{ResizeEntry}
use Rattle.depth_gather.proofs.Reported.{entries_more, lengths_more}
use Rattle.depth_gather.proofs.deliveries.entries_of.Goals as goal

pub loop-observation-preserved : goal.loop-observation-preserved
loop-observation-preserved g c = (
  entries_more (g.Z.Sizes.sight c.args.sizes.now) c.args.active.now c.loop-observation.observation-index _ c.loop-observation.entries.items c.push.new.self.items c.entry_of.result c.loop-observation-test.true
      c.in_ok-push.ensures.items c.entry_of.ensures.value c.loop-observation.invariant.0,
  subst (λ (these : List ResizeEntry). AllByRecursion HasLengths these) (sym c.in_ok-push.ensures.items)
      (lengths_more c.loop-observation.entries.items c.entry_of.result c.loop-observation.invariant.1 c.entry_of.ensures.lengths),
)
