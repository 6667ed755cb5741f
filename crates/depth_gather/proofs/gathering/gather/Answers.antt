use Rattle.std.proofs.Common.{◌≤◌, subst, sym}
use Rattle.page_model.specs.ResizeObserving.{resize_observations}
use Rattle.resize_observer.specs.Observers.{HeldObservers}
use Rattle.depth_gather.specs.Gathering.{active_count}
use Rattle.depth_gather.proofs.Gatherings.{active_within}
use Rattle.depth_gather.proofs.gathering.gather.Goals as goal

pub active_number-requires : goal.active_number-requires
active_number-requires g c =
    subst (λ (it : HeldObservers). active_count c.args.document.0 it.part ≤ resize_observations it.part) (sym c.gather_all.ensures.gathered)
    (active_within (g.Z.Sizes.sight c.args.sizes.now) c.args.document.0 c.args.depth c.args.observers.now.part)
