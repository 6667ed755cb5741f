use Rattle.std.proofs.Common.{◌∙◌, ap, subst, map}
use Rattle.page_model.specs.World.{IntersectionObserver}
use Rattle.intersection_observer.specs.Watchers.{HeldWatchers}
use Rattle.intersection_observer.specs.Serials.{HasSerials}
use Rattle.intersection_observer.proofs.Entries.{serial}
use Rattle.intersection_observer.proofs.Changing.{read}
use Rattle.intersection_observer.proofs.Listed.{listed_stand}
use Rattle.intersection_observer.proofs.watchers.Watchers.registrations.Goals as goal

pub returns-clause-standing : goal.returns-clause-standing
returns-clause-standing c =
    listed_stand c.args.self.now.part c.args.watcher.0 c.names.result.now (subst (λ (it : HeldWatchers). HasSerials it.part) c.self.view_is c.self.invariant.serials)
    (c.names.ensures.value ∙ ap (λ (it : IntersectionObserver). map serial it.registrations) (read c.self.view_is c.requires c.index.ensures))
