use Rattle.std.proofs.Common.{◌∙◌, ap}
use Rattle.page_model.specs.World.{IntersectionObserver}
use Rattle.page_model.specs.IntersectionObserving.{is_registered}
use Rattle.intersection_observer.proofs.Entries.{observed}
use Rattle.intersection_observer.proofs.watcher.Watcher.observes.Goals as goal

pub returns : goal.returns
returns c =
    c.contains_key.ensures
    ∙ observed c.args.target.0 (c.self.inside.registered.entries)
    ∙ ap (λ (it : IntersectionObserver). is_registered c.args.target.0 it.registrations) c.self.view_is
