use Rattle.std.proofs.lemmas.List.{length-map}
use Rattle.resize_observer.specs.Observations.{seen_size}
use Rattle.resize_observer.specs.Reports.{with_last}
use Rattle.resize_observer.specs.Observers.{reported_at}
use Rattle.resize_observer.proofs.Places.{once_changed}
use Rattle.resize_observer.proofs.Numbers.{reported-keeps}
use Rattle.resize_observer.proofs.Counts.{held-kept}
use Rattle.resize_observer.proofs.observers.Observers.report.Goals as goal

pub invariant_of-self : goal.invariant_of-self
invariant_of-self c =
    held-kept (reported_at c.args.number (seen_size c.args.last)) (reported-keeps c.args.number (seen_size c.args.last))
    (λ it. length-map (it.targets) (with_last c.args.number (seen_size c.args.last)))
    c.self.view_is c.requires.observer c.self.invariant c.index_mut.ensures.value c.report.ensures

pub returns-clause-reported : goal.returns-clause-reported
returns-clause-reported c = once_changed (reported_at c.args.number (seen_size c.args.last)) c.self.view_is c.requires.observer c.index_mut.ensures.value c.report.ensures
