use Rattle.intersection_observer.proofs.Standing.{stands-there}
use Rattle.intersection_observer.proofs.watchers.Watchers.watcher_of.Goals as goal

pub returns-clause-made : goal.returns-clause-made
returns-clause-made c = stands-there c.args.registration.0 c.args.self.now.part.made _ c.place_of.ensures.value
