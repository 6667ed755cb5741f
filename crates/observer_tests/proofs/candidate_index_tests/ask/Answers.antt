-- No scroll margins moved a clip of the page.
use Rattle.std.proofs.Common.{refl}
use Rattle.observer_tests.proofs.candidate_index_tests.ask.Goals as goal

pub stale_registrations-requires-clause-unmoved : goal.stale_registrations-requires-clause-unmoved
stale_registrations-requires-clause-unmoved g c = λ k d below. refl
