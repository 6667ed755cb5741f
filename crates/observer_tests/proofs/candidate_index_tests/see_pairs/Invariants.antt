use Rattle.std.proofs.Common.{ℕ, ◌<◌, get_or}
use Rattle.intersection_observer.specs.declared.registration.RegistrationId.{RegistrationId}
use Rattle.candidate_index.specs.Registrations.{IsReady}
use Rattle.observer_tests.specs.Sample.{sample, sample_standing}
use Rattle.observer_tests.proofs.candidate_index_tests.see_pairs.Given as goal

-- those looked at so far have their pairs
abbrev pub invariant-loop-registration : goal.invariant-loop-registration
invariant-loop-registration g l =
    (k : ℕ) (default : RegistrationId) → k < l.registration-index →
    IsReady (sample l.page.clips l.page.boxes l.page.view) (λ root. sample_standing l.page.standings) l.watchers.part l.clips (get_or l.registrations k default).0
