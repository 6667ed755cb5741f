use Rattle.std.proofs.Common.{◌≡◌, find, length}
use Rattle.std.specs.Prelude.{Bool}
use Rattle.page_model.specs.World.{Listener}
use Rattle.page_model.specs.Listeners.{listener_stands}
use Rattle.event_tables.specs.Handed.{behind_first}
use Rattle.event_tables.proofs.listeners.Listeners.next.Given as goal

abbrev pub invariant-loop-listener : goal.invariant-loop-listener
invariant-loop-listener l =
    let stands : Listener → Bool = λ it. listener_stands it l.self.part in
    (find stands l.dispatch ≡ find stands l.fn.dispatch) × (behind_first stands l.dispatch ≡ behind_first stands l.fn.dispatch)

abbrev pub decreases-loop-listener : goal.decreases-loop-listener
decreases-loop-listener l = length l.dispatch
