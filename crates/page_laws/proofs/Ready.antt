-- What commands and the changes of a tick leave in range and within limits.
use Rattle.std.proofs.Common.{◌≡◌, sym, subst}
use Rattle.std.specs.Prelude.{ℕ, ◌<◌, List, Option, length}
use Rattle.std.specs.List.{AllByRecursion}
use Rattle.text_io.specs.declared.kinds.LimitKind.TheVariants as limits
use Rattle.text_io.specs.declared.kinds.Version.{Version}
use Rattle.text_io.specs.Limits.{limit_number}
use Rattle.script_model.specs.Syntax.{Action, Command}
use Rattle.page_model.specs.World.{World}
use Rattle.page_model.specs.Steps.{Effect, Did}
use Rattle.page_model.specs.Operands.{Present}
use Rattle.page_model.specs.Commands.{begun_in, does}
use Rattle.page_model.specs.Callbacks.{Script, Entries, handler_names, presents, call, run_command}
use Rattle.page_model.specs.Ticks.{time_set}
use Rattle.page_model.specs.Outcome.{opening_world}
use Rattle.page_model.specs.Ranges.{IsInRange, IsPresentIn}
use Rattle.page_laws.specs.Successors.{OnDid}
use Rattle.page_laws.specs.Bounds.{IsWithinLimits}
use Rattle.page_laws.specs.Ready.{IsReadyFor}
use Rattle.page_laws.proofs.Steps.{of_did, on_did-map}
use Rattle.page_laws.proofs.Keeping.{counted}
use Rattle.page_laws.proofs.WholeRuns.{time-kept}
use Rattle.page_laws.proofs.Readings.{begun-next}
use Rattle.page_laws.proofs.Changes.{IsNext}
use Rattle.page_laws.proofs.InRange.{does-in}
use Rattle.page_laws.proofs.Limits.{as-many, counted-within, does-within}
use Rattle.page_laws.proofs.RunsInRange.{same-count, counted-in, timed-in, command-in, call-in, opening-in}
use Rattle.page_laws.proofs.Turns.{timed, command-within, call-within, opening-within}

-- the count of commands and the clock

begun-if : (P : World → Type 0) (world : World) → (world.begun < limit_number (world.version) limits.Commands → P (counted world)) → OnDid (begun_in world) P
begun-if P world there =
    on_did-map (begun_in world) (λ after. (after ≡ counted world) × (world.begun < limit_number (world.version) limits.Commands)) P
    (λ after is. subst P (sym is.0) (there is.1)) (begun-next world)

pub begun-in : (handlers : ℕ) (world : World) → IsInRange handlers world → OnDid (begun_in world) (IsInRange handlers)
begun-in handlers world within = begun-if (IsInRange handlers) world (λ room. counted-in handlers world within)

pub begun-within : (world : World) → IsWithinLimits world → OnDid (begun_in world) IsWithinLimits
begun-within world within = begun-if IsWithinLimits world (λ room. counted-within world within room)

pub time-in : (handlers time : ℕ) (world : World) → IsInRange handlers world → OnDid (time_set time world) (IsInRange handlers)
time-in handlers time world within = time-kept (IsInRange handlers) world time (λ late. timed-in handlers time world within)

pub time-within : (time : ℕ) (world : World) → IsWithinLimits world → OnDid (time_set time world) IsWithinLimits
time-within time world within = time-kept IsWithinLimits world time (λ late. timed time world within late)

-- all that a tick asks

pub ready-of : (handlers : ℕ) (world : World) → IsInRange handlers world → IsWithinLimits world → IsReadyFor handlers world
unfolding IsReadyFor
ready-of handlers world within kept = (within, kept)

pub range-of : (handlers : ℕ) (world : World) → IsReadyFor handlers world → IsInRange handlers world
unfolding IsReadyFor
range-of handlers world ready = ready.0

pub limits-of : (handlers : ℕ) (world : World) → IsReadyFor handlers world → IsWithinLimits world
unfolding IsReadyFor
limits-of handlers world ready = ready.1

pub ready-opening : (handlers : ℕ) (version : Version) → IsReadyFor handlers (opening_world version)
ready-opening handlers version = ready-of handlers (opening_world version) (opening-in handlers version) (opening-within version)

module _ (handlers : ℕ) (world : World) (ready : IsReadyFor handlers world) where
  pub ready-next : (after : World) → IsNext world after → IsReadyFor handlers after
  ready-next after next =
      ready-of handlers after (next.within handlers (range-of handlers world ready))
      (as-many world (limits-of handlers world ready) after next.observers next.queries next.successor.begun next.successor.version next.tasks)

  pub ready-begun : (after : World) → begun_in world ≡ Did after → IsReadyFor handlers after
  ready-begun after is =
      ready-of handlers after (of_did _ after _ is (begun-in handlers world (range-of handlers world ready)))
      (of_did _ after _ is (begun-within world (limits-of handlers world ready)))

  pub ready-timed : (time : ℕ) (after : World) → time_set time world ≡ Did after → IsReadyFor handlers after
  ready-timed time after is =
      ready-of handlers after (of_did _ after _ is (time-in handlers time world (range-of handlers world ready)))
      (of_did _ after _ is (time-within time world (limits-of handlers world ready)))

module _ (script : Script) (world : World) (ready : IsReadyFor (length script) world) where
  pub ready-done : (present : Present) (action : Action) → IsPresentIn world present →
      (effect : Effect) → does (handler_names script) world present action ≡ Did effect → IsReadyFor (length script) (effect.world)
  ready-done present action is effect done =
      ready-of (length script) (effect.world)
      (subst (λ (count : ℕ). IsInRange count (effect.world)) (same-count script)
      (of_did _ effect _ done (does-in (handler_names script) world
      (subst (λ (count : ℕ). IsInRange count world) (sym (same-count script)) (range-of (length script) world ready)) present action is)))
      (of_did _ effect _ done (does-within world (limits-of (length script) world ready) (handler_names script) present action))

  pub ready-command : (entries : List Present) (command : Command) (present : Present) → AllByRecursion (IsPresentIn world) entries →
      IsPresentIn world present → IsReadyFor (length script) (run_command script entries command present world).state
  ready-command entries command present are is =
      ready-of (length script) _ (command-in script world (range-of (length script) world ready) entries command present are is)
      (command-within script world (limits-of (length script) world ready) entries command present)

  pub ready-called : (document : ℕ) (handler : Option ℕ) (handed : Entries) → AllByRecursion (IsPresentIn world) (presents handed) →
      IsReadyFor (length script) (call script document handler handed world).state
  ready-called document handler handed are =
      ready-of (length script) _ (call-in script world (range-of (length script) world ready) document handler handed are)
      (call-within script world (limits-of (length script) world ready) document handler handed)
