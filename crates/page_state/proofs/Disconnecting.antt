-- Registrations of an observer that are taken out one after the other.
use Rattle.std.proofs.Common.{◌≡◌, ◌∙◌, ℕ, ◌<◌, List, [], true, length, ap, sym, Ok}
use Rattle.script_model.specs.Syntax.{DisconnectIntersection}
use Rattle.page_model.specs.World.{IntersectionObservers, World}
use Rattle.page_model.specs.IntersectionObserving.{is_registered, without_registration, without_registrations}
use Rattle.page_model.specs.Lookups.{intersection_observer_at}
use Rattle.page_model.specs.Commands.{does}
use Rattle.page_model.specs.Operands.{Handlers, Present, intersection_observer_named}
use Rattle.page_model.specs.Steps.{Did, ◌>>=◌, becomes}
use Rattle.intersection_observer.specs.Watchers.{HeldWatchers}
use Rattle.intersection_observer.proofs.Changing.{cleared_after, cleared_none, once_shorter}
use Rattle.kept_findings.specs.Held.{HeldFindings}
use Rattle.page_state.specs.Answers.{Keeps}
use Rattle.page_state.specs.Views.{PageView}
use Rattle.page_state.specs.declared.answers.Effect.TheVariants.{Nothing}

abbrev held : IntersectionObservers → HeldWatchers
held it = record { part = it; most_watchers = 0; most_registrations = 0 }

-- a page without an observer's registrations, whatever is kept of them
abbrev pub cleared : ℕ → HeldFindings → PageView → PageView
cleared w found v = record v { world = record (v.world) { intersection_observers = without_registrations w (v.world.intersection_observers) }; found = found }

module _ (w n : ℕ) (was now : PageView)
    (is : now ≡ record was { world = record (was.world) { intersection_observers = without_registration w n (was.world.intersection_observers) }; found = now.found }) where
  observers_are : now.world.intersection_observers ≡ without_registration w n (was.world.intersection_observers)
  observers_are = ap (λ (v : PageView). v.world.intersection_observers) is

  pub fewer_left : w < length was.world.intersection_observers.made → is_registered n (intersection_observer_at was.world.intersection_observers w).registrations ≡ true
      → length (intersection_observer_at now.world.intersection_observers w).registrations < length (intersection_observer_at was.world.intersection_observers w).registrations
  fewer_left there some = once_shorter n w (held was.world.intersection_observers) (held now.world.intersection_observers) (ap held observers_are) there some

  pub same_cleared : (found : HeldFindings) → cleared w found now ≡ cleared w found was
  same_cleared found =
      ap (cleared w found) is
      ∙ ap (λ (it : IntersectionObservers). record was { world = record (was.world) { intersection_observers = it }; found = found }) (cleared_after w n (was.world.intersection_observers))

disconnects : (handlers : Handlers) (world : World) (present : Present) (name : List ℕ) (o : ℕ) → intersection_observer_named world.names name ≡ Did o
    → does handlers world present (DisconnectIntersection name) ≡ becomes (record world { intersection_observers = without_registrations o (world.intersection_observers) })
unfolding does
disconnects handlers world present name o found = λ i. found i >>= λ (m : ℕ). becomes (record world { intersection_observers = without_registrations m (world.intersection_observers) })

-- once none is left
module _ (old new : PageView) (w : ℕ) (name : List ℕ) (named : intersection_observer_named old.world.names name ≡ Did w) (rest : cleared w old.found new ≡ cleared w old.found old)
    (none : (intersection_observer_at new.world.intersection_observers w).registrations ≡ []) where
  world_is : new.world ≡ record (old.world) { intersection_observers = without_registrations w (old.world.intersection_observers) }
  world_is =
      ap (λ (it : HeldWatchers). record (new.world) { intersection_observers = it.part }) (cleared_none w (held new.world.intersection_observers) none)
      ∙ ap (λ (v : PageView). v.world) rest

  pub disconnected : (present : Present) → Keeps old new (Ok Nothing) (λ handlers. does handlers old.world present (DisconnectIntersection name))
  disconnected present = record {
    applied = λ handlers. disconnects handlers old.world present name w named ∙ ap becomes (sym world_is);
    begun = ap (λ (v : PageView). v.begun) rest;
    handed = tt;
  }
