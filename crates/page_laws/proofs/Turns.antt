-- The limits on what a tick goes over by place are kept by whole runs, and so its turns are never cut off.
use Rattle.std.proofs.Common.{◌≡◌, refl, arith, ◌≤◌}
use Rattle.std.specs.Prelude.{ℕ, Option, None, List, length, nat_lt, false, ⊤}
use Rattle.script_model.specs.Syntax.{Item, Command}
use Rattle.script_model.specs.Scripts.{handlers_in}
use Rattle.text_io.specs.declared.kinds.Version.{Version}
use Rattle.page_model.specs.World.{World}
use Rattle.page_model.specs.Documents.{is_active}
use Rattle.page_model.specs.Operands.{Present}
use Rattle.page_model.specs.Gathering.{due_at}
use Rattle.page_model.specs.Callbacks.{Script, Entries, handler_names, presents, run_command, call}
use Rattle.page_model.specs.Loop.{Broadcast, gather, broadcast, deliver_some, round}
use Rattle.page_model.specs.Ticks.{evaluate, media_steps, run_first, tick}
use Rattle.page_model.specs.Outcome.{opening_world, run_item, run_items}
use Rattle.page_laws.specs.Bounds.{IsWithinLimits, places_up_to}
use Rattle.page_laws.proofs.Waiting.{tasks-alike, few-tasks}
use Rattle.page_laws.proofs.Changes.{gather-next}
use Rattle.page_laws.proofs.Limits.{as-many, counted-within, does-within}
use Rattle.page_laws.proofs.Keeping.{IsCarried, carried-by, IsKept, evaluate-keeps, due-keeps, command-keeps, called-keeps, broadcast-keeps, round-keeps, first-keeps, tick-keeps}
use Rattle.page_laws.proofs.WholeRuns.{item-keeps, items-keep}
use Rattle.page_laws.proofs.Later.{all-so, kept-alone}
use Rattle.page_laws.proofs.Places.{same-places}

abbrev Within : ℕ → World → Type 0
Within k world = IsWithinLimits world

abbrev Any : ℕ → Present → Type 0
Any k present = ⊤

limits-carried : (script : Script) → IsCarried script IsWithinLimits (λ (present : Present). ⊤)
limits-carried script =
    carried-by script IsWithinLimits (λ (present : Present). ⊤) (λ world room here. counted-within world here room)
    (λ world present action is here. does-within world here (handler_names script) present action) tt

limits-kept : (script : Script) → IsKept script Within Any
limits-kept script =
    kept-alone script IsWithinLimits
    (λ before now next here. as-many before here now next.observers next.queries next.successor.begun next.successor.version next.tasks)
    (limits-carried script)

pub timed : (time : ℕ) (world : World) → IsWithinLimits world → nat_lt time world.clock ≡ false → IsWithinLimits (record world { clock = time })
timed time world here is = as-many world here _ refl refl refl refl (tasks-alike world _ refl refl refl)

pub opening-within : (version : Version) → IsWithinLimits (opening_world version)
opening-within version = record {
  resize_observers = omega arith;
  queries = omega arith;
  commands = omega arith;
  tasks = record { documents = omega arith; marks = omega arith; posted = omega arith; notifying = omega arith };
}

module _ (script : Script) (world : World) (within : IsWithinLimits world) where
  pub command-within : (entries : List Present) (command : Command) (present : Present) →
      IsWithinLimits (run_command script entries command present world).state
  command-within entries command present = command-keeps script _ _ (limits-carried script) entries (all-so entries) command present world tt within

  pub call-within : (document : ℕ) (handler : Option ℕ) (handed : Entries) → IsWithinLimits (call script document handler handed world).state
  call-within document handler handed = called-keeps script _ _ (limits-carried script) document handler handed world (all-so (presents handed)) within

  pub gather-within : (document depth : ℕ) → IsWithinLimits (gather document depth world)
  gather-within document depth = (limits-kept script).next 0 world _ (gather-next document depth world) within

  pub broadcast-within : (document : ℕ) → IsWithinLimits (broadcast script document world).state.world
  broadcast-within document = broadcast-keeps script Within Any (limits-kept script) 0 document world within

  pub round-within : (document : ℕ) → IsWithinLimits (round script document world).state
  round-within document = round-keeps script Within Any (limits-kept script) 0 document world within

  pub first-within : IsWithinLimits (run_first script (world.tasks) world).state
  first-within = first-keeps script Within Any (limits-kept script) 0 (world.tasks) world refl within

  pub tick-within : IsWithinLimits (tick script world).state
  tick-within = tick-keeps script Within Any (limits-kept script) 0 world within

  pub item-within : (item : Item) → IsWithinLimits (run_item script item world).state
  item-within item = item-keeps script Within Any (limits-kept script) 0 timed item world within

  -- loops by place
  pub queries-same : (document most : ℕ) → 4096 ≤ most →
      media_steps script document world ≡ places_up_to most (λ now. length (now.queries)) (λ now. is_active (now.tree) document)
      (evaluate script document) world
  unfolding media_steps
  queries-same document most fits =
      same-places IsWithinLimits (λ now. length (now.queries)) (λ now. is_active (now.tree) document) (evaluate script document) 4096
      (λ now here. here.queries)
      (λ query now here. evaluate-keeps script Within Any (limits-kept script) 0 document query now here)
      most world within fits (omega arith)

  pub observers-same : (document most : ℕ) → 4096 ≤ most →
      broadcast script document world ≡ places_up_to most (λ (so_far : Broadcast). length (so_far.world.resize_observers.made))
      (λ so_far. is_active (so_far.world.tree) document)
      (λ observer so_far. deliver_some script document observer so_far (due_at document observer (so_far.world.resize_observers)))
      (record { world = world; shallowest = None })
  unfolding broadcast
  observers-same document most fits =
      same-places (λ (so_far : Broadcast). IsWithinLimits so_far.world) (λ so_far. length (so_far.world.resize_observers.made))
      (λ so_far. is_active (so_far.world.tree) document)
      (λ observer so_far. deliver_some script document observer so_far (due_at document observer (so_far.world.resize_observers))) 4096
      (λ so_far here. here.resize_observers)
      (λ observer so_far here. due-keeps script Within Any (limits-kept script) 0 document observer so_far here)
      most (record { world = world; shallowest = None }) within fits (omega arith)

pub items-within : (items : List Item) (version : Version) → IsWithinLimits (run_items items (opening_world version)).state
items-within items version = items-keep items Within Any (limits-kept (handlers_in items)) 0 timed (opening_world version) (opening-within version)

pub tasks-few : (world : World) → IsWithinLimits world → length world.tasks ≤ 4160
tasks-few world within = few-tasks world (within.tasks)
