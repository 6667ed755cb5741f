-- Over a whole run each number in a world stays that of something.
use Rattle.std.proofs.Common.{◌≡◌, refl, ap, sym, subst, arith, ◌≤◌}
use Rattle.std.specs.Prelude.{ℕ, zero, suc, ◌<◌, Bool, true, false, cond, nat_lt, List, [], ◌∷◌, length, Option, slice_get, unwrap_or, ⊤}
use Rattle.std.specs.List.{AllByRecursion}
use Rattle.script_model.specs.Syntax.{Action, Command, Item}
use Rattle.script_model.specs.Scripts.{handlers_in}
use Rattle.text_io.specs.declared.kinds.Version.{Version}
use Rattle.page_model.specs.World.{Observation, ResizeObserver, Entry, IntersectionObserver, World}
use Rattle.page_model.specs.Lookups.{no_resize_observer, no_intersection_observer, resize_observer_at}
use Rattle.page_model.specs.Operands.{Present, NoEntry, ResizeEntry, IntersectionEntry}
use Rattle.page_model.specs.Steps.{Step, Effect}
use Rattle.page_model.specs.Commands.{does}
use Rattle.page_model.specs.Gathering.{is_of}
use Rattle.page_model.specs.Callbacks.{Script, Entries, handler_names, presents, run_command, call}
use Rattle.page_model.specs.Ticks.{run_first, tick}
use Rattle.page_model.specs.Outcome.{opening_world, run_item, run_items}
use Rattle.page_model.specs.Ranges.{Counts, AreObserved, IsResizeObserverIn, IsIntersectionObserverIn, IsInRange, IsPresentIn}
use Rattle.page_laws.proofs.Lists.{all-map}
use Rattle.page_laws.specs.Successors.{OnDid}
use Rattle.page_laws.proofs.Steps.{on_did-all, on_did-with}
use Rattle.page_laws.proofs.InRange.{does-in}
use Rattle.page_laws.proofs.Commands.{does-next}
use Rattle.page_laws.proofs.Changes.{IsNext}
use Rattle.page_laws.proofs.Keeping.{counted, carried-by, IsKept, command-keeps, called-keeps, first-keeps, tick-keeps}
use Rattle.page_laws.proofs.WholeRuns.{item-keeps, items-keep}

-- what is kept in worlds in range, by commands and by changes of a tick
pub record IsKeptInRange (script : Script) (Q : World → Type 0) : Type 0 where
  pub next : (before now : World) → IsNext before now → Q before → Q now
  pub begun : (world : World) → Q world → Q (counted world)
  pub timed : (time : ℕ) (world : World) → Q world → Q (record world { clock = time })
  pub does : (world : World) (present : Present) (action : Action) → IsInRange (length (handler_names script)) world → IsPresentIn world present → Q world →
      OnDid (does (handler_names script) world present action) (λ effect. Q (effect.world))

-- a world in range, of which `Q` holds, with so many elements at least
pub record IsRunning (handlers : ℕ) (Q : World → Type 0) (k : ℕ) (world : World) : Type 0 where
  pub within : IsInRange handlers world
  pub most : k ≤ length world.tree.elements
  pub beside : Q world

-- the target of an entry, where there are so many elements
abbrev pub IsEntryIn : ℕ → Present → Type 0
IsEntryIn k NoEntry = ⊤
IsEntryIn k (ResizeEntry target) = target < k
IsEntryIn k (IntersectionEntry target meets) = target < k

pub present-in : (k : ℕ) (world : World) (present : Present) → k ≤ length world.tree.elements → IsEntryIn k present → IsPresentIn world present
present-in k world NoEntry most is = tt
present-in k world (ResizeEntry target) most is = omega (arith, most, is)
present-in k world (IntersectionEntry target meets) most is = omega (arith, most, is)

pub entry-in : (world : World) (present : Present) → IsPresentIn world present → IsEntryIn (length world.tree.elements) present
entry-in world NoEntry is = tt
entry-in world (ResizeEntry target) is = is
entry-in world (IntersectionEntry target meets) is = is

-- the lists that callbacks are handed entries of

pub observed-in : (counts : Counts) (made : List ResizeObserver) (observer : ℕ) → AllByRecursion (IsResizeObserverIn counts) made →
    AreObserved counts (unwrap_or (slice_get made observer) no_resize_observer).active
observed-in counts [] observer all = tt
observed-in counts (x ∷ xs) zero all = all.0.active
observed-in counts (x ∷ xs) (suc observer) all = observed-in counts xs observer (all.1)

pub queue-in : (counts : Counts) (made : List IntersectionObserver) (observer : ℕ) → AllByRecursion (IsIntersectionObserverIn counts) made →
    AllByRecursion (λ (each : Entry). each.target < counts.elements) (unwrap_or (slice_get made observer) no_intersection_observer).queue
queue-in counts [] observer all = tt
queue-in counts (x ∷ xs) zero all = all.0.queue
queue-in counts (x ∷ xs) (suc observer) all = queue-in counts xs observer (all.1)

pub if-own : (P : Observation → Type 0) (own : Bool) (active : List Observation) → AllByRecursion P active → AllByRecursion P (cond own active [])
if-own P true active all = all
if-own P false active all = tt

pub same-count : (script : Script) → length (handler_names script) ≡ length script
same-count [] = refl
same-count (x ∷ xs) = ap suc (same-count xs)

pub counted-in : (handlers : ℕ) (world : World) → IsInRange handlers world → IsInRange handlers (counted world)
counted-in handlers world within = search

pub timed-in : (handlers time : ℕ) (world : World) → IsInRange handlers world → IsInRange handlers (record world { clock = time })
timed-in handlers time world within = search

module _ (script : Script) (Q : World → Type 0) (kept : IsKeptInRange script Q) where
  abbrev handlers : ℕ
  handlers = length (handler_names script)

  abbrev Running : ℕ → World → Type 0
  Running k world = IsRunning handlers Q k world

  does-runs : (k : ℕ) (world : World) (present : Present) (action : Action) → IsEntryIn k present → Running k world →
      OnDid (does (handler_names script) world present action) (λ effect. Running k (effect.world))
  does-runs k world present action is running =
      let step : Step Effect = does (handler_names script) world present action in
      let here : IsPresentIn world present = present-in k world present (running.most) is in
      on_did-with step _ _ _ (λ effect next both. record { within = both.0; most = omega (arith, next.elements, running.most); beside = both.1 })
      (does-next (handler_names script) world present action)
      (on_did-with step _ _ (λ effect. IsInRange handlers (effect.world) × Q (effect.world)) (λ effect within beside. (within, beside))
      (does-in (handler_names script) world (running.within) present action here) (kept.does world present action (running.within) here (running.beside)))

  running-kept : IsKept script Running IsEntryIn
  running-kept = record {
    next = λ k before now next running. record {
      within = next.within handlers (running.within);
      most = omega (arith, next.successor.elements, running.most);
      beside = kept.next before now next (running.beside);
    };
    carried = λ k. carried-by script _ _
        (λ world room running. record { within = counted-in handlers world (running.within); most = running.most; beside = kept.begun world (running.beside) })
        (does-runs k) tt;
    entered = λ k world running. record { within = running.within; most = omega arith; beside = running.beside };
    left = λ k before now running after. record { within = after.within; most = omega (arith, running.most, after.most); beside = after.beside };
    due = λ k world document observer running.
        if-own (λ (each : Observation). each.target < length world.tree.elements) (is_of document (resize_observer_at (world.resize_observers) observer)) _
        (observed-in _ (world.resize_observers.made) observer running.within.resize_observers);
    queued = λ k world observer running. queue-in _ (world.intersection_observers.made) observer running.within.intersection_observers;
  }

  running-timed : (k time : ℕ) (world : World) → Running k world → nat_lt time world.clock ≡ false → Running k (record world { clock = time })
  running-timed k time world running is =
      record { within = timed-in handlers time world (running.within); most = running.most; beside = kept.timed time world (running.beside) }

  -- of a world in range by the number of handlers, and back

  pub begins : (world : World) → IsInRange (length script) world → Q world → Running (length world.tree.elements) world
  begins world within beside =
      record { within = subst (λ (count : ℕ). IsInRange count world) (sym (same-count script)) within; most = omega arith; beside = beside }

  pub ends : (k : ℕ) (world : World) → Running k world → IsInRange (length script) world
  ends k world running = subst (λ (count : ℕ). IsInRange count world) (same-count script) (running.within)

  module _ (world : World) (within : IsInRange (length script) world) (beside : Q world) where
    abbrev many : ℕ
    many = length world.tree.elements

    abbrev Runs : World → Type 0
    Runs after = Running many after

    pub command-runs : (entries : List Present) (command : Command) (present : Present) → AllByRecursion (IsPresentIn world) entries →
        IsPresentIn world present → Runs (run_command script entries command present world).state
    command-runs entries command present are is =
        command-keeps script _ _ (running-kept.carried many) entries
        (all-map (IsPresentIn world) (IsEntryIn many) (entry-in world) entries are) command present world (entry-in world present is)
        (begins world within beside)

    pub call-runs : (document : ℕ) (handler : Option ℕ) (handed : Entries) → AllByRecursion (IsPresentIn world) (presents handed) →
        Runs (call script document handler handed world).state
    call-runs document handler handed are =
        called-keeps script _ _ (running-kept.carried many) document handler handed world
        (all-map (IsPresentIn world) (IsEntryIn many) (entry-in world) (presents handed) are) (begins world within beside)

    pub first-runs : Runs (run_first script (world.tasks) world).state
    first-runs = first-keeps script Running IsEntryIn running-kept many (world.tasks) world refl (begins world within beside)

    pub tick-runs : Runs (tick script world).state
    tick-runs = tick-keeps script Running IsEntryIn running-kept many world (begins world within beside)

    pub item-runs : (item : Item) → Runs (run_item script item world).state
    item-runs item = item-keeps script Running IsEntryIn running-kept many (running-timed many) item world (begins world within beside)

pub items-run : (items : List Item) (Q : World → Type 0) → IsKeptInRange (handlers_in items) Q → (world : World) → IsInRange (length (handlers_in items)) world →
    Q world → IsRunning (length (handler_names (handlers_in items))) Q (length world.tree.elements) (run_items items world).state
items-run items Q kept world within beside =
    items-keep items _ IsEntryIn (running-kept (handlers_in items) Q kept) _ (running-timed (handlers_in items) Q kept _) world
    (begins (handlers_in items) Q kept world within beside)

-- nothing beside the range

abbrev Any : World → Type 0
Any world = ⊤

alone : (script : Script) → IsKeptInRange script Any
alone script = record {
  next = λ before now next here. tt;
  begun = λ world here. tt;
  timed = λ time world here. tt;
  does = λ world present action within is here. on_did-all (does (handler_names script) world present action) _ (λ effect. tt);
}

module _ (script : Script) (world : World) (within : IsInRange (length script) world) where
  pub command-in : (entries : List Present) (command : Command) (present : Present) → AllByRecursion (IsPresentIn world) entries → IsPresentIn world present →
      IsInRange (length script) (run_command script entries command present world).state
  command-in entries command present are is =
      ends script Any (alone script) _ _ (command-runs script Any (alone script) world within tt entries command present are is)

  pub call-in : (document : ℕ) (handler : Option ℕ) (handed : Entries) → AllByRecursion (IsPresentIn world) (presents handed) →
      IsInRange (length script) (call script document handler handed world).state
  call-in document handler handed are =
      ends script Any (alone script) _ _ (call-runs script Any (alone script) world within tt document handler handed are)

  pub first-in : IsInRange (length script) (run_first script (world.tasks) world).state
  first-in = ends script Any (alone script) _ _ (first-runs script Any (alone script) world within tt)

  pub tick-in : IsInRange (length script) (tick script world).state
  tick-in = ends script Any (alone script) _ _ (tick-runs script Any (alone script) world within tt)

pub item-in : (script : Script) (item : Item) (world : World) → IsInRange (length script) world → IsInRange (length script) (run_item script item world).state
item-in script item world within = ends script Any (alone script) _ _ (item-runs script Any (alone script) world within tt item)

pub opening-in : (handlers : ℕ) (version : Version) → IsInRange handlers (opening_world version)
opening-in handlers version = record {
  top = omega arith;
  tree = record { elements = tt; documents = (record { frame = tt; root = tt }, tt) };
  names = (omega arith, tt);
  noted = omega arith;
  scrolls = record { elements = omega arith; documents = omega arith; listed = omega arith; pending = tt };
  resize_observers = tt;
  intersection_observers = tt;
  scroll_margins = omega arith;
  notifying = omega arith;
  queries = tt;
  listeners = tt;
  frame_callbacks = tt;
  timers = tt;
  tasks = tt;
}

pub items-in : (items : List Item) (version : Version) → IsInRange (length (handlers_in items)) (run_items items (opening_world version)).state
items-in items version =
    ends (handlers_in items) Any (alone (handlers_in items)) _ _
    (items-run items Any (alone (handlers_in items)) (opening_world version) (opening-in (length (handlers_in items)) version) tt)
