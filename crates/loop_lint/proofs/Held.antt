-- What each world of a run is, where each `ro` names a loop handler: numbers are in range, limits are kept, and each handler of a
-- resize observer is a loop handler.
use Rattle.std.proofs.Common.{◌≡◌, refl, sym, subst, arith}
use Rattle.std.specs.Prelude.{ℕ, ◌<◌, Bool, true, cond, List, [], ◌∷◌, length, Option, Some, None, ⊤}
use Rattle.std.specs.List.{AllByRecursion}
use Rattle.script_model.specs.Syntax.{Action, Command, Item, Outside, Tick, Handler}
use Rattle.script_model.specs.Scripts.{NamedBlock, handlers_in}
use Rattle.script_model.specs.TraceLines.{TraceLine}
use Rattle.text_io.specs.declared.kinds.Version.{Version}
use Rattle.text_io.specs.Limits.{limit_number}
use Rattle.text_io.specs.declared.kinds.LimitKind.TheVariants as limits
use Rattle.page_model.specs.World.{World, Observation, ResizeObservers}
use Rattle.page_model.specs.Lookups.{resize_observer_at}
use Rattle.page_model.specs.Gathering.{sight_of, is_of, without_active}
use Rattle.page_model.specs.Operands.{Present, NoEntry}
use Rattle.page_model.specs.Commands.{does}
use Rattle.page_model.specs.Callbacks.{Script, Entries, handler_names, presents, run_command, call}
use Rattle.page_model.specs.Ranges.{counts_of, IsInRange, IsPresentIn}
use Rattle.page_model.specs.Loop.{gather, resize_loop}
use Rattle.page_model.specs.Outcome.{opening_world, run_items}
use Rattle.page_laws.specs.Bounds.{IsWithinLimits}
use Rattle.page_laws.proofs.Lists.{all-map}
use Rattle.page_laws.proofs.Keeping.{counted}
use Rattle.page_laws.proofs.Waiting.{tasks-alike}
use Rattle.page_laws.proofs.Changes.{IsNext, gather-next, reported-next, emptied-next}
use Rattle.page_laws.proofs.Limits.{as-many, counted-within}
use Rattle.page_laws.proofs.Turns.{call-within, command-within, opening-within}
use Rattle.page_laws.proofs.RunsInRange.{IsEntryIn, observed-in, queue-in, if-own, call-in, command-in, opening-in, present-in}
use Rattle.page_laws.proofs.Later.{all-so}
use Rattle.loop_laws.specs.Moments.{Moment}
use Rattle.loop_laws.specs.RunLoops.{Loop, loops_of_run}
use Rattle.loop_laws.proofs.Walk.{CommandHolds, BlockHolds, HandlerHolds, on_did-given, IsAlong, command-along, call-along, IsTold, IsWalked, IsOutsideKept, items-along}
use Rattle.loop_lint.specs.LoopHandlers.{is_empty, is_unnamed, loop_handler_lines}
use Rattle.loop_lint.proofs.Holding.{ItemHolds, Names, IsClean, block-holds, all-named, handlers-hold, loop-handlers-clean}
use Rattle.loop_lint.proofs.Tame.{AreTame, changed-tame, gathering-tame, does-tame}

-- of a script without lines of a test in its loop handlers
module _ (test : Action → Bool) (items : List Item) (empty : is_empty (loop_handler_lines test items) ≡ true) where
  abbrev script : Script
  script = handlers_in items

  abbrev unnamed : List ℕ → Bool
  unnamed = is_unnamed items

  clean : AllByRecursion (IsClean test unnamed) script
  clean = loop-handlers-clean test items empty

  named : AllByRecursion (λ (handler : NamedBlock). BlockHolds (Names unnamed) (handler.block)) script
  named = handlers-hold (Names unnamed) items (all-named items)

  -- a world of a run
  pub record IsHeld (world : World) : Type 0 where
    pub range : IsInRange (length script) world
    pub limits : IsWithinLimits world
    pub tame : AreTame test unnamed script world.resize_observers

  next-held : (before now : World) → IsNext before now → AreTame test unnamed script now.resize_observers → IsHeld before → IsHeld now
  next-held before now next tame here = record {
    range = next.within (length script) (here.range);
    limits = as-many before (here.limits) now next.observers next.queries next.successor.begun next.successor.version next.tasks;
    tame = tame;
  }

  gathered-tame : (document depth : ℕ) (world : World) → AreTame test unnamed script world.resize_observers →
      AreTame test unnamed script (gather document depth world).resize_observers
  unfolding gather
  gathered-tame document depth world here = gathering-tame test unnamed script (sight_of world) document depth (world.resize_observers) here

  counts-held : (world : World) → world.begun < limit_number (world.version) limits.Commands → IsHeld world → IsHeld (counted world)
  counts-held world room here = record {
    range = counted-range (length script) world (here.range);
    limits = counted-within world (here.limits) room;
    tame = here.tame;
  }
    where
      counted-range : (handlers : ℕ) (world : World) → IsInRange handlers world → IsInRange handlers (counted world)
      counted-range handlers world within = search

  timed-held : (time : ℕ) (world : World) → IsHeld world → IsHeld (record world { clock = time })
  timed-held time world here = record {
    range = timed-range (length script) world (here.range);
    limits = as-many world (here.limits) _ refl refl refl refl (tasks-alike world _ refl refl refl);
    tame = here.tame;
  }
    where
      timed-range : (handlers : ℕ) (world : World) → IsInRange handlers world → IsInRange handlers (record world { clock = time })
      timed-range handlers world within = search

  opening-held : (version : Version) → IsHeld (opening_world version)
  opening-held version = record { range = opening-in (length script) version; limits = opening-within version; tame = record { each = tt } }

  abbrev Tames : World → List TraceLine → List Moment → World → Type 0
  Tames before lines moments now = AreTame test unnamed script before.resize_observers → AreTame test unnamed script now.resize_observers

  tame-along : IsAlong script (Names unnamed) (λ (present : Present). ⊤) Tames
  tame-along = record {
    joined = record { none = λ world here. here; both = λ a b c lines more xs ys one other here. other (one here) };
    plain = λ world lines plain here. here;
    begun = λ world present command named is room here. here;
    does = λ line action present world named is room. on_did-given (does (handler_names script) (counted world) present action)
        (AreTame test unnamed script world.resize_observers) (λ effect. AreTame test unnamed script effect.world.resize_observers)
        (λ here. does-tame test unnamed script clean (counted world) here present action named);
    none = tt;
  }

  handler-named : (handler : Option ℕ) → HandlerHolds (Names unnamed) script handler
  handler-named None = tt
  handler-named (Some h) = block-holds (Names unnamed) script named h

  call-held : (document : ℕ) (handler : Option ℕ) (handed : Entries) (world : World) → AllByRecursion (IsEntryIn (length world.tree.elements)) (presents handed) →
      IsHeld world → IsHeld (call script document handler handed world).state
  call-held document handler handed world are here = record {
    range = call-in script world (here.range) document handler handed
        (all-map (IsEntryIn (length world.tree.elements)) (IsPresentIn world) (λ present is. present-in (length world.tree.elements) world present (omega arith) is)
        (presents handed) are);
    limits = call-within script world (here.limits) document handler handed;
    tame = call-along script _ _ Tames tame-along document handler handed world (all-so (presents handed)) (handler-named handler) (here.tame);
  }

  command-held : (command : Command) → CommandHolds (Names unnamed) command → (world : World) → IsHeld world →
      IsHeld (run_command script [] command NoEntry world).state
  command-held command holds world here = record {
    range = command-in script world (here.range) [] command NoEntry tt tt;
    limits = command-within script world (here.limits) [] command NoEntry;
    tame = command-along script _ _ Tames tame-along [] tt command NoEntry world holds tt (here.tame);
  }

  pub held-walked : IsWalked script IsHeld IsEntryIn
  held-walked = record {
    next = λ before now next same here.
        next-held before now next (subst (λ (it : ResizeObservers). AreTame test unnamed script it) (sym same) (here.tame)) here;
    calls = call-held;
    queued = λ world observer here. queue-in (counts_of (length script) world) (world.intersection_observers.made) observer here.range.intersection_observers;
    due = λ document observer world here.
        if-own (λ (it : Observation). it.target < length world.tree.elements) (is_of document (resize_observer_at (world.resize_observers) observer)) _
        (observed-in (counts_of (length script) world) (world.resize_observers.made) observer here.range.resize_observers);
    reported = λ observer delivered world here.
        next-held world _ (reported-next world (sight_of world) observer delivered)
        (changed-tame test unnamed script _ (λ it. refl) (world.resize_observers.given) observer (world.resize_observers) (here.tame)) here;
    emptied = λ document observer world is here.
        let now = record world { resize_observers = without_active observer (world.resize_observers) } in
        next-held world now (subst (λ (active : Bool). IsNext world (cond active now world)) is (emptied-next world document observer))
        (changed-tame test unnamed script _ (λ it. refl) (world.resize_observers.given) observer (world.resize_observers) (here.tame)) here;
    gathered = λ document depth world here.
        next-held world _ (gather-next document depth world) (gathered-tame document depth world (here.tame)) here;
  }

  outside : (item : Item) → ItemHolds (Names unnamed) item → IsOutsideKept script IsHeld item
  outside (Outside command) holds = command-held command holds
  outside (Tick line time) holds = tt
  outside (Handler line name block end_line) holds = tt

  pub run-in : (L : List TraceLine → List Loop → Type 0) → IsTold L → ((document : ℕ) (world : World) → IsHeld world →
      IsHeld (resize_loop script document world).state
      × L (resize_loop script document world).lines (record { document = document; world = world } ∷ [])) → (version : Version) →
      L (run_items items (opening_world version)).lines (loops_of_run version items)
  unfolding run_items loops_of_run
  run-in L told loops version =
      (items-along script IsHeld IsEntryIn held-walked L told loops counts-held timed-held items
      (all-map (ItemHolds (Names unnamed)) (IsOutsideKept script IsHeld) outside items (all-named items))
      (opening_world version) (opening-held version)).1
