-- Each loop that is listed begins in a page within the limits, so what the laws of resize loops say is so of it.
use Rattle.std.proofs.Common.{refl}
use Rattle.std.specs.Prelude.{ℕ, List, [], ◌∷◌, ⊤}
use Rattle.std.specs.List.{AllByRecursion}
use Rattle.text_io.specs.declared.kinds.Version.{Version}
use Rattle.script_model.specs.Syntax.{Item, Outside, Tick, Handler}
use Rattle.script_model.specs.Scripts.{handlers_in}
use Rattle.script_model.specs.TraceLines.{TraceLine}
use Rattle.page_model.specs.World.{World}
use Rattle.page_model.specs.Gathering.{sight_of}
use Rattle.page_model.specs.Operands.{Present, NoEntry}
use Rattle.page_model.specs.Callbacks.{Script}
use Rattle.page_model.specs.Loop.{resize_loop}
use Rattle.page_model.specs.Outcome.{opening_world}
use Rattle.page_laws.specs.Bounds.{IsWithinLimits}
use Rattle.page_laws.proofs.Lists.{all-append}
use Rattle.page_laws.proofs.Later.{all-so}
use Rattle.page_laws.proofs.Limits.{as-many, counted-within}
use Rattle.page_laws.proofs.Waiting.{tasks-alike}
use Rattle.page_laws.proofs.Changes.{IsNext, inactive-next, reported-next}
use Rattle.page_laws.proofs.Turns.{call-within, command-within, gather-within, opening-within}
use Rattle.loop_laws.specs.RunLoops.{Loop, item_loops, loops_of_run, IsExact}
use Rattle.loop_laws.proofs.Folds.{all-each}
use Rattle.loop_laws.proofs.Loops.{loop-goes-deeper, loop-ends, errors-exact}
use Rattle.loop_laws.proofs.Walk.{IsTold, IsWalked, IsOutsideKept, loop-fine, item-along, items-along}

module _ (script : Script) where
  abbrev AnyEntry : ℕ → Present → Type 0
  AnyEntry k present = ⊤

  next-within : (before now : World) → IsNext before now → IsWithinLimits before → IsWithinLimits now
  next-within before now next here = as-many before here now next.observers next.queries next.successor.begun next.successor.version next.tasks

  timed-within : (time : ℕ) (world : World) → IsWithinLimits world → IsWithinLimits (record world { clock = time })
  timed-within time world here = as-many world here (record world { clock = time }) refl refl refl refl (tasks-alike world _ refl refl refl)

  walked : IsWalked script IsWithinLimits AnyEntry
  walked = record {
    next = λ before now next same here. next-within before now next here;
    calls = λ document handler handed world are here. call-within script world here document handler handed;
    queued = λ world observer here. all-so _;
    due = λ document observer world here. all-so _;
    reported = λ observer delivered world here. next-within world _ (reported-next world (sight_of world) observer delivered) here;
    emptied = λ document observer world is here. next-within world _ (inactive-next world observer) here;
    gathered = λ document depth world here. gather-within script world here document depth;
  }

  abbrev Exacts : List TraceLine → List Loop → Type 0
  Exacts lines loops = AllByRecursion (IsExact script) loops

  exacts : IsTold Exacts
  exacts = record {
    nothing = tt;
    both = λ lines more loops others one other. all-append (IsExact script) loops others one other;
    plain = λ line plain. tt;
  }

  loop-exact : (document : ℕ) (world : World) → IsWithinLimits world → IsExact script (record { document = document; world = world })
  loop-exact document world here = record {
    deeper = loop-goes-deeper script document world here;
    few = loop-ends script document world here;
    error = errors-exact script document world here;
  }

  loop-listed : (document : ℕ) (world : World) → IsWithinLimits world →
      IsWithinLimits (resize_loop script document world).state
      × Exacts (resize_loop script document world).lines (record { document = document; world = world } ∷ [])
  loop-listed document world here =
      ((loop-fine script IsWithinLimits AnyEntry walked Exacts exacts (λ text depth. tt) document (λ text. tt) world here).0, (loop-exact document world here, tt))

  outside : (item : Item) → IsOutsideKept script IsWithinLimits item
  outside (Outside command) = λ world here. command-within script world here [] command NoEntry
  outside (Tick line time) = tt
  outside (Handler line name block end_line) = tt

  pub item-exact : (item : Item) (world : World) → IsWithinLimits world → AllByRecursion (IsExact script) (item_loops script item world)
  item-exact item world here =
      (item-along script IsWithinLimits AnyEntry walked Exacts exacts loop-listed (λ now room held. counted-within now held room) timed-within item
      (outside item) world here).1

pub run-exact : (version : Version) (items : List Item) → AllByRecursion (IsExact (handlers_in items)) (loops_of_run version items)
unfolding loops_of_run
run-exact version items =
    let script = handlers_in items in
    (items-along script IsWithinLimits (AnyEntry script) (walked script) (Exacts script) (exacts script) (loop-listed script)
    (λ world room here. counted-within world here room) (timed-within script) items
    (all-each (IsOutsideKept script IsWithinLimits) items (outside script)) (opening_world version) (opening-within version)).1
