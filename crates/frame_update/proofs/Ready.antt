-- A page stays ready for the next step.
use Rattle.std.proofs.Common.{◌≡◌, ◌≤◌, arith, subst, sym}
use Rattle.std.specs.Borrow.{Bor}
use Rattle.std.specs.Prelude.{ℕ, List, length}
use Rattle.script_model.specs.Syntax.{Item}
use Rattle.script_model.specs.Syntax as syntax
use Rattle.script_model.specs.Scripts.{handlers_in}
use Rattle.page_model.specs.Ranges.{counts_of}
use Rattle.page_model.specs.World.{World}
use Rattle.page_laws.specs.Bounds.{IsWithinLimits}
use Rattle.page_laws.specs.Ready.{IsReadyFor}
use Rattle.page_laws.proofs.Changes.{IsNext}
use Rattle.page_laws.proofs.Limits.{as-many}
use Rattle.page_laws.proofs.Ranges.{within-more}
use Rattle.page_laws.proofs.Ready.{ready-of, range-of, limits-of}
use Rattle.frame_update.specs.Ready.{IsPrepared, IsReady}

-- with the parts in sight
pub prepared : (script : List Item) (world : World) → IsReady script world → IsPrepared script world
prepared script world ready = record {
  range = range-of (length (handlers_in script)) world ready;
  limits = limits-of (length (handlers_in script)) world ready;
}

-- and the other way round
pub readied : (script : List Item) (world : World) → IsPrepared script world → IsReady script world
readied script world ready = ready-of (length (handlers_in script)) world ready.range ready.limits

-- for the script that was there first, which is the same
pub readied_first : {now first : Bor syntax.Script} {world : World} → now ≡ first → IsPrepared now.now.items world → IsReady first.now.items world
readied_first {now} {world = world} same ready = subst (λ (it : Bor syntax.Script). IsReady it.now.items world) same (readied now.now.items world ready)

pub prepared_first : {now first : Bor syntax.Script} {world : World} → now ≡ first → IsReady first.now.items world → IsPrepared now.now.items world
prepared_first {first = first} {world = world} same ready = subst (λ (it : Bor syntax.Script). IsPrepared it.now.items world) (sym same) (prepared first.now.items world ready)

within_next : (before after : World) → IsNext before after → IsWithinLimits before → IsWithinLimits after
within_next before after next within = as-many before within after next.observers next.queries next.successor.begun next.successor.version next.tasks

-- with more handlers
pub ready_for_more : (few many : ℕ) (world : World) → few ≤ many → IsReadyFor few world → IsReadyFor many world
ready_for_more few many world more ready =
    ready-of many world
    (within-more (counts_of few world) (counts_of many world)
    (record {
      elements = omega arith;
      documents = omega arith;
      resize_observers = omega arith;
      intersection_observers = omega arith;
      queries = omega arith;
      handlers = more;
    })
    world (range-of few world ready))
    (limits-of few world ready)

-- behind a call of the page
pub still_prepared : (script : List Item) (before after : World) → ((handlers : ℕ) → IsReadyFor handlers before → IsReadyFor handlers after) → IsPrepared script before →
    IsPrepared script after
still_prepared script before after step ready =
    let handlers : ℕ = length (handlers_in script) in prepared script after (step handlers (ready-of handlers before ready.range ready.limits))

-- behind a change of a tick
pub ready_next : (script : List Item) (before after : World) → IsNext before after → IsPrepared script before → IsPrepared script after
ready_next script before after next ready = record {
  range = next.within (length (handlers_in script)) ready.range;
  limits = within_next before after next ready.limits;
}
