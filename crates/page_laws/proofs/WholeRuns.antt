-- What every command keeps, and the setting of the clock as well, is kept by whole runs.
use Rattle.std.proofs.Common.{◌≡◌, refl}
use Rattle.std.specs.Prelude.{ℕ, Bool, true, false, nat_lt, cond, List, []}
use Rattle.text_io.specs.declared.kinds.ThrowKind.TheVariants.{RangeError}
use Rattle.script_model.specs.Syntax.{Item, Outside, Tick, Handler}
use Rattle.script_model.specs.Scripts.{handlers_in}
use Rattle.page_model.specs.World.{World}
use Rattle.page_model.specs.Steps.{Did, Threw}
use Rattle.page_model.specs.Operands.{Present, NoEntry}
use Rattle.page_model.specs.Callbacks.{Script, run_command}
use Rattle.page_model.specs.Ticks.{time_set, tick}
use Rattle.page_model.specs.Outcome.{run_tick, run_item, run_items}
use Rattle.page_laws.specs.Successors.{OnDid}
use Rattle.page_laws.proofs.Steps.{on_did-map}
use Rattle.page_laws.proofs.Keeping.{counted, IsKept, for_each-keeps, answered-keeps, once_begun-keeps, command-keeps, caught-keeps, tick-keeps}

-- a time that isn't before the clock is set
pub time-kept : (P : World → Type 0) (world : World) (time : ℕ) → (nat_lt time world.clock ≡ false → P (record world { clock = time })) →
    OnDid (time_set time world) P
unfolding OnDid
time-kept P world time there = by_order (nat_lt time world.clock) refl
  where
    by_order : (before : Bool) → nat_lt time world.clock ≡ before → OnDid (cond before (Threw RangeError) (Did (record world { clock = time }))) P
    by_order true is = tt
    by_order false is = there is

module _ (script : Script) (P : ℕ → World → Type 0) (In : ℕ → Present → Type 0) (kept : IsKept script P In) (k : ℕ)
    (timed : (time : ℕ) (world : World) → P k world → nat_lt time world.clock ≡ false → P k (record world { clock = time })) where
  pub run_tick-keeps : (line time : ℕ) (world : World) → P k world → P k (run_tick script line time world).state
  run_tick-keeps line time world here =
      once_begun-keeps (P k) line world _ here λ room.
      let held : P k (counted world) = (kept.carried k).begun world room here in
      answered-keeps (P k) line (counted world) (tick script) (time_set time (counted world)) held
      (on_did-map (time_set time (counted world)) (P k) _ (tick-keeps script P In kept k) (time-kept (P k) (counted world) time
      (timed time (counted world) held)))

  pub item-keeps : (item : Item) (world : World) → P k world → P k (run_item script item world).state
  unfolding run_item
  item-keeps (Outside command) world here =
      caught-keeps (P k) (run_command script [] command NoEntry world)
      (command-keeps script _ _ (kept.carried k) [] tt command NoEntry world (kept.carried k).none here)
  item-keeps (Tick line time) world here = caught-keeps (P k) (run_tick script line time world) (run_tick-keeps line time world here)
  item-keeps (Handler line name block end_line) world here = here

pub items-keep : (items : List Item) (P : ℕ → World → Type 0) (In : ℕ → Present → Type 0) (kept : IsKept (handlers_in items) P In) (k : ℕ) →
    ((time : ℕ) (world : World) → P k world → nat_lt time world.clock ≡ false → P k (record world { clock = time })) → (world : World) → P k world →
    P k (run_items items world).state
unfolding run_items
items-keep items P In kept k timed world here =
    for_each-keeps (P k) (run_item (handlers_in items)) items (item-keeps (handlers_in items) P In kept k timed) world here
