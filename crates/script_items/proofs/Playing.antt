-- The items of a script, run one after another.
use Rattle.std.proofs.Common.{◌≡◌, ℕ, List, map, refl, ap, sym, subst}
use Rattle.std.specs.Prelude.{[], length}
use Rattle.text_io.specs.declared.kinds.Version.{Version}
use Rattle.script_model.specs.Syntax as model
use Rattle.script_model.specs.Syntax.{Outside, Tick, Handler}
use Rattle.script_model.specs.Scripts.{handlers_in, NamedBlock}
use Rattle.script_syntax.specs.Seen.{item_of}
use Rattle.script_syntax.specs.declared.commands.Item.{Item}
use Rattle.page_model.specs.Callbacks.{run_command}
use Rattle.page_model.specs.Operands.{NoEntry}
use Rattle.page_model.specs.Outcome.{opening_world, run_item, run_items, run_tick}
use Rattle.page_model.specs.Runs.{caught, for_each, silent}
use Rattle.page_model.specs.World.{World}
use Rattle.page_laws.proofs.Ready.{ready-opening}
use Rattle.frame_update.specs.Ready.{IsReady}
use Rattle.trace_runs.proofs.Loops.{each_mapped}

-- one item
module _ (script : List NamedBlock) (world : World) where
  pub outside_is : (command : model.Command) → caught (run_command script [] command NoEntry world) ≡ run_item script (Outside command) world
  unfolding run_item
  outside_is command = refl

  pub tick_is : (line time : ℕ) → caught (run_tick script line time world) ≡ run_item script (Tick line time) world
  unfolding run_item
  tick_is line time = refl

  pub handler_is : (line : ℕ) (name : List ℕ) (block : model.Block) (end_line : ℕ) → silent world ≡ run_item script (Handler line name block end_line) world
  unfolding run_item
  handler_is line name block end_line = refl

-- a new page is ready for the first item
pub opening_ready : (script : List model.Item) (version : Version) (world : World) → world ≡ opening_world version → IsReady script world
opening_ready script version world opening =
    subst (λ (world : World). IsReady script world) (sym opening) (ready-opening (length (handlers_in script)) version)

-- the items of the program, one after another
pub items_are : (handlers : List NamedBlock) (items : List Item) (world : World)
    → for_each (run_item handlers) (map item_of items) world ≡ for_each (λ (item : Item). run_item handlers (item_of item)) items world
items_are handlers items world = sym (each_mapped (run_item handlers) item_of items world)

-- the items of a script
pub script_is : (items : List Item) (script : List model.Item) (world : World) → map item_of items ≡ script
    → for_each (run_item (handlers_in script)) (map item_of items) world ≡ run_items script world
unfolding run_items
script_is items script world is = ap (λ (it : List model.Item). for_each (run_item (handlers_in script)) it world) is
