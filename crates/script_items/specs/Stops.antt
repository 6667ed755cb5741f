-- A run that is stopped at the end of one of its ticks. All of this is this project's own choice.
use Rattle.std.specs.Prelude.{ℕ, zero, suc, ◌+◌, ◌-◌, List, [], ◌∷◌}
use Rattle.script_model.specs.Syntax.{Script, Item, Outside, Tick, Handler}
use Rattle.script_model.specs.Scripts.{handlers_in}
use Rattle.page_model.specs.World.{World}
use Rattle.page_model.specs.Runs.{Said, for_each}
use Rattle.page_model.specs.Outcome.{opening_world, run_item}

-- the number of ticks in an item: a `tick` is never inside a handler
abbrev pub ticks_in : Item → ℕ
ticks_in (Tick line time) = 1
ticks_in (Outside command) = 0
ticks_in (Handler line name block end_line) = 0

-- the items of a script up to and including its tick with this number, counted from 1; all if it has fewer ticks
unfoldable pub to_tick : ℕ → List Item → List Item
to_tick zero items = []
to_tick (suc more) [] = []
to_tick (suc more) (item ∷ items) = item ∷ to_tick (suc more - ticks_in item) items

unfoldable pub tick_count : List Item → ℕ
tick_count [] = 0
tick_count (item ∷ items) = ticks_in item + tick_count items

-- the run of a script, stopped at the end of its tick with this number, even if that tick threw
unfoldable pub after : Script → ℕ → Said World
unfolding for_each run_item handlers_in to_tick
after script number =
    for_each (run_item (handlers_in (script.items))) (to_tick number (script.items)) (opening_world (script.version))
