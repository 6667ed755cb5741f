-- One page of a stream as it runs. It has a world of its own, and its commands are run like those of its script alone: other pages don't
-- affect it. The stream only determines when they are run. This form is this project's own choice.
use Rattle.std.specs.Prelude.{ℕ, ◌==◌, cond, List, [], ◌∷◌, Ok, Err}
use Rattle.script_model.specs.Syntax.{Command, Simple, Each, When, Item, Outside, Tick, Handler}
use Rattle.script_model.specs.Scripts.{NamedBlock, handlers_in}
use Rattle.script_model.specs.Reading.{Reading, refusal_line}
use Rattle.script_model.specs.TraceLines.{TraceLine}
use Rattle.page_model.specs.World.{World}
use Rattle.page_model.specs.Runs.{Flow, Next, Thrown, Limited, Said}
use Rattle.page_model.specs.Outcome.{opening_world, run_item, Ending, Ended, LimitMet, refused_ending}

-- a page with the reading of its script
pub record PageScript : Type 0 where
  pub name : List ℕ
  pub read : Reading

-- the state of a page: it goes on, with the handlers of its script, the items that are left to run, and its world; or its run ended
-- early, because its script was refused or a limit was met
pub data Standing : Type 0 where
  Going : (handlers : List NamedBlock) (left : List Item) (world : World) → Standing
  Over : (ending : Ending) → Standing

pub record PageRun : Type 0 where
  pub name : List ℕ
  pub standing : Standing

-- a page before its first command; if its script is refused, no command is run
abbrev pub opened_with : Reading → Standing
opened_with (Ok script) = Going (handlers_in (script.items)) (script.items) (opening_world (script.version))
opened_with (Err refusal) = Over (refused_ending refusal)

abbrev pub opened : PageScript → PageRun
opened script = record { name = script.name; standing = opened_with script.read }

-- how a page ends if it isn't run any further
abbrev pub ending_at : Standing → Ending
ending_at (Going handlers left world) = Ended
ending_at (Over ending) = ending

-- what is written for a script that is refused
abbrev pub refused_lines : Reading → List TraceLine
refused_lines (Ok script) = []
refused_lines (Err refusal) = refusal_line refusal ∷ []

abbrev pub command_line : Command → ℕ
command_line (Simple line action) = line
command_line (Each line block end_line) = line
command_line (When line condition block end_line) = line

-- the first line of an item
abbrev pub item_line : Item → ℕ
item_line (Outside command) = command_line command
item_line (Tick line time) = line
item_line (Handler line name block end_line) = line

-- what a page writes at one of its lines, and its state afterwards
pub record Turn : Type 0 where
  pub lines : List TraceLine
  pub standing : Standing

abbrev pub passed : Standing → Turn
passed standing = record { lines = []; standing = standing }

-- after a limit was met, no further command is run
abbrev pub stands_by : Flow → List NamedBlock → List Item → World → Standing
stands_by Next handlers left world = Going handlers left world
stands_by Thrown handlers left world = Going handlers left world
stands_by Limited handlers left world = Over LimitMet

-- the turn in which an item was run, with the items that are left
abbrev pub went_on : List NamedBlock → List Item → Said World → Turn
went_on handlers left said = record { lines = said.lines; standing = stands_by (said.flow) handlers left (said.state) }

-- a page's turn at a line of its script: its next item is run if it begins at this line
unfoldable pub turn_at : ℕ → Standing → Turn
unfolding run_item
turn_at line (Over ending) = passed (Over ending)
turn_at line (Going handlers [] world) = passed (Going handlers [] world)
turn_at line (Going handlers (item ∷ others) world) =
    cond (item_line item == line) (went_on handlers others (run_item handlers item world)) (passed (Going handlers (item ∷ others) world))
