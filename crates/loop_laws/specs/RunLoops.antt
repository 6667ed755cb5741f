-- The resize loops of a tick and of a script's run, taken from the runs of page_model: each with its document and the world in which it
-- begins; what holds for each; and the lines that only resize loops write.
use Rattle.std.specs.Prelude.{◌≡◌, ◌&&◌, ℕ, Bool, true, false, List, [], ◌∷◌, filter}
use Rattle.text_io.specs.declared.kinds.Version.{Version}
use Rattle.script_model.specs.Syntax.{Item, Outside, Tick, Handler}
use Rattle.script_model.specs.Scripts.{handlers_in}
use Rattle.script_model.specs.TraceLines.{TraceLine, RoundLine, EventLine, FiredError}
use Rattle.page_model.specs.World.{World}
use Rattle.page_model.specs.Documents.{is_active, active_documents}
use Rattle.page_model.specs.Commands.{begun_in}
use Rattle.page_model.specs.Runs.{Said, ◌followed_by◌, only_if, for_each}
use Rattle.page_model.specs.Callbacks.{Script, while_active}
use Rattle.page_model.specs.Loop.{resize_loop}
use Rattle.page_model.specs.Ticks.{run_timers, resize_steps, scroll_steps, media_steps, frame_steps, time_set}
use Rattle.page_model.specs.Outcome.{opening_world, run_item}
use Rattle.loop_laws.specs.Moments.{following, where_did, along_each, listed_if}
use Rattle.loop_laws.specs.WholeLoops.{resize_rounds, round_starts, GoesDeeper, HasFewRounds, has_undelivered, fire_error}

-- a resize loop that is run for a document, and the world in which it begins
pub record Loop : Type 0 where
  pub document : ℕ
  pub world : World

abbrev pub over : List ℕ → (ℕ → World → Said World) → World → Said World
over documents part = for_each (λ document. while_active document (part document)) documents

-- the parts of an update of the rendering before its resize loops
abbrev pub earlier_parts : Script → List (ℕ → World → Said World)
earlier_parts script = resize_steps script ∷ scroll_steps script ∷ media_steps script ∷ frame_steps script ∷ []

-- the loops of the documents that were listed as Active when the update began, except those that no longer are
unfoldable pub document_loops : Script → List ℕ → World → List Loop
unfolding along_each resize_loop
document_loops script documents =
    along_each
    (λ document now. listed_if (λ at. record { document = document; world = at } ∷ []) now (is_active (now.tree) document))
    (λ document. while_active document (resize_loop script document))
    documents

unfoldable pub update_loops : Script → World → List Loop
unfolding document_loops for_each active_documents resize_steps scroll_steps media_steps frame_steps
update_loops script world =
    following (for_each (over (active_documents (world.tree))) (earlier_parts script) world) (document_loops script (active_documents (world.tree)))

-- the loops of a tick, which come after its timers
unfoldable pub tick_loops : Script → World → List Loop
unfolding update_loops run_timers
tick_loops script world = following (run_timers script world) (update_loops script)

-- loops are run only in ticks
abbrev pub item_loops : Script → Item → World → List Loop
item_loops script (Outside command) world = []
item_loops script (Tick line time) world = where_did (begun_in world) λ begun. where_did (time_set time begun) (tick_loops script)
item_loops script (Handler line name block end_line) world = []

unfoldable pub loops_of_run : Version → List Item → List Loop
unfolding along_each tick_loops run_item handlers_in begun_in
loops_of_run version items = along_each (item_loops (handlers_in items)) (run_item (handlers_in items)) items (opening_world version)

-- each round is deeper than the one before, unless one of its commands takes an inclusive ancestor of a target gathered for it out of its
-- parent; the number of such commands and the greatest depth that is delivered bound the number of rounds; and the error is fired if and
-- only if, after the rounds, the document is Active and one of its observers has a target whose size differs from its last reported one
pub record IsExact (script : Script) (loop : Loop) : Type 0 where
  pub deeper : GoesDeeper script loop.document 0 (round_starts script loop.document loop.world)
  pub few : HasFewRounds script loop.document loop.world
  pub error : resize_loop script loop.document loop.world
      ≡ (resize_rounds script loop.document loop.world
      followed_by (λ now. only_if (fire_error script loop.document) now (is_active (now.tree) loop.document && has_undelivered loop.document now)))

-- the lines that only resize loops write themselves: that of a round and that of the error
abbrev pub is_loop_line : TraceLine → Bool
is_loop_line (RoundLine document depth) = true
is_loop_line (EventLine (FiredError document)) = true
is_loop_line line = false

abbrev pub loop_lines : List TraceLine → List TraceLine
loop_lines lines = filter is_loop_line lines

abbrev pub lines_of_loop : Script → Loop → List TraceLine
lines_of_loop script loop = loop_lines (resize_loop script (loop.document) (loop.world)).lines
