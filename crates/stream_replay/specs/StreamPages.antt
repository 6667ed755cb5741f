-- What the pages of a stream stand for as they run.
use Rattle.std.specs.Prelude.{◌≡◌, ℕ, ◌==◌, ◌&&◌, not, cond, Bool, false, drop, slice_get, Option, Some, None}
use Rattle.script_model.specs.Syntax.{Item}
use Rattle.script_model.specs.Scripts.{handlers_in}
use Rattle.page_model.specs.Outcome as outcomes
use Rattle.frame_update.specs.Ready.{IsReady}
use Rattle.stream_runs.specs.PageRuns as runs
use Rattle.stream_runs.specs.PageRuns.{PageRun, item_line}
use Rattle.stream_replay.specs.declared.stream_page.Running.{Running}
use Rattle.stream_replay.specs.declared.stream_page.Standing.{Standing}
use Rattle.stream_replay.specs.declared.stream_page.Standing.TheVariants as standing
use Rattle.stream_replay.specs.declared.stream_page.Refusal.TheVariants as refusal
use Rattle.stream_replay.specs.declared.stream_page.StreamPage.{StreamPage}

-- the remaining items of a script, and the world of its page; a page that is stopped met a limit and is over
abbrev pub seen_running : Running → runs.Standing
seen_running it =
    cond it.is_stopped (runs.Over outcomes.LimitMet) (runs.Going (handlers_in it.script.items) (drop it.next it.script.items) it.page.world)

abbrev pub seen_standing : Standing → runs.Standing
seen_standing (standing.Opened it) = seen_running it
seen_standing (standing.Refused refusal.Faulty) = runs.Over outcomes.Faulty
seen_standing (standing.Refused refusal.LimitMet) = runs.Over outcomes.LimitMet

abbrev pub seen_page : StreamPage → PageRun
seen_page it = record { name = it.name; standing = seen_standing it.standing }

-- whether there is an item and it begins on this line
abbrev pub item_begins : ℕ → Option Item → Bool
item_begins line None = false
item_begins line (Some item) = item_line item == line

-- whether the next item of a script is run at a line
abbrev pub begins : ℕ → Running → Bool
begins line it = not it.is_stopped && item_begins line (slice_get it.script.items it.next)

-- a page that isn't stopped is ready for its next item
abbrev pub IsReadyToRun : Running → Type 0
IsReadyToRun it = it.is_stopped ≡ false → IsReady it.script.items it.page.world

abbrev pub IsReadyStanding : Standing → Type 0
IsReadyStanding (standing.Opened it) = IsReadyToRun it
IsReadyStanding (standing.Refused refusal) = Unit {0}

abbrev pub IsReadyPage : StreamPage → Type 0
IsReadyPage it = IsReadyStanding it.standing
