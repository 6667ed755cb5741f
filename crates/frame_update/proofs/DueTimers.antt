-- The timers that are due, handed out one after another.
use Rattle.std.proofs.Common.{◌≡◌, ◌∙◌, ℕ, Bool, List, Option, ap, sym}
use Rattle.std.specs.Prelude.{Some, None, find, map, option_map}
use Rattle.script_model.specs.TraceLines.{TimerLine}
use Rattle.page_model.specs.Callbacks.{Script}
use Rattle.page_model.specs.Names.{document_text}
use Rattle.page_model.specs.Runs.{Said, silent, ◌followed_by◌}
use Rattle.page_model.specs.Ticks.{run_timer, run_timers}
use Rattle.page_model.specs.Timers.{due_timers}
use Rattle.page_model.specs.World.{FrameCallback, World}
use Rattle.event_tables.specs.Handed.{behind_first, one_by_one, run_and_then}
use Rattle.event_tables.specs.Timers.{callback_of, copied_stands, once_handed, timer_of, told}
use Rattle.event_tables.proofs.Handing.{first_runs, timers_run}
use Rattle.frame_update.proofs.Called.{told_while_active}
use Rattle.frame_update.proofs.Handed.{none_found}

-- a timer that was taken out: its line, and its callback
abbrev pub called_timer : Script → ℕ → List ℕ → ℕ → World → Said World
called_timer script document key handler world = told_while_active script document (Some handler) (TimerLine (document_text (world.names) document) key) world

-- whether a timer that was copied still stands, and what it runs
abbrev pub stands_now : FrameCallback → World → Bool
stands_now it now = copied_stands (now.timers) it

abbrev pub run_copied : Script → FrameCallback → World → Said World
run_copied script it = run_timer script (timer_of it)

-- the timers that are left of a batch
abbrev pub timers_left : Script → List FrameCallback → World → Said World
timers_left script copied world = one_by_one stands_now (run_copied script) copied world

-- all of them
pub timers_all : (script : Script) (world : World) → run_timers script world ≡ timers_left script (map callback_of (due_timers (world.clock) (world.timers))) world
unfolding run_timers
timers_all script world = timers_run script (due_timers (world.clock) (world.timers)) world

module _ (script : Script) (copied : List FrameCallback) (before : World) where
  abbrev pub next_timer : Option FrameCallback
  next_timer = find (copied_stands (before.timers)) copied

  abbrev pub others_left : List FrameCallback
  others_left = behind_first (copied_stands (before.timers)) copied

  -- the world once it was handed out
  abbrev pub timer_handed : Option FrameCallback → World
  timer_handed found = record before { timers = once_handed found (before.timers) }

  found-timer : (found : Option FrameCallback) (document : ℕ) (key : List ℕ) (handler : ℕ) → Some (document, key, handler) ≡ option_map told found
      → run_and_then stands_now (run_copied script) found others_left before
      ≡ (called_timer script document key handler (timer_handed found) followed_by timers_left script others_left)
  found-timer None document key handler is = absurd (cc)
  found-timer (Some it) document key handler is =
      let same : told it ≡ (document, key, handler) = cc in
      ap (λ (called : ℕ × List ℕ × ℕ). called_timer script called.0 called.1 called.2 (timer_handed (Some it)) followed_by timers_left script others_left) same

  -- one is handed out
  pub timers_more : (document : ℕ) (key : List ℕ) (handler : ℕ) (after : World) (rest : List FrameCallback) → Some (document, key, handler) ≡ option_map told next_timer
      → after ≡ timer_handed next_timer → rest ≡ others_left
      → timers_left script copied before ≡ (called_timer script document key handler after followed_by timers_left script rest)
  timers_more document key handler after rest is changed same =
      first_runs stands_now (run_copied script) copied before
      ∙ found-timer next_timer document key handler is
      ∙ ap (λ (world : World). called_timer script document key handler world followed_by timers_left script others_left) (sym changed)
      ∙ ap (λ (others : List FrameCallback). called_timer script document key handler after followed_by timers_left script others) (sym same)

  none-handed : (found : Option FrameCallback) (after : World) → found ≡ None → after ≡ timer_handed found
      → run_and_then stands_now (run_copied script) found others_left before ≡ silent after
  none-handed None after is changed = ap silent (sym changed)
  none-handed (Some it) after is changed = absurd (cc)

  -- none is left
  pub timers_none : (after : World) → None ≡ option_map told next_timer → after ≡ timer_handed next_timer → timers_left script copied before ≡ silent after
  timers_none after is changed = first_runs stands_now (run_copied script) copied before ∙ none-handed next_timer after (none_found told next_timer is) changed
