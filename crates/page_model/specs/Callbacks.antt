-- Invoking callbacks and firing events: how a handler's commands are run (WebIDL, invoking callbacks; DOM, 2.9 and 2.10). What a
-- handler is, and that no callback is invoked for a document that isn't Active, are this project's own.
use Rattle.std.specs.Prelude.{ℕ, ◌+◌, List, [], ◌∷◌, map, slice_get, Option, Some, None, option_map, unwrap_or, pos}
use Rattle.text_io.specs.declared.kinds.EventKind.{EventKind}
use Rattle.text_io.specs.declared.kinds.EventKind.TheVariants as events
use Rattle.text_io.specs.declared.kinds.Version.{Version}
use Rattle.text_io.specs.declared.kinds.Version.TheVariants.{First, Second}
use Rattle.px_units.specs.declared.Size.{Size}
use Rattle.script_model.specs.Syntax.{Command, Simple, Each, When, Block, NoMore, Then}
use Rattle.text_io.specs.Limits.{limit_number}
use Rattle.script_model.specs.Scripts.{NamedBlock}
use Rattle.script_model.specs.TraceLines.{TraceLine, FiredEvent, EventLine, ResizeLine, ThrowLine, LimitLine}
use Rattle.page_model.specs.World.{World, Extent, Name, Entry, EventTarget, ElementTarget, DocumentTarget, WindowTarget, QueryTarget, Listener}
use Rattle.page_model.specs.Lookups.{element_at, query_list_at}
use Rattle.page_model.specs.Documents.{is_active}
use Rattle.page_model.specs.Names.{element_text, resize_observer_text}
use Rattle.page_model.specs.Steps.{Step, Did, Threw, Met, Effect}
use Rattle.page_model.specs.Operands.{Present, NoEntry, ResizeEntry, IntersectionEntry, Handlers}
use Rattle.page_model.specs.Gathering.{SizeEntry}
use Rattle.page_model.specs.EntryLines.{intersection_lines}
use Rattle.page_model.specs.Listeners.{listeners_of, listener_stands}
use Rattle.page_model.specs.Commands.{does, holds, begun_in}
use Rattle.page_model.specs.Runs.{Said, Thrown, Limited, silent, say, ◌followed_by◌, for_each, caught, only_if}

-- the handlers of a script; a handler's number is its index
abbrev pub Script : Type 0
Script = List NamedBlock

abbrev pub handler_names : Script → Handlers
handler_names script = map (λ (handler : NamedBlock). handler.name) script

abbrev pub handler_block : Script → ℕ → Block
handler_block script handler = unwrap_or (option_map (λ (it : NamedBlock). it.block) (slice_get script handler)) NoMore

abbrev pub handler_text : Script → ℕ → List ℕ
handler_text script handler = unwrap_or (option_map (λ (it : NamedBlock). it.name) (slice_get script handler)) []

-- the entries that a callback is invoked with
pub data Entries : Type 0 where
  NoEntries : Entries
  SizeEntries : (observer : ℕ) (entries : List SizeEntry) → Entries
  CutEntries : (observer : ℕ) (entries : List Entry) → Entries

-- a size in device pixels is reported by version 2 only
abbrev pub device_told : Version → Extent → Option Size
device_told First size = None
device_told Second size = Some (record { width = pos (size.across); height = pos (size.down) })

-- the trace line of an entry: its content rectangle, border box size and size in device pixels
abbrev pub resize_line : Version → List Name → ℕ → SizeEntry → TraceLine
resize_line version names observer entry =
    ResizeLine
    (resize_observer_text names observer)
    (element_text names (entry.target))
    (record {
      left = pos (entry.corner.across);
      top = pos (entry.corner.down);
      right = pos (entry.corner.across + entry.content.across);
      bottom = pos (entry.corner.down + entry.content.down);
    })
    (record { width = pos (entry.border.across); height = pos (entry.border.down) })
    (device_told version (entry.device))

abbrev pub entry_lines : Version → List Name → Entries → List TraceLine
entry_lines version names NoEntries = []
entry_lines version names (SizeEntries observer entries) = map (resize_line version names observer) entries
entry_lines version names (CutEntries observer entries) = intersection_lines names observer entries

-- what `each` iterates over
abbrev pub presents : Entries → List Present
presents NoEntries = []
presents (SizeEntries observer entries) = map (λ (entry : SizeEntry). ResizeEntry (entry.target)) entries
presents (CutEntries observer entries) = map (λ (entry : Entry). IntersectionEntry (entry.target) (entry.finding.meets)) entries

-- continues with the value of a command's step, or reports its exception or limit with the command's line number
unfoldable pub answered : {A : Type 0} → ℕ → World → (A → Said World) → Step A → Said World
answered line world next (Did value) = next value
answered line world next (Threw exception) = record { lines = ThrowLine line exception ∷ []; flow = Thrown; state = world }
answered line world next (Met limit) = record { lines = LimitLine limit line (limit_number (world.version) limit) ∷ []; flow = Limited; state = world }

abbrev pub said_by : Effect → Said World
said_by effect = say (effect.lines) (effect.world)

-- counts a command as begun, before anything else about it is checked
unfoldable pub once_begun : ℕ → World → (World → Said World) → Said World
unfolding answered begun_in
once_begun line world run = answered line world run (begun_in world)

unfoldable mutual
  unfolding answered once_begun for_each ◌followed_by◌ does holds

  -- runs a command of a callback that has these entries; `present` is the current entry of the innermost `each`
  pub run_command : Script → List Present → Command → Present → World → Said World
  run_command script entries (Simple line action) present world =
      once_begun line world λ begun. answered line begun said_by (does (handler_names script) begun present action)
  run_command script entries (Each line block end_line) present world =
      once_begun line world λ begun. for_each (run_block script entries block) entries begun
  run_command script entries (When line condition block end_line) present world =
      once_begun line world λ begun.
      answered line begun (only_if (run_block script entries block present) begun) (holds begun present condition)

  pub run_block : Script → List Present → Block → Present → World → Said World
  run_block script entries NoMore present world = silent world
  run_block script entries (Then command others) present world =
      run_command script entries command present world followed_by run_block script entries others present

-- runs a handler with the entries of its callback; a throw ends the handler only
abbrev pub run_handler : Script → Entries → Option ℕ → World → Said World
run_handler script handed None world = silent world
run_handler script handed (Some handler) world =
    caught (run_block script (presents handed) (handler_block script handler) NoEntry world)

abbrev pub while_active : ℕ → (World → Said World) → World → Said World
while_active document run world = only_if run world (is_active (world.tree) document)

-- invokes a callback of a document, if the document is Active: first the lines of the entries are written, then the handler is run
unfoldable pub call : Script → ℕ → Option ℕ → Entries → World → Said World
unfolding run_command ◌followed_by◌ caught intersection_lines
call script document handler handed world =
    while_active document (λ now. say (entry_lines (now.version) (now.names) handed) now followed_by run_handler script handed handler) world

-- events and what they are fired at ----------------------------------------------------------------------------------------

-- the document that must be Active for a target's listeners to be called
abbrev pub document_of_target : World → EventTarget → ℕ
document_of_target world (ElementTarget element) = (element_at (world.tree) element).document
document_of_target world (DocumentTarget document) = document
document_of_target world (WindowTarget document) = document
document_of_target world (QueryTarget query) = (query_list_at (world.queries) query).document

-- a listener is called only if it is still in the list: one that was removed and added again is a different listener
abbrev pub notify_listener : Script → Listener → World → Said World
notify_listener script listener world =
    only_if (call script (document_of_target world (listener.target)) (Some (listener.handler)) NoEntries) world (listener_stands listener (world.listeners))

-- invokes the listeners of one target, as they are when the event reaches it (DOM, 2.9: inner invoke)
unfoldable pub invoke : Script → EventTarget → EventKind → World → Said World
unfolding for_each call
invoke script target event world = for_each (notify_listener script) (listeners_of target event (world.listeners)) world

-- a scroll event at a document bubbles to its window (CSSOM View, 13: scrolling)
abbrev pub bubble : Script → EventTarget → EventKind → World → Said World
bubble script (DocumentTarget document) events.Scroll world = invoke script (WindowTarget document) events.Scroll world
bubble script target event world = silent world

-- fires an event (DOM, 2.10): its line is written, then the listeners are invoked
unfoldable pub fire : Script → FiredEvent → EventTarget → EventKind → World → Said World
unfolding ◌followed_by◌ invoke
fire script event target name world =
    say (EventLine event ∷ []) world followed_by invoke script target name followed_by bubble script target name
