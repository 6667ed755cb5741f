-- One walk of commands and callbacks, of the deliveries of a resize loop, of a tick and of a whole run: what holds of their parts, over
-- the lines said and what is listed between them, holds of the whole.
use Rattle.std.proofs.Common.{◌≡◌, refl}
use Rattle.std.specs.Prelude.{ℕ, suc, ◌<◌, ◌&&◌, ◌==◌, not, map, Bool, true, false, cond, List, [], ◌∷◌, ◌++◌, length, Option, Some, None, IfSome, ⊤}
use Rattle.std.specs.List.{AllByRecursion, list_any}
use Rattle.text_io.specs.declared.kinds.EventKind.{EventKind}
use Rattle.text_io.specs.declared.kinds.EventKind.TheVariants as events
use Rattle.text_io.specs.declared.kinds.LimitKind.TheVariants as limits
use Rattle.text_io.specs.Limits.{limit_number}
use Rattle.script_model.specs.Syntax.{Action, Command, Simple, Each, When, Block, NoMore, Then, Item, Outside, Tick, Handler}
use Rattle.script_model.specs.TraceLines.{TraceLine, FiredEvent, FiredResize, FiredScroll, FiredChange, FiredError, EventLine, TimerLine, TaskLine, TickLine, RoundLine, ThrowLine, LimitLine}
use Rattle.page_model.specs.World.{World, Tree, Entry, EventTarget, DocumentTarget, WindowTarget, QueryTarget, IntersectionObservers, Observation, Task, Notify, Posted, Timer, FrameCallback}
use Rattle.page_model.specs.Lookups.{resize_observer_at, intersection_observer_at, query_list_at}
use Rattle.page_model.specs.Documents.{is_active, active_documents}
use Rattle.page_model.specs.Names.{document_text, query_list_text, container_text}
use Rattle.page_model.specs.PageBoxes.{viewport_of}
use Rattle.page_model.specs.Viewports.{differs_from, noted_size, with_noted}
use Rattle.page_model.specs.Scrolls.{pending_of, without_pending}
use Rattle.page_model.specs.QueryLists.{with_state}
use Rattle.page_model.specs.Listeners.{listeners_of, listener_stands}
use Rattle.page_model.specs.FrameCallbacks.{frame_callbacks_of, frame_callback_stands, frame_callback_taken}
use Rattle.page_model.specs.Timers.{due_timers, timer_stands, timer_taken}
use Rattle.page_model.specs.Tasks.{has_tasks, is_notifying, without_notifying}
use Rattle.page_model.specs.IntersectionObserving.{without_queue}
use Rattle.page_model.specs.Steps.{Step, Did, Threw, Met, Effect}
use Rattle.page_model.specs.Operands.{Present, NoEntry, ResizeEntry, IntersectionEntry}
use Rattle.page_model.specs.Commands.{does, holds, begun_in, matches_now}
use Rattle.page_model.specs.Runs.{Said, silent, say, follow, ◌followed_by◌, caught, only_if, for_each, repeat, most_steps}
use Rattle.page_model.specs.Callbacks.{Script, handler_names, handler_block, handler_text, Entries, SizeEntries, CutEntries, NoEntries, entry_lines, presents, answered, once_begun, said_by, run_command, run_block, run_handler, while_active, call, notify_listener, invoke, bubble, fire, document_of_target}
use Rattle.page_model.specs.Intersections.{is_same_bool, settling, found_now, watchers, with_notify_task, has_queued, update_intersections, take_queue, notify_watcher, notify_watchers, notify}
use Rattle.page_model.specs.Gathering.{sight_of, size_entry, with_reported, without_active, has_skipped, due_at}
use Rattle.page_model.specs.Loop.{Broadcast, gather, deliver_some, broadcast, round, round_ended, report_skipped, resize_loop}
use Rattle.page_model.specs.Ticks.{line_while_active, event_target_of, intersection_steps, run_timers, run_timer, resize_steps, scroll_steps, evaluated, evaluate, media_steps, frame_steps, run_frame_callback, update_rendering, run_first, run_tasks, time_set, tick}
use Rattle.page_model.specs.Outcome.{run_item}
use Rattle.page_laws.specs.Successors.{OnDid}
use Rattle.page_laws.proofs.Steps.{did, room-then, on_did-all}
use Rattle.page_laws.proofs.Keeping.{counted}
use Rattle.page_laws.proofs.Later.{all-so}
use Rattle.page_laws.proofs.Changes.{IsNext, active-in, timer-next, frame-next, noted-next, pending-next, matched-next, tasks-next, unnotified-next, queue-next, update-next}
use Rattle.page_laws.proofs.WholeRuns.{time-kept}
use Rattle.loop_laws.specs.Moments.{Moment, where_did, listed_if, along_each, along_places, command_moments, block_moments, handler_moments, call_moments, delivery_moments, broadcast_moments}
use Rattle.loop_laws.specs.Rounds.{goes_on}
use Rattle.loop_laws.specs.WholeLoops.{resize_rounds, fire_error}
use Rattle.loop_laws.specs.Rounds.{rounds_up_to}
use Rattle.loop_laws.specs.RunLoops.{Loop, over, earlier_parts, document_loops, update_loops, tick_loops, item_loops}
use Rattle.loop_laws.proofs.Folds.{IsJoined, Runs, while-joined, lines-joined, then-along, then-behind, if-along, each-along, repeat-along, split-along, places-along}
use Rattle.loop_laws.proofs.Lines.{IsPlain, entries-plain, does-plain}

-- what a step comes to, and how it goes on with the value
answered-along : {A B : Type 0} (R : World → List TraceLine → List B → World → Type 0) (line : ℕ) (world : World) (next : A → Said World) (list : A → List B) →
    ((refusal : TraceLine) → IsPlain refusal → R world (refusal ∷ []) [] world) → (step : Step A) →
    OnDid step (λ value. Runs R world (list value) (next value)) → Runs R world (where_did step list) (answered line world next step)
unfolding answered OnDid
answered-along R line world next list plain (Did value) there = there
answered-along R line world next list plain (Threw exception) there = plain (ThrowLine line exception) refl
answered-along R line world next list plain (Met limit) there = plain (LimitLine limit line _) refl

-- what a step comes to under a condition
pub on_did-given : {A : Type 0} (step : Step A) (Condition : Type 0) (Holds : A → Type 0) → (Condition → OnDid step Holds) →
    OnDid step (λ value. Condition → Holds value)
unfolding OnDid
on_did-given (Did value) Condition Holds each = each
on_did-given (Threw exception) Condition Holds each = tt
on_did-given (Met limit) Condition Holds each = tt

-- commands -----------------------------------------------------------------------------------------------------------------

-- `P` of each command without a block, at any nesting
unfoldable mutual
  pub CommandHolds : (Action → Type 0) → Command → Type 0
  CommandHolds P (Simple line action) = P action
  CommandHolds P (Each line block end_line) = BlockHolds P block
  CommandHolds P (When line condition block end_line) = BlockHolds P block

  pub BlockHolds : (Action → Type 0) → Block → Type 0
  BlockHolds P NoMore = ⊤
  BlockHolds P (Then command others) = CommandHolds P command × BlockHolds P others

module _ (P : Action → Type 0) (each : (action : Action) → P action) where
  mutual
    unfolding CommandHolds

    pub command-so : (command : Command) → CommandHolds P command
    command-so (Simple line action) = each action
    command-so (Each line block end_line) = block-so block
    command-so (When line condition block end_line) = block-so block

    pub block-so : (block : Block) → BlockHolds P block
    block-so NoMore = tt
    block-so (Then command others) = (command-so command, block-so others)

-- `P` of each command of a handler, if there is one
abbrev pub HandlerHolds : (Action → Type 0) → Script → Option ℕ → Type 0
HandlerHolds P script handler = IfSome handler (λ h. BlockHolds P (handler_block script h))

pub handler-so : (script : Script) (handler : Option ℕ) → HandlerHolds (λ (action : Action). ⊤) script handler
handler-so script None = tt
handler-so script (Some h) = block-so (λ (action : Action). ⊤) (λ action. tt) (handler_block script h)

abbrev pub moment_of : World → Present → Command → Moment
moment_of world present command = record { world = counted world; present = present; command = command }

-- `R` over a command that `Fits`, at an entry that `In` holds of: what it says, with its moment
pub record IsAlong (script : Script) (Fits : Action → Type 0) (In : Present → Type 0) (R : World → List TraceLine → List Moment → World → Type 0) : Type 0 where
  pub joined : IsJoined R
  pub plain : (world : World) (lines : List TraceLine) → AllByRecursion IsPlain lines → R world lines [] world
  pub begun : (world : World) (present : Present) (command : Command) → CommandHolds Fits command → In present → world.begun < limit_number (world.version) limits.Commands →
      R world [] (moment_of world present command ∷ []) (counted world)
  pub does : (line : ℕ) (action : Action) (present : Present) (world : World) → Fits action → In present → world.begun < limit_number (world.version) limits.Commands →
      OnDid (does (handler_names script) (counted world) present action)
      (λ effect. R world (effect.lines) (moment_of world present (Simple line action) ∷ []) (effect.world))
  pub none : In NoEntry

module _ (script : Script) (Fits : Action → Type 0) (In : Present → Type 0) (R : World → List TraceLine → List Moment → World → Type 0)
    (along : IsAlong script Fits In R) where
  once-along : (line : ℕ) (world : World) (run : World → Said World) (list : World → List Moment) →
      (world.begun < limit_number (world.version) limits.Commands → Runs R world (list (counted world)) (run (counted world))) →
      Runs R world (where_did (begun_in world) list) (once_begun line world run)
  unfolding once_begun begun_in
  once-along line world run list each =
      answered-along R line world run list (λ refusal is. along.plain world (refusal ∷ []) (is, tt)) (begun_in world)
      (room-then limits.Commands (world.begun) (limit_number (world.version) limits.Commands) _ _ (λ room. did (counted world) _ (each room)))

  simple-along : (line : ℕ) (world : World) (moment : Moment) → R world [] (moment ∷ []) (counted world) → (step : Step Effect) →
      OnDid step (λ effect. R world (effect.lines) (moment ∷ []) (effect.world)) → Runs R world (moment ∷ []) (answered line (counted world) said_by step)
  unfolding answered OnDid
  simple-along line world moment begun (Did effect) there = there
  simple-along line world moment begun (Threw exception) there =
      along.joined.both world (counted world) (counted world) [] _ (moment ∷ []) [] begun (along.plain (counted world) (ThrowLine line exception ∷ []) (refl, tt))
  simple-along line world moment begun (Met limit) there =
      along.joined.both world (counted world) (counted world) [] _ (moment ∷ []) [] begun (along.plain (counted world) (LimitLine limit line _ ∷ []) (refl, tt))

  module _ (entries : List Present) (are : AllByRecursion In entries) where
    mutual
      unfolding run_command command_moments CommandHolds

      pub command-along : (command : Command) (present : Present) (world : World) → CommandHolds Fits command → In present →
          Runs R world (command_moments script entries command present world) (run_command script entries command present world)
      command-along (Simple line action) present world fits is =
          once-along line world _ (λ begun. record { world = begun; present = present; command = Simple line action } ∷ []) λ room.
          simple-along line world (moment_of world present (Simple line action)) (along.begun world present (Simple line action) fits is room) _
          (along.does line action present world fits is room)
      command-along (Each line block end_line) present world fits is =
          once-along line world _ _ λ room.
          along.joined.both world (counted world) _ [] _ (moment_of world present (Each line block end_line) ∷ []) _
          (along.begun world present (Each line block end_line) fits is room)
          (each-along R (along.joined) In (run_block script entries block) (block_moments script entries block) entries are
          (λ each now is-each. block-along block each now fits is-each) (counted world))
      command-along (When line condition block end_line) present world fits is =
          once-along line world _ _ λ room.
          along.joined.both world (counted world) _ [] _ (moment_of world present (When line condition block end_line) ∷ []) _
          (along.begun world present (When line condition block end_line) fits is room)
          (answered-along R line (counted world) _ (listed_if (block_moments script entries block present) (counted world))
          (λ refusal plain. along.plain (counted world) (refusal ∷ []) (plain, tt)) (holds (counted world) present condition)
          (on_did-all (holds (counted world) present condition) _ (λ answer.
          if-along R (along.joined) (run_block script entries block present) (block_moments script entries block present) (counted world) answer
          (λ held. block-along block present (counted world) fits is))))

      pub block-along : (block : Block) (present : Present) (world : World) → BlockHolds Fits block → In present →
          Runs R world (block_moments script entries block present world) (run_block script entries block present world)
      block-along NoMore present world fits is = along.joined.none world
      block-along (Then command others) present world fits is =
          then-along R (along.joined) world (command_moments script entries command present world) (run_block script entries others present)
          (block_moments script entries others present) (run_command script entries command present world) (command-along command present world (fits.0) is)
          (λ now. block-along others present now (fits.1) is)

  handler-along : (handed : Entries) → AllByRecursion In (presents handed) → (handler : Option ℕ) → HandlerHolds Fits script handler → (world : World) →
      Runs R world (handler_moments script handed handler world) (run_handler script handed handler world)
  unfolding caught
  handler-along handed are None fits world = along.joined.none world
  handler-along handed are (Some handler) fits world = block-along (presents handed) are (handler_block script handler) NoEntry world fits along.none

  pub call-along : (document : ℕ) (handler : Option ℕ) (handed : Entries) (world : World) → AllByRecursion In (presents handed) → HandlerHolds Fits script handler →
      Runs R world (call_moments script document handler handed world) (call script document handler handed world)
  unfolding call call_moments ◌followed_by◌ follow
  call-along document handler handed world are fits =
      if-along R (along.joined) (λ now. say (entry_lines (now.version) (now.names) handed) now followed_by run_handler script handed handler)
      (handler_moments script handed handler) world (is_active (world.tree) document)
      (λ is. along.joined.both world world _ (entry_lines (world.version) (world.names) handed) _ [] _
      (along.plain world (entry_lines (world.version) (world.names) handed) (entries-plain (world.version) (world.names) handed))
      (handler-along handed are handler fits world))

-- of any command, at any entry
module _ (script : Script) (R : World → List TraceLine → List Moment → World → Type 0) (along : IsAlong script (λ (action : Action). ⊤) (λ (present : Present). ⊤) R) where
  pub any-command : (entries : List Present) (command : Command) (present : Present) (world : World) →
      Runs R world (command_moments script entries command present world) (run_command script entries command present world)
  any-command entries command present world =
      command-along script _ _ R along entries (all-so entries) command present world (command-so (λ (action : Action). ⊤) (λ action. tt) command) tt

  pub any-block : (entries : List Present) (block : Block) (present : Present) (world : World) →
      Runs R world (block_moments script entries block present world) (run_block script entries block present world)
  any-block entries block present world =
      block-along script _ _ R along entries (all-so entries) block present world (block-so (λ (action : Action). ⊤) (λ action. tt) block) tt

  pub any-call : (document : ℕ) (handler : Option ℕ) (handed : Entries) (world : World) →
      Runs R world (call_moments script document handler handed world) (call script document handler handed world)
  any-call document handler handed world = call-along script _ _ R along document handler handed world (all-so (presents handed)) (handler-so script handler)

-- no line of a resize loop is said
module _ (script : Script) where
  lines-along : IsAlong script (λ (action : Action). ⊤) (λ (present : Present). ⊤)
      (λ (before : World) (lines : List TraceLine) (moments : List Moment) (now : World). AllByRecursion IsPlain lines)
  lines-along = record {
    joined = lines-joined IsPlain;
    plain = λ world lines plain. plain;
    begun = λ world present command fits is room. tt;
    does = λ line action present world fits is room. does-plain (handler_names script) (counted world) present action;
    none = tt;
  }

  command-plain : (entries : List Present) (command : Command) (present : Present) (world : World) →
      AllByRecursion IsPlain (run_command script entries command present world).lines
  command-plain = any-command script _ lines-along

  pub call-plain : (document : ℕ) (handler : Option ℕ) (handed : Entries) (world : World) → AllByRecursion IsPlain (call script document handler handed world).lines
  call-plain = any-call script _ lines-along

-- deliveries ---------------------------------------------------------------------------------------------------------------

abbrev pub count_of : Broadcast → ℕ
count_of so_far = length (so_far.world.resize_observers.made)

abbrev pub goes_of : ℕ → Broadcast → Bool
goes_of document so_far = is_active (so_far.world.tree) document

abbrev pub due_of : ℕ → ℕ → Broadcast → List Observation
due_of document observer so_far = due_at document observer (so_far.world.resize_observers)

abbrev pub step_of : Script → ℕ → ℕ → Broadcast → Said Broadcast
step_of script document observer so_far = deliver_some script document observer so_far (due_at document observer (so_far.world.resize_observers))

abbrev pub first_of : World → Broadcast
first_of world = record { world = world; shallowest = None }

pub broadcast-along : {B : Type 0} (script : Script) (document : ℕ) (R : Broadcast → List TraceLine → List B → Broadcast → Type 0) (joined : IsJoined R)
    (list : ℕ → Broadcast → List B) → ((observer : ℕ) (so_far : Broadcast) → Runs R so_far (list observer so_far) (step_of script document observer so_far)) →
    (world : World) → Runs R (first_of world) (along_places count_of (goes_of document) list (step_of script document) (first_of world)) (broadcast script document world)
unfolding broadcast
broadcast-along script document R joined list each world =
    places-along R joined count_of (goes_of document) (step_of script document) list each (first_of world)

-- `P` kept, and known, in `R`; `In k` of the entries of a callback where there are k elements
pub record IsDelivered (script : Script) (document : ℕ) (P : World → Type 0) (In : ℕ → Present → Type 0) (R : World → List TraceLine → List Moment → World → Type 0) : Type 0 where
  pub joined : IsJoined R
  pub due : (observer : ℕ) (world : World) → P world →
      AllByRecursion (λ (it : Observation). In (length world.tree.elements) (ResizeEntry (it.target))) (due_at document observer (world.resize_observers))
  pub calls : (observer : ℕ) (delivered : List Observation) (handed : Entries) (world : World) → AllByRecursion (In (length world.tree.elements)) (presents handed) →
      P world →
      let now = record world { resize_observers = with_reported (sight_of world) observer delivered (world.resize_observers) } in
      let handler = (resize_observer_at (world.resize_observers) observer).handler in
      P (call script document handler handed now).state × Runs R world (call_moments script document handler handed now) (call script document handler handed now)
  pub emptied : (observer : ℕ) (before world : World) (lines : List TraceLine) (moments : List Moment) → is_active (world.tree) document ≡ true →
      P world → R before lines moments world →
      let now = record world { resize_observers = without_active observer (world.resize_observers) } in
      P now × R before lines moments now

module _ (script : Script) (document : ℕ) (P : World → Type 0) (In : ℕ → Present → Type 0) (R : World → List TraceLine → List Moment → World → Type 0)
    (delivers : IsDelivered script document P In R) where
  all-sized : (k observer : ℕ) (world : World) (delivered : List Observation) → AllByRecursion (λ (it : Observation). In k (ResizeEntry (it.target))) delivered →
      AllByRecursion (In k) (presents (SizeEntries observer (map (size_entry (sight_of world)) delivered)))
  all-sized k observer world [] all = tt
  all-sized k observer world (x ∷ xs) all = (all.0, all-sized k observer world xs (all.1))

  abbrev Delivers : Broadcast → List TraceLine → List Moment → Broadcast → Type 0
  Delivers a lines moments b = P (a.world) → P (b.world) × R (a.world) lines moments (b.world)

  some-along : (observer : ℕ) (so_far : Broadcast) (delivered : List Observation) →
      AllByRecursion (λ (it : Observation). In (length so_far.world.tree.elements) (ResizeEntry (it.target))) delivered →
      Runs Delivers so_far (delivery_moments script document observer so_far delivered) (deliver_some script document observer so_far delivered)
  some-along observer so_far [] are = λ here. (here, delivers.joined.none (so_far.world))
  some-along observer so_far (first ∷ others) are = λ here.
      let world = so_far.world in
      let now = record world { resize_observers = with_reported (sight_of world) observer (first ∷ others) (world.resize_observers) } in
      let handler = (resize_observer_at (world.resize_observers) observer).handler in
      let handed = SizeEntries observer (map (size_entry (sight_of world)) (first ∷ others)) in
      let called = delivers.calls observer (first ∷ others) handed world (all-sized (length world.tree.elements) observer world (first ∷ others) are) here in
      by_state (call script document handler handed now).state (call script document handler handed now).lines
      (call_moments script document handler handed now) (is_active ((call script document handler handed now).state.tree) document) refl (called.0) (called.1)
    where
      by_state : (called : World) (lines : List TraceLine) (moments : List Moment) (active : Bool) → is_active (called.tree) document ≡ active → P called →
          R (so_far.world) lines moments called →
          P (cond active (record called { resize_observers = without_active observer (called.resize_observers) }) called)
          × R (so_far.world) lines moments (cond active (record called { resize_observers = without_active observer (called.resize_observers) }) called)
      by_state called lines moments true is held there = delivers.emptied observer (so_far.world) called lines moments is held there
      by_state called lines moments false is held there = (held, there)

  pub delivery-along : (observer : ℕ) (so_far : Broadcast) →
      Runs Delivers so_far (delivery_moments script document observer so_far (due_of document observer so_far)) (step_of script document observer so_far)
  delivery-along observer so_far = λ here.
      some-along observer so_far (due_of document observer so_far) (delivers.due observer (so_far.world) here) here

  delivers-joined : IsJoined Delivers
  delivers-joined = record {
    none = λ so_far here. (here, delivers.joined.none (so_far.world));
    both = λ a b c lines more xs ys one other. (while-joined P R (delivers.joined)).both (a.world) (b.world) (c.world) lines more xs ys one other;
  }

  pub broadcasts-along : (world : World) → Runs Delivers (first_of world) (broadcast_moments script document world) (broadcast script document world)
  unfolding broadcast_moments
  broadcasts-along world =
      broadcast-along script document Delivers delivers-joined
      (λ observer so_far. delivery_moments script document observer so_far (due_of document observer so_far)) delivery-along world

-- ticks ------------------------------------------------------------------------------------------------------------------------

-- `L` of the lines that are said and the loops that are listed
pub record IsTold (L : List TraceLine → List Loop → Type 0) : Type 0 where
  pub nothing : L [] []
  pub both : (lines more : List TraceLine) (loops others : List Loop) → L lines loops → L more others → L (lines ++ more) (loops ++ others)
  pub plain : (line : TraceLine) → IsPlain line → L (line ∷ []) []

-- what is asked of a page, and of callbacks and changes
pub record IsWalked (script : Script) (P : World → Type 0) (In : ℕ → Present → Type 0) : Type 0 where
  pub next : (before now : World) → IsNext before now → now.resize_observers ≡ before.resize_observers → P before → P now
  pub calls : (document : ℕ) (handler : Option ℕ) (handed : Entries) (world : World) → AllByRecursion (In (length world.tree.elements)) (presents handed) →
      P world → P (call script document handler handed world).state
  pub queued : (world : World) (observer : ℕ) → P world →
      AllByRecursion (λ (it : Entry). In (length world.tree.elements) (IntersectionEntry (it.target) (it.finding.meets)))
      (intersection_observer_at (world.intersection_observers) observer).queue
  pub due : (document observer : ℕ) (world : World) → P world →
      AllByRecursion (λ (it : Observation). In (length world.tree.elements) (ResizeEntry (it.target))) (due_at document observer (world.resize_observers))
  pub reported : (observer : ℕ) (delivered : List Observation) (world : World) → P world →
      P (record world { resize_observers = with_reported (sight_of world) observer delivered (world.resize_observers) })
  pub emptied : (document observer : ℕ) (world : World) → is_active (world.tree) document ≡ true → P world → P (record world { resize_observers = without_active observer (world.resize_observers) })
  pub gathered : (document depth : ℕ) (world : World) → P world → P (gather document depth world)

-- of a command outside handlers
abbrev pub IsOutsideKept : Script → (World → Type 0) → Item → Type 0
IsOutsideKept script P (Outside command) = (world : World) → P world → P (run_command script [] command NoEntry world).state
IsOutsideKept script P (Tick line time) = ⊤
IsOutsideKept script P (Handler line name block end_line) = ⊤

module _ (script : Script) (P : World → Type 0) (In : ℕ → Present → Type 0) (walked : IsWalked script P In) (L : List TraceLine → List Loop → Type 0) (told : IsTold L) where
  -- `P` kept, and `L` of the lines with these loops; and with none
  abbrev pub Lists : World → List TraceLine → List Loop → World → Type 0
  Lists a lines loops b = P a → P b × L lines loops

  abbrev Says : World → List TraceLine → List Loop → World → Type 0
  Says a lines loops b = P a → P b × L lines []

  abbrev pub Fine : World → Said World → Type 0
  Fine world said = P world → P (said.state) × L (said.lines) []

  lists-joined : IsJoined Lists
  lists-joined =
      while-joined P (λ (a : World) (lines : List TraceLine) (loops : List Loop) (b : World). L lines loops)
      (record { none = λ world. told.nothing; both = λ a b c lines more xs ys one other. told.both lines more xs ys one other })

  says-joined : IsJoined Says
  says-joined =
      while-joined P (λ (a : World) (lines : List TraceLine) (loops : List Loop) (b : World). L lines [])
      (record { none = λ world. told.nothing; both = λ a b c lines more xs ys one other. told.both lines more [] [] one other })

  abbrev none_of : World → List Loop
  none_of world = []

  pub then-fine : (world : World) (said : Said World) (rest : World → Said World) → Fine world said → ((now : World) → Fine now (rest now)) →
      Fine world (said followed_by rest)
  then-fine world said rest here each = then-along Says says-joined world [] rest none_of said here each

  if-fine : (step : World → Said World) (world : World) (test : Bool) → (test ≡ true → Fine world (step world)) → Fine world (only_if step world test)
  if-fine step world test there = if-along Says says-joined step none_of world test there

  each-fine : {A : Type 0} (step : A → World → Said World) (items : List A) → ((item : A) (now : World) → Fine now (step item now)) → (world : World) →
      Fine world (for_each step items world)
  each-fine {A = A} step items each world =
      each-along Says says-joined (λ (item : A). ⊤) step (λ item. none_of) items (all-so items) (λ item now is. each item now) world

  repeat-fine : (goes : World → Bool) (step : World → Said World) → ((now : World) → Fine now (step now)) → (world : World) →
      Fine world (repeat goes step most_steps world)
  repeat-fine goes step each world = repeat-along Says says-joined goes step none_of most_steps (λ now is. each now) world

  -- lines, callbacks and events

  plain-told : (lines : List TraceLine) → AllByRecursion IsPlain lines → L lines []
  plain-told [] plain = told.nothing
  plain-told (line ∷ lines) plain = told.both (line ∷ []) lines [] [] (told.plain line (plain.0)) (plain-told lines (plain.1))

  called-fine : (document : ℕ) (handler : Option ℕ) (handed : Entries) (world : World) → AllByRecursion (In (length world.tree.elements)) (presents handed) →
      Fine world (call script document handler handed world)
  called-fine document handler handed world are here =
      (walked.calls document handler handed world are here, plain-told _ (call-plain script document handler handed world))

  call-fine : (document : ℕ) (handler : Option ℕ) (world : World) → Fine world (call script document handler NoEntries world)
  call-fine document handler world = called-fine document handler NoEntries world tt

  invoke-fine : (target : EventTarget) (event : EventKind) (world : World) → Fine world (invoke script target event world)
  unfolding invoke
  invoke-fine target event world =
      each-fine (notify_listener script) (listeners_of target event (world.listeners))
      (λ listener now. if-fine (call script (document_of_target now (listener.target)) (Some (listener.handler)) NoEntries) now
      (listener_stands listener (now.listeners)) (λ is. call-fine (document_of_target now (listener.target)) (Some (listener.handler)) now)) world

  bubble-fine : (target : EventTarget) (event : EventKind) (world : World) → Fine world (bubble script target event world)
  bubble-fine (DocumentTarget document) events.Scroll world = invoke-fine (WindowTarget document) events.Scroll world
  bubble-fine target event world = says-joined.none world

  fire-fine : (event : FiredEvent) (target : EventTarget) (name : EventKind) → L (EventLine event ∷ []) [] → (world : World) →
      Fine world (fire script event target name world)
  unfolding fire
  fire-fine event target name may world =
      then-fine world (say (EventLine event ∷ []) world followed_by invoke script target name) (bubble script target name)
      (then-fine world (say (EventLine event ∷ []) world) (invoke script target name) (λ here. (here, may)) (invoke-fine target name))
      (bubble-fine target name)

  -- behind a change: alone, with lines and a callback, and with an event
  from : (before now : World) (said : Said World) → IsNext before now → now.resize_observers ≡ before.resize_observers → Fine now said → Fine before said
  from before now said next same fine here = fine (walked.next before now next same here)

  call-behind : (before now : World) (lines : List TraceLine) → IsNext before now → now.resize_observers ≡ before.resize_observers → AllByRecursion IsPlain lines →
      (document handler : ℕ) → Fine before (say lines now followed_by call script document (Some handler) NoEntries)
  call-behind before now lines next same plain document handler =
      from before now (say lines now followed_by call script document (Some handler) NoEntries) next same
      (then-fine now (say lines now) (call script document (Some handler) NoEntries) (λ here. (here, plain-told lines plain)) (call-fine document (Some handler)))

  fire-behind : (before now : World) → IsNext before now → now.resize_observers ≡ before.resize_observers → (event : FiredEvent) (target : EventTarget) (name : EventKind) →
      IsPlain (EventLine event) → (test : Bool) → Fine before (only_if (fire script event target name) now test)
  fire-behind before now next same event target name plain test =
      from before now (only_if (fire script event target name) now test) next same
      (if-fine (fire script event target name) now test (λ is. fire-fine event target name (told.plain (EventLine event) plain) now))

  -- timers, and the parts of an update

  active-plain : (tree : Tree) (document : ℕ) (line : TraceLine) → IsPlain line → AllByRecursion IsPlain (line_while_active tree document line)
  active-plain tree document line plain = by (is_active tree document)
    where
      by : (active : Bool) → AllByRecursion IsPlain (cond active (line ∷ []) [])
      by true = (plain, tt)
      by false = tt

  timer-fine : (timer : Timer) (world : World) → Fine world (run_timer script timer world)
  timer-fine timer world =
      call-behind world (record world { timers = timer_taken (timer.serial) (world.timers) }) _ (timer-next world (timer.serial)) refl
      (active-plain (world.tree) (timer.document) (TimerLine (document_text (world.names) (timer.document)) (timer.key)) refl) (timer.document) (timer.handler)

  timers-fine : (world : World) → Fine world (run_timers script world)
  unfolding run_timers
  timers-fine world =
      each-fine (λ timer now. only_if (run_timer script timer) now (timer_stands timer (now.timers))) (due_timers (world.clock) (world.timers))
      (λ timer now. if-fine (run_timer script timer) now (timer_stands timer (now.timers)) (λ is. timer-fine timer now)) world

  size-fine : (document : ℕ) (world : World) → is_active (world.tree) document ≡ true → Fine world (resize_steps script document world)
  unfolding resize_steps
  size-fine document world is =
      let size = viewport_of (world.tree) (world.viewports.screen) document in
      fire-behind world (record world { viewports = with_noted document size (world.viewports) }) (noted-next world document size (active-in (world.tree) document is)) refl
      (FiredResize (document_text (world.names) document)) (WindowTarget document) events.Resize refl (differs_from size (noted_size document (world.viewports)))

  scroll-fine : (document : ℕ) (world : World) → is_active (world.tree) document ≡ true → Fine world (scroll_steps script document world)
  unfolding scroll_steps
  scroll-fine document world is =
      let now = record world { scrolls = without_pending document (world.scrolls) } in
      from world now (scroll_steps script document world) (pending-next world document) refl
      (each-fine
      (λ target. while_active document (λ now. fire script (FiredScroll (container_text (now.names) target)) (event_target_of target) events.Scroll now))
      (pending_of document (world.scrolls))
      (λ target now. if-fine (λ now. fire script (FiredScroll (container_text (now.names) target)) (event_target_of target) events.Scroll now) now
      (is_active (now.tree) document)
      (λ is. fire-fine (FiredScroll (container_text (now.names) target)) (event_target_of target) events.Scroll (told.plain _ refl) now)) now)

  evaluated-fine : (query : ℕ) (matched : Bool) (world : World) → Fine world (evaluated script query matched world)
  evaluated-fine query matched world =
      fire-behind world (record world { queries = with_state matched query (world.queries) }) (matched-next world matched query) refl
      (FiredChange (query_list_text (world.names) query) matched) (QueryTarget query) events.Change refl
      (not (is_same_bool matched (query_list_at (world.queries) query).matched))

  media-fine : (document : ℕ) (world : World) → is_active (world.tree) document ≡ true → Fine world (media_steps script document world)
  unfolding media_steps
  media-fine document world is =
      places-along Says says-joined (λ now. length (now.queries)) (λ now. is_active (now.tree) document) (evaluate script document) (λ query. none_of)
      (λ query now. if-fine (λ each. evaluated script query (matches_now each document (query_list_at (now.queries) query).query) each) now
      ((query_list_at (now.queries) query).document == document)
      (λ is. evaluated-fine query (matches_now now document (query_list_at (now.queries) query).query) now)) world

  callback-fine : (callback : FrameCallback) (world : World) → Fine world (run_frame_callback script callback world)
  callback-fine callback world =
      call-behind world (record world { frame_callbacks = frame_callback_taken (callback.serial) (world.frame_callbacks) }) _ (frame-next world (callback.serial)) refl
      (refl, tt) (callback.document) (callback.handler)

  frames-fine : (document : ℕ) (world : World) → is_active (world.tree) document ≡ true → Fine world (frame_steps script document world)
  unfolding frame_steps
  frames-fine document world is =
      each-fine (λ callback now. only_if (run_frame_callback script callback) now
      (is_active (now.tree) document && frame_callback_stands callback (now.frame_callbacks)))
      (frame_callbacks_of document (world.frame_callbacks))
      (λ callback now. if-fine (run_frame_callback script callback) now
      (is_active (now.tree) document && frame_callback_stands callback (now.frame_callbacks)) (λ is. callback-fine callback now)) world

  notified-same : (already : Bool) (document : ℕ) (world : World) → (with_notify_task document already world).resize_observers ≡ world.resize_observers
  notified-same true document world = refl
  notified-same false document world = refl

  update-same : (document : ℕ) (world : World) → (update_intersections document world).resize_observers ≡ world.resize_observers
  unfolding update_intersections
  update-same document world =
      by (settling (world.clock) (found_now world) (watchers (world.tree) document (world.intersection_observers)) (world.intersection_observers))
      (list_any (has_queued (world.intersection_observers)
      (settling (world.clock) (found_now world) (watchers (world.tree) document (world.intersection_observers)) (world.intersection_observers)))
      (watchers (world.tree) document (world.intersection_observers)))
    where
      by : (it : IntersectionObservers) (test : Bool) →
          (cond test (with_notify_task document (is_notifying document (world.notifying)) (record world { intersection_observers = it }))
          (record world { intersection_observers = it })).resize_observers ≡ world.resize_observers
      by it true = notified-same (is_notifying document (world.notifying)) document (record world { intersection_observers = it })
      by it false = refl

  cuts-fine : (document : ℕ) (world : World) → is_active (world.tree) document ≡ true → Fine world (intersection_steps document world)
  cuts-fine document world is here =
      (walked.next world _ (update-next document world (active-in (world.tree) document is)) (update-same document world) here, told.nothing)

  over-fine : (part : ℕ → World → Said World) → ((document : ℕ) (now : World) → is_active (now.tree) document ≡ true → Fine now (part document now)) →
      (documents : List ℕ) (world : World) → Fine world (over documents part world)
  over-fine part each documents world =
      each-fine (λ document. while_active document (part document)) documents
      (λ document now. if-fine (part document) now (is_active (now.tree) document) (each document now)) world

  -- tasks

  queue-fine : (entries : List Entry) (observer : ℕ) (world : World) →
      AllByRecursion (λ (it : Entry). In (length world.tree.elements) (IntersectionEntry (it.target) (it.finding.meets))) entries →
      Fine world (take_queue script entries observer world)
  queue-fine [] observer world are = says-joined.none world
  queue-fine (entry ∷ entries) observer world are =
      let it = intersection_observer_at (world.intersection_observers) observer in
      let without = record world { intersection_observers = without_queue observer (world.intersection_observers) } in
      from world without (take_queue script (entry ∷ entries) observer world) (queue-next world observer) refl
      (called-fine (it.document) (it.handler) (CutEntries observer (entry ∷ entries)) without (all-cut (entry ∷ entries) are))
    where
      all-cut : (these : List Entry) → AllByRecursion (λ (it : Entry). In (length world.tree.elements) (IntersectionEntry (it.target) (it.finding.meets))) these →
          AllByRecursion (In (length world.tree.elements)) (presents (CutEntries observer these))
      all-cut [] all = tt
      all-cut (x ∷ xs) all = (all.0, all-cut xs (all.1))

  first-fine : (tasks : List Task) (world : World) → world.tasks ≡ tasks → Fine world (run_first script tasks world)
  unfolding notify
  first-fine [] world are = says-joined.none world
  first-fine (Notify document ∷ others) world are = λ here.
      if-fine (notify_watchers script document) (record world { tasks = others }) (is_active (world.tree) document)
      (λ is there. each-fine (notify_watcher script) (watchers (world.tree) document (world.intersection_observers))
      (λ observer now held. queue-fine (intersection_observer_at (now.intersection_observers) observer).queue observer now (walked.queued now observer held) held)
      (record world { tasks = others; notifying = without_notifying document (world.notifying) })
      (walked.next world _ (unnotified-next world document others are) refl here))
      (walked.next world _ (tasks-next world (Notify document) others are) refl here)
  first-fine (Posted document handler ∷ others) world are =
      call-behind world (record world { tasks = others }) _ (tasks-next world (Posted document handler) others are) refl
      (active-plain (world.tree) document (TaskLine (document_text (world.names) document) (handler_text script handler)) refl) document handler

  tasks-fine : (world : World) → Fine world (run_tasks script world)
  unfolding run_tasks
  tasks-fine world = repeat-fine (λ now. has_tasks (now.tasks)) (λ now. run_first script (now.tasks) now) (λ now. first-fine (now.tasks) now refl) world

  -- a resize loop

  pub delivers-fine : (document : ℕ) → IsDelivered script document P In (λ (a : World) (lines : List TraceLine) (moments : List Moment) (b : World). L lines [])
  delivers-fine document = record {
    joined = record { none = λ world. told.nothing; both = λ a b c lines more xs ys one other. told.both lines more [] [] one other };
    due = walked.due document;
    calls = λ observer delivered handed world are here. called-fine document _ handed _ are (walked.reported observer delivered world here);
    emptied = λ observer before world lines moments is here there. (walked.emptied document observer world is here, there);
  }

  module _ (rounds : (text : List ℕ) (depth : ℕ) → L (RoundLine text depth ∷ []) []) (document : ℕ) where
    pub round-fine : (world : World) → Fine world (round script document world)
    round-fine world =
        then-along (λ (a : Broadcast) (lines : List TraceLine) (loops : List Loop) (b : Broadcast). Says (a.world) lines loops (b.world))
        (record {
          none = λ so_far. says-joined.none (so_far.world);
          both = λ a b c lines more xs ys one other. says-joined.both (a.world) (b.world) (c.world) lines more xs ys one other;
        })
        (first_of world) [] (λ so_far. only_if (round_ended document) so_far (is_active (so_far.world.tree) document)) (λ so_far. [])
        (broadcast script document world) (broadcasts-along script document P In _ (delivers-fine document) world)
        (λ so_far. ended so_far (is_active (so_far.world.tree) document))
      where
        ended : (so_far : Broadcast) (active : Bool) → P (so_far.world) →
            P (only_if (round_ended document) so_far active).state.world × L (only_if (round_ended document) so_far active).lines []
        ended so_far true here = (walked.gathered document _ (so_far.world) here, rounds _ _)
        ended so_far false here = (here, told.nothing)

    pub rounds-fine : (world : World) → Fine world (resize_rounds script document world)
    unfolding resize_rounds rounds_up_to
    rounds-fine world here = repeat-fine (goes_on document) (round script document) round-fine (gather document 0 world) (walked.gathered document 0 world here)

    pub error-fine : ((text : List ℕ) → L (EventLine (FiredError text) ∷ []) []) → (world : World) → Fine world (fire_error script document world)
    error-fine errors world = fire-fine (FiredError (document_text (world.names) document)) (WindowTarget document) events.Error (errors _) world

    pub loop-fine : ((text : List ℕ) → L (EventLine (FiredError text) ∷ []) []) → (world : World) → Fine world (resize_loop script document world)
    unfolding resize_loop resize_rounds rounds_up_to
    loop-fine errors world =
        then-fine world (resize_rounds script document world) (report_skipped script document) (rounds-fine world)
        (λ now. if-fine (fire_error script document) now (is_active (now.tree) document && has_skipped document (now.resize_observers)) (λ is. error-fine errors now))

  -- the whole, where each loop is listed

  module _ (loops : (document : ℕ) (world : World) → P world →
      P (resize_loop script document world).state × L (resize_loop script document world).lines (record { document = document; world = world } ∷ [])) where
    documents-along : (documents : List ℕ) (world : World) → Runs Lists world (document_loops script documents world) (over documents (resize_loop script) world)
    unfolding document_loops
    documents-along documents world =
        each-along Lists lists-joined (λ (document : ℕ). ⊤) (λ document. while_active document (resize_loop script document))
        (λ document now. listed_if (λ at. record { document = document; world = at } ∷ []) now (is_active (now.tree) document)) documents (all-so documents)
        (λ document now is. if-along Lists lists-joined (resize_loop script document) (λ at. record { document = document; world = at } ∷ []) now
        (is_active (now.tree) document) (λ active. loops document now)) world

    behind-along : (documents : List ℕ) (world : World) →
        Runs Lists world (document_loops script documents world) (for_each (over documents) (resize_loop script ∷ intersection_steps ∷ []) world)
    unfolding for_each
    behind-along documents world =
        then-behind Lists lists-joined world (document_loops script documents world) (for_each (over documents) (intersection_steps ∷ []))
        (over documents (resize_loop script) world) (documents-along documents world)
        (λ now. then-fine now (over documents intersection_steps now) (λ it. silent it) (over-fine intersection_steps cuts-fine documents now) (λ it. says-joined.none it))

    update-along : (world : World) → Runs Lists world (update_loops script world) (update_rendering script world)
    unfolding update_rendering update_loops
    update-along world =
        let documents = active_documents (world.tree) in
        split-along Lists lists-joined (λ (part : ℕ → World → Said World). (now : World) → Fine now (over documents part now)) (over documents)
        (resize_loop script ∷ intersection_steps ∷ []) (document_loops script documents) (behind-along documents) (λ part now fine. fine now) (earlier_parts script) (
          over-fine (resize_steps script) size-fine documents,
          (
            over-fine (scroll_steps script) scroll-fine documents,
            (over-fine (media_steps script) media-fine documents, (over-fine (frame_steps script) frames-fine documents, tt)),
          ),
        ) world

    pub tick-along : (world : World) → Runs Lists world (tick_loops script world) (tick script world)
    unfolding tick tick_loops ◌followed_by◌ follow
    tick-along world =
        let begins = say (TickLine (world.clock) ∷ []) world followed_by run_timers script in
        then-behind Lists lists-joined world (tick_loops script world) (run_tasks script) (begins followed_by update_rendering script)
        (then-along Lists lists-joined world [] (update_rendering script) (update_loops script) begins
        (then-fine world (say (TickLine (world.clock) ∷ []) world) (run_timers script) (λ here. (here, told.plain (TickLine (world.clock)) refl)) timers-fine)
        update-along)
        tasks-fine

    module _ (counts : (world : World) → world.begun < limit_number (world.version) limits.Commands → P world → P (counted world))
        (timed : (time : ℕ) (world : World) → P world → P (record world { clock = time })) where
      pub item-along : (item : Item) → IsOutsideKept script P item → (world : World) → Runs Lists world (item_loops script item world) (run_item script item world)
      unfolding run_item caught once_begun begun_in
      item-along (Outside command) outside world = λ here. (outside world here, plain-told _ (command-plain script [] command NoEntry world))
      item-along (Tick line time) outside world =
          answered-along Lists line world _ _ (λ refusal plain here. (here, told.plain refusal plain)) (begun_in world)
          (room-then limits.Commands (world.begun) (limit_number (world.version) limits.Commands) _ _ (λ room. did (counted world) _ (λ here.
          answered-along Lists line (counted world) (tick script) (tick_loops script) (λ refusal plain here. (here, told.plain refusal plain))
          (time_set time (counted world))
          (time-kept (λ now. Runs Lists (counted world) (tick_loops script now) (tick script now)) (counted world) time
          (λ later there. tick-along (record world { begun = suc world.begun; clock = time }) (timed time (counted world) there)))
          (counts world room here))))
      item-along (Handler line name block end_line) outside world = lists-joined.none world

      pub items-along : (items : List Item) → AllByRecursion (IsOutsideKept script P) items → (world : World) →
          Runs Lists world (along_each (item_loops script) (run_item script) items world) (for_each (run_item script) items world)
      items-along items all world =
          each-along Lists lists-joined (IsOutsideKept script P) (run_item script) (item_loops script) items all (λ item now outside. item-along item outside now) world
