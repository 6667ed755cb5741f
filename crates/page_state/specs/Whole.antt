-- The invariants of a page: one for each part that has one, and one for each pair of parts that must agree.
use Rattle.std.specs.Prelude.{◌≡◌, ℕ, ◌+◌, ◌≤◌, ◌<◌, Bool, true, cond, is_some, find, slice_get, List, length, Option, Some}
use Rattle.std.specs.List.{AllByRecursion}
use Rattle.std.specs.Option.{ForSome}
use Rattle.text_io.specs.declared.kinds.Version.{Version}
use Rattle.text_io.specs.declared.kinds.LimitKind.TheVariants as limits
use Rattle.text_io.specs.Limits.{limit_number}
use Rattle.page_model.specs.World.{Thing, Name, Listener, FrameCallback, Timer}
use Rattle.page_model.specs.Names.{is_same_thing, element_text}
use Rattle.page_model.specs.Ranges.{Counts, IsThingIn}
use Rattle.page_model.specs.Shown.{shown_with}
use Rattle.event_tables.specs.Tables.{Bounded}
use Rattle.event_tables.specs.Tasks.{WaitingTasks}
use Rattle.resize_observer.specs.Observers.{HeldObservers}
use Rattle.intersection_observer.specs.Watchers.{HeldWatchers}
use Rattle.page_boxes.specs.Pages.{IsScreen, seen_screen}
use Rattle.page_tree.specs.Items.{IsNatural}
use Rattle.px_units.specs.declared.Size.{Size}
use Rattle.page_tree.specs.Views.{PageElements}
use Rattle.page_names.specs.Things.{AreIn}
use Rattle.intersection_update.specs.Watching.{AreWatchers}
use Rattle.kept_findings.specs.Registered.{AreRegistered}
use Rattle.kept_findings.specs.Rooms.{HaveRoom}
use Rattle.page_state.specs.Quiet.{AreQuiet}
use Rattle.page_state.specs.Worlds.{counts_in}
use Rattle.page_state.specs.declared.page.Page.TheInside.{Inside}
use Rattle.page_state.specs.declared.queries.QueryList.{QueryList}

-- names and things: each name refers to a thing that exists, and each thing that exists has a name
pub record AreKnown (names : List Name) (counts : Counts) : Type 0 where
  pub there : AreIn counts names
  pub named : (thing : Thing) → IsThingIn counts thing → is_some (find (λ (named : Name). is_same_thing named.thing thing) names) ≡ true

-- names and tree: the tree holds the name of each element
pub record AreElementNames (names : List Name) (tree : PageElements) : Type 0 where
  pub count : length tree.names ≡ length tree.tree.elements
  pub each : (n : ℕ) → n < length tree.tree.elements → slice_get tree.names n ≡ Some (element_text names n)

-- the limits held in the parts are those of a script of this version
pub record AreLimited (version : Version) (watching : HeldObservers) (seeing : HeldWatchers) (hearing : Bounded Listener) (requested : Bounded FrameCallback) (set : Bounded Timer) (waiting : WaitingTasks) : Type 0 where
  pub observers : watching.most_observers ≡ limit_number version limits.ResizeObservers
  pub observations : watching.most_observations ≡ limit_number version limits.ResizeObservations
  pub watchers : seeing.most_watchers ≡ limit_number version limits.IntersectionObservers
  pub registrations : seeing.most_registrations ≡ limit_number version limits.IntersectionObservations
  pub listeners : hearing.most ≡ limit_number version limits.Listeners
  pub frame_callbacks : requested.most ≡ limit_number version limits.FrameCallbacks
  pub timers : set.most ≡ limit_number version limits.Timers
  pub tasks : waiting.most ≡ limit_number version limits.Tasks

-- a command gives at most one serial number of a table; one that was begun and isn't applied yet, which `flag` tells, may still
-- give one
pub record IsCounted (version : Version) (serials begun : ℕ) (flag : Bool) : Type 0 where
  pub given : serials + cond flag 1 0 ≤ begun
  pub limited : begun ≤ limit_number version limits.Commands

-- query lists and documents: each list belongs to a document that exists, and the number of lists is within the limit of the
-- version
pub record AreAsked (version : Version) (queries : List QueryList) (count : ℕ) : Type 0 where
  pub documents : AllByRecursion (λ (it : QueryList). it.document.0 < count) queries
  pub few : length queries ≤ limit_number version limits.Queries

pub record IsPage (page : Inside) : Type 0 where
  pub version : page.laid.elements.version ≡ page.version
  pub known : AreKnown page.names.list (counts_in page)
  pub elements : AreElementNames page.names.list page.laid.elements
  pub limited : AreLimited page.version page.observers page.watchers page.listeners page.frame_callbacks page.timers page.tasks
  pub observations : IsCounted page.version page.observers.part.given page.count page.begun
  pub registrations : IsCounted page.version page.watchers.part.given page.count page.begun
  pub listeners : IsCounted page.version page.listeners.part.given page.count page.begun
  pub frame_callbacks : IsCounted page.version page.frame_callbacks.part.given page.count page.begun
  pub timers : IsCounted page.version page.timers.part.given page.count page.begun
  pub watched : AreWatchers (length page.laid.elements.tree.elements) page.watchers.part.made
  pub margins : length page.scroll_margins.items ≡ length page.watchers.part.made
  pub registered : AreRegistered page.watchers.part page.scroll_margins.items page.findings
  pub room : HaveRoom (length page.laid.elements.tree.elements) (length page.laid.elements.tree.documents) page.findings
  pub quiet : AreQuiet page.settled (shown_with page.laid.elements.tree (seen_screen page.screen) page.scrolls) page.scroll_margins.items page.watchers.part page.findings
  pub asked : AreAsked page.version page.queries.items (length page.laid.elements.tree.documents)
  pub sized : IsScreen page.screen
  pub noted : AllByRecursion (λ (it : Option Size). ForSome it IsNatural) page.noted
  pub time : page.clock ≤ 1000000000000
