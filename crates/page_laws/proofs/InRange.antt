-- Each change that a command makes leaves the numbers of a world in range.
use Rattle.std.specs.Prelude.{ℕ, ◌≤◌, Bool, true, false, cond, List, [], ◌∷◌, length, find, option_map, Some, IfSome}
use Rattle.std.specs.List.{AllByRecursion}
use Rattle.script_model.specs.Syntax.{Action}
use Rattle.page_model.specs.World.{ElementThing, Root, ImplicitRoot, DocumentRoot, ElementRoot, Name, EventTarget, ElementTarget, DocumentTarget, WindowTarget, QueryTarget, Task, Listener, FrameCallback, Timer, Table, Viewports, World}
use Rattle.page_model.specs.Operands.{Present, NoEntry, ResizeEntry, IntersectionEntry, Handlers, present_target}
use Rattle.page_model.specs.Commands.{does}
use Rattle.page_model.specs.Ranges.{Counts, counts_of, IsThingIn, IsRootIn, IsEventTargetIn, IsListenerIn, IsFrameCallbackIn, IsTimerIn, IsTaskIn, IsInRange, IsPresentIn}
use Rattle.page_laws.specs.Successors.{OnDid}
use Rattle.page_laws.proofs.Steps.{on_did-map}
use Rattle.page_laws.proofs.Lists.{all-add}
use Rattle.page_laws.specs.Changed.{target_thing, IsRootOf, Change, Unchanged, ScreenSet, TreeChanged, ElementMade, FrameMade, Scrolled, ResizeObserverMade, ResizeChanged, IntersectionObserverMade, IntersectionsChanged, QueryListMade, ListenersChanged, FrameCallbacksChanged, TimersChanged, TaskPosted}
use Rattle.page_laws.proofs.Commands.{does-change}
use Rattle.page_laws.proofs.Ranges.{tree-in, resize-in, intersection-in}
use Rattle.page_laws.proofs.Trees.{edited}
use Rattle.page_laws.proofs.Made.{made-in, frame-in, resize-made-in, intersection-made-in, query-made-in}
use Rattle.page_laws.proofs.Parts.{resize-kept, intersections-kept, table-kept, scroll-in}

-- names

found-step : (counts : Counts) (p : Name → Bool) (x : Name) (xs : List Name) (passes : Bool) → IsThingIn counts (x.thing) →
    IfSome (option_map (λ (named : Name). named.thing) (find p xs)) (IsThingIn counts) →
    IfSome (option_map (λ (named : Name). named.thing) (cond passes (Some x) (find p xs))) (IsThingIn counts)
found-step counts p x xs true is others = is
found-step counts p x xs false is others = others

name-in : (counts : Counts) (p : Name → Bool) (xs : List Name) → AllByRecursion (λ (named : Name). IsThingIn counts named.thing) xs →
    IfSome (option_map (λ (named : Name). named.thing) (find p xs)) (IsThingIn counts)
name-in counts p [] all = tt
name-in counts p (x ∷ xs) all = found-step counts p x xs (p x) (all.0) (name-in counts p xs (all.1))

-- tables, tasks and viewports

module _ (handlers : ℕ) (world : World) (within : IsInRange handlers world) where
  pub listeners-in : (table : Table Listener) → AllByRecursion (IsListenerIn (counts_of handlers world)) table.held →
      IsInRange handlers (record world { listeners = table })
  listeners-in table all = search

  pub frame-callbacks-in : (table : Table FrameCallback) → AllByRecursion (IsFrameCallbackIn (counts_of handlers world)) table.held →
      IsInRange handlers (record world { frame_callbacks = table })
  frame-callbacks-in table all = search

  pub timers-in : (table : Table Timer) → AllByRecursion (IsTimerIn (counts_of handlers world)) table.held →
      IsInRange handlers (record world { timers = table })
  timers-in table all = search

  pub tasks-in : (tasks : List Task) → AllByRecursion (IsTaskIn (counts_of handlers world)) tasks → IsInRange handlers (record world { tasks = tasks })
  tasks-in tasks all = search

  pub viewports-in : (viewports : Viewports) → length viewports.noted ≤ length world.tree.documents →
      IsInRange handlers (record world { viewports = viewports })
  viewports-in viewports fits = search

-- commands

root-in : (counts : Counts) (root : Root) → IsRootOf (IsThingIn counts) root → IsRootIn counts root
root-in counts ImplicitRoot is = tt
root-in counts (DocumentRoot document) is = is
root-in counts (ElementRoot n) is = is

target-in : (counts : Counts) (target : EventTarget) → IsThingIn counts (target_thing target) → IsEventTargetIn counts target
target-in counts (ElementTarget n) is = is
target-in counts (DocumentTarget document) is = is
target-in counts (WindowTarget document) is = is
target-in counts (QueryTarget query) is = is

module _ (handlers : ℕ) (world : World) (within : IsInRange handlers world) where
  abbrev counts : Counts
  counts = counts_of handlers world

  pub change-in : {after : World} → Change (IsThingIn counts) handlers world after → IsInRange handlers after
  change-in Unchanged = within
  change-in (ScreenSet screen) = viewports-in handlers world within _ within.noted
  change-in (TreeChanged tree change) =
      let it = edited (world.tree) change in
      tree-in handlers world tree it.elements it.documents (it.within counts ((λ thing is. is), within.top, within.tree) within.tree) within
  change-in (ElementMade name kind document known) = made-in handlers world within name kind document known
  change-in (FrameMade name inside document known less) = frame-in handlers world within name inside document known
  change-in (Scrolled left top container target there is) = scroll-in handlers world within left top container target there is
  change-in (ResizeObserverMade name document handler known is less) = resize-made-in handlers world within name document handler known is
  change-in (ResizeChanged it change) = resize-in handlers world it (resize-kept counts (world.resize_observers) change) within
  change-in (IntersectionObserverMade name document handler root margins scroll_margins thresholds known is is_root) =
      intersection-made-in handlers world within name document handler root margins scroll_margins thresholds known is (root-in counts root is_root)
  change-in (IntersectionsChanged it change) = intersection-in handlers world it (intersections-kept counts (world.intersection_observers) change) within
  change-in (QueryListMade name document query matched known less) = query-made-in handlers world within name document query matched known
  change-in (ListenersChanged it change) =
      listeners-in handlers world within it
      (table-kept (IsListenerIn counts) (λ each is. (target-in counts (each.target) (is.0), is.1)) change within.listeners)
  change-in (FrameCallbacksChanged it change) =
      frame-callbacks-in handlers world within it (table-kept (IsFrameCallbackIn counts) (λ each is. is) change within.frame_callbacks)
  change-in (TimersChanged it change) = timers-in handlers world within it (table-kept (IsTimerIn counts) (λ each is. is) change within.timers)
  change-in (TaskPosted document handler known is less) = tasks-in handlers world within _ (all-add _ (world.tasks) _ within.tasks (known, is))

pub target-known : (handlers : ℕ) (world : World) (present : Present) → IsPresentIn world present →
    OnDid (present_target present) (λ n. IsThingIn (counts_of handlers world) (ElementThing n))
unfolding OnDid
target-known handlers world NoEntry is = tt
target-known handlers world (ResizeEntry target) is = is
target-known handlers world (IntersectionEntry target meets) is = is

-- what is done in a world in range, with things that there are
pub does-known : (handlers : Handlers) (world : World) → IsInRange (length handlers) world → (present : Present) (action : Action) → IsPresentIn world present →
    OnDid (does handlers world present action) (λ effect. Change (IsThingIn (counts_of (length handlers) world)) (length handlers) world (effect.world))
does-known handlers world within present action here =
    does-change handlers world present (IsThingIn (counts_of (length handlers) world))
    (λ name. name-in (counts_of (length handlers) world) _ (world.names) within.names) (target-known (length handlers) world present here) action

pub does-in : (handlers : Handlers) (world : World) → IsInRange (length handlers) world → (present : Present) (action : Action) → IsPresentIn world present →
    OnDid (does handlers world present action) (λ effect. IsInRange (length handlers) (effect.world))
does-in handlers world within present action here =
    on_did-map _ _ _ (λ effect change. change-in (length handlers) world within change) (does-known handlers world within present action here)
