-- What commands come to once their operands are found.
use Rattle.std.proofs.Common.{◌≡◌, ℕ, List, [], ◌∷◌, Some, None, Result, Ok, Err, refl, ap, sym, subst, ◌<◌, Option, length, ℤ, ◌∙◌}
use Rattle.script_model.specs.Syntax.{Operand, Append, Before, Remove, Read, Say, TakeIntersections, ScrollTo, ScrollBy}
use Rattle.page_model.specs.World.{Tree, World, Container, Entry}
use Rattle.page_model.specs.Documents.{removed}
use Rattle.page_model.specs.Operands.{Handlers, Present, element_meant, container_meant, intersection_observer_named}
use Rattle.page_model.specs.Steps.{Step, Did, ◌>>=◌, becomes, writes, Effect as ModelEffect}
use Rattle.page_model.specs.Readings.{reading_of}
use Rattle.page_model.specs.Commands.{does, placing, with_tree, taking}
use Rattle.page_tree.specs.declared.faults.PlaceFault.{PlaceFault}
use Rattle.page_tree.specs.declared.faults.PlaceFault.TheVariants as place
use Rattle.page_tree.specs.Faults.{refusal}
use Rattle.kept_layout.specs.declared.slots.Slot.{Slot}
use Rattle.page_layout.specs.Views.{LaidElements}
use Rattle.page_state.specs.declared.answers.Effect.{Effect}
use Rattle.page_state.specs.declared.answers.Effect.TheVariants.{Nothing, Line, Taken}
use Rattle.intersection_observer.specs.declared.root.WatcherId.{WatcherId}
use Rattle.intersection_observer.specs.Watchers.{HeldWatchers}
use Rattle.intersection_update.specs.Watching.{AreWritten}
use Rattle.intersection_update.proofs.Watching.{queue_written}
use Rattle.script_model.specs.TraceLines.{TakeLine}
use Rattle.page_model.specs.EntryLines.{intersection_lines}
use Rattle.page_model.specs.Names.{intersection_observer_text}
use Rattle.page_model.specs.IntersectionObserving.{without_queue}
use Rattle.page_model.specs.Lookups.{intersection_observer_at}
use Rattle.page_model.specs.Scrolling.{scrolled_thing, scrolled_to, scrolled_by}
use Rattle.page_state.specs.Whole.{IsPage}
use Rattle.trace_text.specs.declared.TraceLine.TheVariants as trace
use Rattle.page_model.specs.Gathering.{gathering, sight_of}
use Rattle.page_model.specs.Loop.{gather}
use Rattle.page_state.specs.Faults.{misplaced}
use Rattle.page_state.specs.declared.page.Page.TheInside.{Inside}
use Rattle.page_state.specs.Worlds.{world_of, view_of}
use Rattle.page_state.specs.declared.answers.PageFault.{PageFault}
use Rattle.page_state.specs.Views.{PageView}
use Rattle.page_state.specs.Answers.{Applied, Keeps, Kept}

module _ (handlers : Handlers) (world : World) (present : Present) where
  module _ (node : Operand) (n : ℕ) (found : element_meant world.names present node ≡ Did n) where
    pub removes : does handlers world present (Remove node) ≡ becomes (record world { tree = removed (world.tree) n })
    unfolding does
    removes = λ i. found i >>= λ (m : ℕ). becomes (record world { tree = removed (world.tree) m })

    module _ (parent : Operand) (container : Container) (there : container_meant world.names present parent ≡ Did container) where
      pub appends : does handlers world present (Append parent node) ≡ with_tree world (placing container n None (world.tree))
      unfolding does
      appends = λ i. there i >>= λ (within : Container). found i >>= λ (m : ℕ). with_tree world (placing within m None (world.tree))

      pub inserts : (sibling : Operand) (s : ℕ) → element_meant world.names present sibling ≡ Did s
          → does handlers world present (Before parent node sibling) ≡ with_tree world (placing container n (Some s) (world.tree))
      unfolding does
      inserts sibling s other =
          λ i. there i >>= λ (within : Container). found i >>= λ (m : ℕ). other i >>= λ (next : ℕ). with_tree world (placing within m (Some next) (world.tree))

  pub reads : (of : Operand) (container : Container) → container_meant world.names present of ≡ Did container
      → does handlers world present (Read of) ≡ writes (reading_of (world.names) (world.tree) (world.viewports.screen) (world.scrolls) container ∷ []) world
  unfolding does
  reads of container there = λ i. there i >>= λ (within : Container). writes (reading_of (world.names) (world.tree) (world.viewports.screen) (world.scrolls) within ∷ []) world

-- what holds whatever handlers there are holds with these
pub kept_at : {old new : PageView} {result : Result Effect PageFault} {step : Handlers → Step ModelEffect} (handlers : Handlers) → Keeps old new result step → Kept old new result (step handlers)
kept_at handlers keeps = record { applied = keeps.applied handlers; begun = keeps.begun; handed = keeps.handed }

pub says : (handlers : Handlers) (view : PageView) (present : Present) (word : List ℕ) → Kept view view (Ok (Line (trace.Say word))) (does handlers view.world present (Say word))
unfolding does
says handlers view present word = record { applied = refl; begun = refl; handed = tt }

pub gathers : (document depth : ℕ) (world : World) → record world { resize_observers = gathering (sight_of world) document depth (world.resize_observers) } ≡ gather document depth world
unfolding gather
gathers document depth world = refl

-- the same step said otherwise
pub keeps_by : {old new : PageView} {result : Result Effect PageFault} {step step' : Handlers → Step ModelEffect} → Keeps old new result step → ((handlers : Handlers) → step' handlers ≡ step handlers)
    → Keeps old new result step'
keeps_by {old} {new} {result} keeps same = record {
  applied = λ handlers. subst (Applied result old.world new.world) (sym (same handlers)) (keeps.applied handlers);
  begun = keeps.begun;
  handed = keeps.handed;
}

-- what a page keeps of boxes makes no difference to what a command does
pub keeps_since : {old new : PageView} {kept : List Slot} {result : Result Effect PageFault} {step : Handlers → Step ModelEffect} → Keeps (record old { kept = kept }) new result step → Keeps old new result step
keeps_since keeps = record { applied = keeps.applied; begun = keeps.begun; handed = keeps.handed }

-- the tree is asked to be edited

refused_so : (fault : PlaceFault) (old new : World) (step : Step Tree) → step ≡ refusal fault → new ≡ old → Applied (Err (misplaced fault)) old new (with_tree old step)
unfolding with_tree ◌>>=◌
refused_so (place.Throw kind) old new step e same = (ap (with_tree old) e, same)
refused_so (place.Limit kind) old new step e same = (ap (with_tree old) e, same)

done_so : (old : World) (step : Step Tree) (tree : Tree) → step ≡ Did tree → with_tree old step ≡ becomes (record old { tree = tree })
unfolding with_tree ◌>>=◌
done_so old step tree e = ap (with_tree old) e

module _ (inside : Inside) (now : PageView) (view_is : view_of inside ≡ now) (after : LaidElements) (step : Tree → Step Tree) where
  abbrev then_is : PageView
  then_is = view_of (record inside { laid = after })

  pub edit_refused : (result : PageFault) (fault : PlaceFault) → result ≡ misplaced fault → step (inside.laid.elements.tree) ≡ refusal fault → after ≡ inside.laid
      → Keeps now then_is (Err result) (λ handlers. with_tree now.world (step now.world.tree))
  edit_refused result fault is e same =
      subst (λ (it : PageFault). Keeps now then_is (Err it) (λ handlers. with_tree now.world (step now.world.tree))) (sym is)
      (subst (λ (v : PageView). Keeps v then_is (Err (misplaced fault)) (λ handlers. with_tree v.world (step v.world.tree))) view_is
      (record {
        applied = λ handlers. refused_so fault (world_of inside) (world_of (record inside { laid = after })) (step (inside.laid.elements.tree)) e (ap (λ (it : LaidElements). world_of (record inside { laid = it })) same);
        begun = refl;
        handed = tt;
      }))

  pub edit_done : step (inside.laid.elements.tree) ≡ Did (after.elements.tree) → Keeps now then_is (Ok Nothing) (λ handlers. with_tree now.world (step now.world.tree))
  edit_done e =
      subst (λ (v : PageView). Keeps v then_is (Ok Nothing) (λ handlers. with_tree v.world (step v.world.tree))) view_is
      (record { applied = λ handlers. done_so (world_of inside) (step (inside.laid.elements.tree)) (after.elements.tree) e; begun = refl; handed = tt })

-- entries are taken out of a queue

takes : (handlers : Handlers) (world : World) (present : Present) (name : List ℕ) (o : ℕ) → intersection_observer_named world.names name ≡ Did o
    → does handlers world present (TakeIntersections name) ≡ taking world o (intersection_observer_at (world.intersection_observers) o).queue
unfolding does
takes handlers world present name o found = λ i. found i >>= λ (m : ℕ). taking world m (intersection_observer_at (world.intersection_observers) m).queue

module _ (page : Inside) (now : PageView) (view_is : view_of page ≡ now) (is : IsPage page) (present : Present) (name : List ℕ)
    (watcher : WatcherId) (entries : List Entry) (after : HeldWatchers) (found : intersection_observer_named now.world.names name ≡ Did watcher.0)
    (there : watcher.0 < length now.world.intersection_observers.made) (taken : entries ≡ (intersection_observer_at page.watchers.part watcher.0).queue)
    (emptied : after ≡ record (page.watchers) { part = without_queue watcher.0 (page.watchers.part) }) (count : length after.part.made ≡ length page.watchers.part.made) where
  abbrev emptied_is : PageView
  emptied_is = view_of (record page { watchers = after })

  names_here : intersection_observer_named page.names.list name ≡ Did watcher.0
  names_here = subst (λ (v : PageView). intersection_observer_named v.world.names name ≡ Did watcher.0) (sym view_is) found

  watcher_here : watcher.0 < length after.part.made
  watcher_here = subst (λ (most : ℕ). watcher.0 < most) (sym count) (subst (λ (v : PageView). watcher.0 < length v.world.intersection_observers.made) (sym view_is) there)

  pub taken_so : Keeps now emptied_is (Ok (Taken watcher entries)) (λ handlers. does handlers now.world present (TakeIntersections name))
  taken_so =
      subst (λ (v : PageView). Keeps v emptied_is (Ok (Taken watcher entries)) (λ handlers. does handlers v.world present (TakeIntersections name))) view_is
      (record {
        applied = λ handlers. takes handlers (world_of page) present name watcher.0 names_here
            ∙ (λ i. writes
            (TakeLine (intersection_observer_text page.names.list watcher.0) (length (sym taken i)) ∷ intersection_lines page.names.list watcher.0 (sym taken i))
            (world_of (record page { watchers = sym emptied i })));
        begun = refl;
        handed = (watcher_here, subst (λ (it : List Entry). AreWritten (length page.laid.elements.tree.elements) it) (sym taken) (queue_written (length page.laid.elements.tree.elements) watcher.0 page.watchers.part is.watched));
      })

-- something is scrolled

module _ (handlers : Handlers) (world : World) (present : Present) (of : Operand) (container : Container) (there : container_meant world.names present of ≡ Did container)
    (target : Option Container) (thing : scrolled_thing world.tree world.viewports.screen container ≡ target) (left top : ℤ) where
  pub scrolls_to : does handlers world present (ScrollTo of left top) ≡ becomes (scrolled_to left top target world)
  unfolding does
  scrolls_to =
      (λ i. there i >>= λ (within : Container). becomes (scrolled_to left top (scrolled_thing (world.tree) (world.viewports.screen) within) world))
      ∙ ap (λ (it : Option Container). becomes (scrolled_to left top it world)) thing

  pub scrolls_by : does handlers world present (ScrollBy of left top) ≡ becomes (scrolled_by left top target world)
  unfolding does
  scrolls_by =
      (λ i. there i >>= λ (within : Container). becomes (scrolled_by left top (scrolled_thing (world.tree) (world.viewports.screen) within) world))
      ∙ ap (λ (it : Option Container). becomes (scrolled_by left top it world)) thing
