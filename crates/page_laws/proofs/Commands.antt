-- Each command changes the world by one of the changes of `Changed`, and reads of the present entry its target alone. Here alone are all
-- commands gone through.
use Rattle.std.proofs.Common.{◌≡◌, refl, ap, sym, subst, arith, tests}
use Rattle.std.specs.Prelude.{ℕ, ℤ, pos, ◌+ℤ◌, ◌+◌, ◌<◌, nat_lt, Bool, true, false, List, [], length, position, unwrap_or, bytes_eq, cond, Option, Some, None, IfSome}
use Rattle.std.specs.List.{position_or_len}
use Rattle.layout_model.specs.Items.{Kind}
use Rattle.text_io.specs.declared.kinds.EventKind.{EventKind}
use Rattle.text_io.specs.declared.kinds.LimitKind.{LimitKind}
use Rattle.text_io.specs.declared.kinds.LimitKind.TheVariants as limits
use Rattle.text_io.specs.declared.kinds.ThrowKind.TheVariants.{RangeError, ReferenceError, SyntaxError}
use Rattle.script_model.specs.MarginText.{margins_of, thresholds_of}
use Rattle.script_model.specs.Syntax.{Dimension, Operand, Named, Target, Aim, PlainAim, WindowAim, Action, Viewport, SetRatio, MakeBlock, MakeImage, MakeFrame, Append, Before, Remove, SetStyle, Grow, Load, MakeResizeObserver, ObserveResize, UnobserveResize, DisconnectResize, MakeIntersectionObserver, ObserveIntersection, UnobserveIntersection, DisconnectIntersection, TakeIntersections, Listen, Unlisten, MakeQueryList, ScrollTo, ScrollBy, RequestFrame, CancelFrame, SetTimer, ClearTimer, Post, Say, Read}
use Rattle.page_model.specs.World.{Thing, DocumentThing, ElementThing, QueryListThing, Root, Container, IntersectionObservers, EventTarget, Listener, Table, Tree, World, InElement, InDocument}
use Rattle.page_model.specs.Lookups.{intersection_observer_at}
use Rattle.page_model.specs.Names.{named_thing, with_name}
use Rattle.page_model.specs.Scrolling.{scrolled_thing, scrolled_to, scrolled_by}
use Rattle.page_model.specs.PageBoxes.{scroll_offset}
use Rattle.page_model.specs.IntersectionObserving.{is_registered, intersection_observations}
use Rattle.page_model.specs.Listeners.{is_listening}
use Rattle.page_model.specs.Steps.{Step, Did, Threw, Met, ◌>>=◌, ◌>>◌, Effect, required, met_unless, room}
use Rattle.page_model.specs.Operands.{Present, Handlers, thing_named, as_document, as_element, as_container, as_event_target, document_named, present_target, operand_thing, element_meant, container_meant, event_target_meant, root_at, root_meant, handler_named, handler_given}
use Rattle.page_model.specs.Commands.{does, with_tree, with_intersections, with_listeners, making, growing, loading, placing, observing, listening}
use Rattle.page_laws.specs.Successors.{IsSuccessor, OnDid}
use Rattle.page_laws.proofs.Steps.{bind, bind-in, both, did, known-did, required-in, on_did-all, on_did-map}
use Rattle.page_laws.proofs.Lists.{less-more, some-so}
use Rattle.page_laws.proofs.Successors.{alike, more-documents, named-still}
use Rattle.page_laws.proofs.Trees.{edited}
use Rattle.page_laws.specs.Changed.{AnyThing, container_thing, target_thing, IsRootOf, IsListenerOf, TreeChange, ItemChanged, TakenOut, Placed, Observed, Unobserved, Disconnected, IntersectionChange, Registered, Unregistered, AllUnregistered, QueueTaken, TableChange, Entered, Kept, Change, Unchanged, ScreenSet, TreeChanged, ElementMade, FrameMade, Scrolled, ResizeObserverMade, ResizeChanged, IntersectionObserverMade, IntersectionsChanged, QueryListMade, ListenersChanged, FrameCallbacksChanged, TimersChanged, TaskPosted}

-- operands

as-document-in : (Known : Thing → Type 0) (thing : Thing) → Known thing → OnDid (as_document thing) (λ document. Known (DocumentThing document))
unfolding OnDid
as-document-in Known (DocumentThing document) is = is
as-document-in Known thing is = tt

as-element-in : (Known : Thing → Type 0) (thing : Thing) → Known thing → OnDid (as_element thing) (λ n. Known (ElementThing n))
unfolding OnDid
as-element-in Known (ElementThing n) is = is
as-element-in Known thing is = tt

as-container-in : (Known : Thing → Type 0) (thing : Thing) → Known thing → OnDid (as_container thing) (λ it. Known (container_thing it))
unfolding OnDid
as-container-in Known (DocumentThing document) is = is
as-container-in Known (ElementThing n) is = is
as-container-in Known thing is = tt

as-target-in : (Known : Thing → Type 0) (thing : Thing) → Known thing → OnDid (as_event_target thing) (λ it. Known (target_thing it))
unfolding OnDid
as-target-in Known (DocumentThing document) is = is
as-target-in Known (ElementThing n) is = is
as-target-in Known (QueryListThing query) is = is
as-target-in Known thing is = tt

root-in : (Known : Thing → Type 0) (container : Container) → Known (container_thing container) → IsRootOf Known (root_at container)
root-in Known (InElement n) is = is
root-in Known (InDocument document) is = is

place-in : (place count : ℕ) (less : Bool) → nat_lt place count ≡ less → IfSome (cond less (Some place) None) (λ n. n < count)
place-in place count true less = grind (arith, tests)
place-in place count false less = tt

handler-in : (handlers : Handlers) (name : List ℕ) → OnDid (handler_named handlers name) (λ handler. handler < length handlers)
handler-in handlers name =
    required-in ReferenceError (position (bytes_eq name) handlers) (λ handler. handler < length handlers)
    (place-in (position_or_len (bytes_eq name) handlers) (length handlers) (nat_lt (position_or_len (bytes_eq name) handlers) (length handlers)) refl)

given-in : (handlers : Handlers) (name : Option (List ℕ)) → OnDid (handler_given handlers name) (λ handler. IfSome handler (λ called. called < length handlers))
given-in handlers None = did _ (λ (handler : Option ℕ). IfSome handler (λ called. called < length handlers)) tt
given-in handlers (Some name) =
    bind-in _ _ _ _ (handler-in handlers name) (λ handler is. did _ (λ (given : Option ℕ). IfSome given (λ called. called < length handlers)) is)

-- What is known of the world in which a command is carried out: of the things that have names, and of the target of the present entry.
-- The other entry has the same target.
module _ (handlers : Handlers) (world : World) (present other : Present) (same : present_target present ≡ present_target other) (Known : Thing → Type 0)
    (named : (name : List ℕ) → IfSome (named_thing (world.names) name) Known) (target : OnDid (present_target present) (λ n. Known (ElementThing n))) where
  abbrev Done : Effect → Type 0
  Done effect = Change Known (length handlers) world (effect.world)

  -- what is done with either entry
  record AreBoth (step step' : Step Effect) : Type 0 where
    either : step ≡ step'
    done : OnDid step Done

  ends : (effect : Effect) → Done effect → AreBoth (Did effect) (Did effect)
  unfolding OnDid
  ends effect change = record { either = refl; done = change }

  once : (step : Step Effect) → OnDid step Done → AreBoth step step
  once step done = record { either = refl; done = done }

  passes : (step : Step (Unit {0})) (next next' : Step Effect) → AreBoth next next' → AreBoth (step >> next) (step >> next')
  unfolding OnDid ◌>>◌
  passes (Did value) next next' both = both
  passes (Threw exception) next next' both = record { either = refl; done = tt }
  passes (Met limit) next next' both = record { either = refl; done = tt }

  -- where there is room
  fits : (limit : LimitKind) (count most : ℕ) (next next' : Step Effect) → (count < most → AreBoth next next') →
      AreBoth (met_unless (nat_lt count most) limit >> next) (met_unless (nat_lt count most) limit >> next')
  unfolding OnDid ◌>>◌
  fits limit count most next next' both = by_room (nat_lt count most) refl
    where
      by_room : (has_room : Bool) → nat_lt count most ≡ has_room → AreBoth (met_unless has_room limit >> next) (met_unless has_room limit >> next')
      by_room true is = both (grind (arith, tests, is))
      by_room false is = record { either = refl; done = tt }

  gives : {A : Type 0} (step : Step A) (next next' : A → Step Effect) (Fact : A → Type 0) → OnDid step Fact →
      ((value : A) → Fact value → AreBoth (next value) (next' value)) → AreBoth (step >>= next) (step >>= next')
  unfolding OnDid ◌>>=◌
  gives (Did value) next next' Fact fact both = both value fact
  gives (Threw exception) next next' Fact fact both = record { either = refl; done = tt }
  gives (Met limit) next next' Fact fact both = record { either = refl; done = tt }

  any : {A : Type 0} (step : Step A) (next next' : A → Step Effect) → ((value : A) → AreBoth (next value) (next' value)) →
      AreBoth (step >>= next) (step >>= next')
  unfolding OnDid ◌>>=◌
  any (Did value) next next' both = both value
  any (Threw exception) next next' both = record { either = refl; done = tt }
  any (Met limit) next next' both = record { either = refl; done = tt }

  gives-either : {A : Type 0} (step step' : Step A) (next next' : A → Step Effect) (Fact : A → Type 0) → step ≡ step' → OnDid step Fact →
      ((value : A) → Fact value → AreBoth (next value) (next' value)) → AreBoth (step >>= next) (step' >>= next')
  gives-either step step' next next' Fact is fact both = subst (λ it. AreBoth (step >>= next) (it >>= next')) is (gives step next next' Fact fact both)

  -- operands

  thing-in : (name : List ℕ) → OnDid (thing_named (world.names) name) Known
  thing-in name = required-in ReferenceError (named_thing (world.names) name) Known (named name)

  operand-in : (operand : Operand) → OnDid (operand_thing (world.names) present operand) Known
  operand-in (Named name) = thing-in name
  operand-in Target = bind-in _ _ _ _ target (λ n is. did _ Known is)

  operand-same : (operand : Operand) → operand_thing (world.names) present operand ≡ operand_thing (world.names) other operand
  operand-same (Named name) = refl
  operand-same Target = ap (λ step. step >>= λ (n : ℕ). Did (ElementThing n)) same

  of-document : (name : List ℕ) (next next' : ℕ → Step Effect) → ((document : ℕ) → Known (DocumentThing document) → AreBoth (next document) (next' document)) →
      AreBoth (document_named (world.names) name >>= next) (document_named (world.names) name >>= next')
  of-document name next next' both =
      gives _ next next' (λ document. Known (DocumentThing document)) (bind-in _ _ Known _ (thing-in name) (as-document-in Known)) both

  of-element : (operand : Operand) (next next' : ℕ → Step Effect) → ((n : ℕ) → Known (ElementThing n) → AreBoth (next n) (next' n)) →
      AreBoth (element_meant (world.names) present operand >>= next) (element_meant (world.names) other operand >>= next')
  of-element operand next next' both =
      gives-either _ _ next next' (λ n. Known (ElementThing n)) (ap (λ step. step >>= as_element) (operand-same operand))
      (bind-in _ _ Known _ (operand-in operand) (as-element-in Known)) both

  container-same : (operand : Operand) → container_meant (world.names) present operand ≡ container_meant (world.names) other operand
  container-same operand = ap (λ step. step >>= as_container) (operand-same operand)

  container-in : (operand : Operand) → OnDid (container_meant (world.names) present operand) (λ it. Known (container_thing it))
  container-in operand = bind-in _ _ Known _ (operand-in operand) (as-container-in Known)

  of-container : (operand : Operand) (next next' : Container → Step Effect) → ((it : Container) → Known (container_thing it) → AreBoth (next it) (next' it)) →
      AreBoth (container_meant (world.names) present operand >>= next) (container_meant (world.names) other operand >>= next')
  of-container operand next next' both =
      gives-either _ _ next next' (λ it. Known (container_thing it)) (container-same operand) (container-in operand) both

  of-aim : (aim : Aim) (next next' : EventTarget → Step Effect) → ((it : EventTarget) → Known (target_thing it) → AreBoth (next it) (next' it)) →
      AreBoth (event_target_meant (world.names) present aim >>= next) (event_target_meant (world.names) other aim >>= next')
  of-aim aim next next' both = gives-either _ _ next next' (λ it. Known (target_thing it)) (aim-same aim) (aim-in aim) both
    where
      aim-same : (aim : Aim) → event_target_meant (world.names) present aim ≡ event_target_meant (world.names) other aim
      aim-same (PlainAim operand) = ap (λ step. step >>= as_event_target) (operand-same operand)
      aim-same (WindowAim name) = refl

      aim-in : (aim : Aim) → OnDid (event_target_meant (world.names) present aim) (λ it. Known (target_thing it))
      aim-in (PlainAim operand) = bind-in _ _ Known _ (operand-in operand) (as-target-in Known)
      aim-in (WindowAim name) =
          bind-in _ _ (λ document. Known (DocumentThing document)) (λ (it : EventTarget). Known (target_thing it))
          (bind-in _ _ Known _ (thing-in name) (as-document-in Known)) (λ document is. did _ (λ (it : EventTarget). Known (target_thing it)) is)

  of-root : (operand : Option Operand) (next next' : Root → Step Effect) → ((it : Root) → IsRootOf Known it → AreBoth (next it) (next' it)) →
      AreBoth (root_meant (world.names) present operand >>= next) (root_meant (world.names) other operand >>= next')
  of-root operand next next' both = gives-either _ _ next next' (IsRootOf Known) (root-same operand) (root-known operand) both
    where
      root-same : (operand : Option Operand) → root_meant (world.names) present operand ≡ root_meant (world.names) other operand
      root-same None = refl
      root-same (Some operand) = ap (λ step. step >>= λ container. Did (root_at container)) (container-same operand)

      root-known : (operand : Option Operand) → OnDid (root_meant (world.names) present operand) (IsRootOf Known)
      root-known None = did _ (IsRootOf Known) tt
      root-known (Some operand) =
          bind-in _ _ (λ it. Known (container_thing it)) (IsRootOf Known) (container-in operand) (λ it is. did _ (IsRootOf Known) (root-in Known it is))

  of-handler : (name : List ℕ) (next next' : ℕ → Step Effect) → ((called : ℕ) → called < length handlers → AreBoth (next called) (next' called)) →
      AreBoth (handler_named handlers name >>= next) (handler_named handlers name >>= next')
  of-handler name next next' both = gives _ next next' _ (handler-in handlers name) both

  of-given : (name : Option (List ℕ)) (next next' : Option ℕ → Step Effect) →
      ((called : Option ℕ) → IfSome called (λ it. it < length handlers) → AreBoth (next called) (next' called)) →
      AreBoth (handler_given handlers name >>= next) (handler_given handlers name >>= next')
  of-given name next next' both = gives _ next next' _ (given-in handlers name) both

  -- steps of a part

  tree-step : (step : Step Tree) → OnDid step (TreeChange Known (world.tree)) → OnDid (with_tree world step) Done
  unfolding with_tree
  tree-step step change = bind-in step _ _ Done change (λ tree is. did _ Done (TreeChanged tree is))

  placed : (at : Container) (n : ℕ) (sibling : Option ℕ) → Known (container_thing at) → Known (ElementThing n) →
      OnDid (with_tree world (placing at n sibling (world.tree))) Done
  placed at n sibling there known = tree-step _ (known-did _ _ (λ after is. Placed at n sibling after there known is))

  grown : (dimension : Dimension) (n : ℕ) (by : ℤ) → Known (ElementThing n) → OnDid (growing dimension n by (world.tree)) (TreeChange Known (world.tree))
  unfolding growing
  grown dimension n by known = bind _ _ _ (λ units. did _ (TreeChange Known (world.tree)) (ItemChanged _ n known))

  loaded : (n width height : ℕ) → Known (ElementThing n) → OnDid (loading n width height (world.tree)) (TreeChange Known (world.tree))
  unfolding loading
  loaded n width height known = both _ _ _ (did _ (TreeChange Known (world.tree)) (ItemChanged _ n known))

  made : (name made_in : List ℕ) (kind : Kind) → AreBoth (making world name made_in kind) (making world name made_in kind)
  unfolding making
  made name made_in kind = passes _ _ _ (of-document made_in _ _ λ d known. passes _ _ _ (ends _ (ElementMade name kind d known)))

  registered : (observer n : ℕ) (already : Bool) → Known (ElementThing n) →
      OnDid (with_intersections world (observing (world.version) observer n already (world.intersection_observers))) Done
  unfolding with_intersections observing
  registered observer n true known = did _ Done Unchanged
  registered observer n false known =
      let Added : IntersectionObservers → Type 0 = IntersectionChange Known (world.intersection_observers) in
      bind-in _ _ Added Done
      (both (room (world.version) limits.IntersectionObservations (intersection_observations (world.intersection_observers))) _ Added
      (did _ Added (Registered observer n known)))
      (λ it change. did _ Done (IntersectionsChanged it change))

  listened : (at : EventTarget) (event : EventKind) (called : ℕ) (already : Bool) → Known (target_thing at) → called < length handlers →
      OnDid (with_listeners world (listening (world.version) at event called already (world.listeners))) Done
  unfolding with_listeners listening
  listened at event called true known is = did _ Done Unchanged
  listened at event called false known is =
      let Added : Table Listener → Type 0 = TableChange Listener (IsListenerOf Known (length handlers)) (world.listeners) in
      bind-in _ _ Added Done
      (both (room (world.version) limits.Listeners (length world.listeners.held)) _ Added
      (did _ Added (Entered (λ serial. record { serial = serial; target = at; event = event; handler = called }) (known, is))))
      (λ it change. did _ Done (ListenersChanged it change))

  scrolled : (left top : ℤ) (it : Container) (found : Option Container) → Known (container_thing it) →
      scrolled_thing (world.tree) (world.viewports.screen) it ≡ found → Change Known (length handlers) world (scrolled_to left top found world)
  scrolled left top it None known is = Unchanged
  scrolled left top it (Some at) known is = Scrolled left top it at known is

  scrolled-by : (left top : ℤ) (it : Container) (found : Option Container) → Known (container_thing it) →
      scrolled_thing (world.tree) (world.viewports.screen) it ≡ found → Change Known (length handlers) world (scrolled_by left top found world)
  scrolled-by left top it None known is = Unchanged
  scrolled-by left top it (Some at) known is =
      let from = scroll_offset (world.tree) (world.viewports.screen) (world.scrolls) at in
      Scrolled (pos (from.across) +ℤ left) (pos (from.down) +ℤ top) it at known is

  does-both : (action : Action) → AreBoth (does handlers world present action) (does handlers world other action)
  unfolding does
  does-both (Viewport width height) = ends _ (ScreenSet (record (world.viewports.screen) { size = record { across = width; down = height } }))
  does-both (SetRatio hundredths) = ends _ (ScreenSet (record (world.viewports.screen) { ratio = hundredths }))
  does-both (MakeBlock name document) = made name document _
  does-both (MakeImage name document width height) = made name document _
  does-both (MakeFrame name document inside) =
      passes _ _ _ (of-document document _ _ λ d known. passes _ _ _ (passes _ _ _ (fits _ _ _ _ _ λ less. ends _ (FrameMade name inside d known less))))
  does-both (Append parent node) = of-container parent _ _ λ at there. of-element node _ _ λ n known. once _ (placed at n None there known)
  does-both (Before parent node sibling) =
      of-container parent _ _ λ at there. of-element node _ _ λ n known. of-element sibling _ _ λ s is. once _ (placed at n (Some s) there known)
  does-both (Remove node) = of-element node _ _ λ n known. ends _ (TreeChanged _ (TakenOut n known))
  does-both (SetStyle node declaration) = of-element node _ _ λ n known. ends _ (TreeChanged _ (ItemChanged _ n known))
  does-both (Grow node dimension by) = of-element node _ _ λ n known. once _ (tree-step _ (grown dimension n by known))
  does-both (Load node width height) = of-element node _ _ λ n known. once _ (tree-step _ (loaded n width height known))
  does-both (MakeResizeObserver name document handler) =
      passes _ _ _ (of-document document _ _ λ d known. of-given handler _ _ λ called is.
      fits _ _ _ _ _ λ less. ends _ (ResizeObserverMade name d called known is less))
  does-both (ObserveResize observer node observed) =
      any _ _ _ λ o. of-element node _ _ λ n known. passes _ _ _ (ends _ (ResizeChanged _ (Observed o n observed known)))
  does-both (UnobserveResize observer node) = any _ _ _ λ o. of-element node _ _ λ n known. ends _ (ResizeChanged _ (Unobserved o n))
  does-both (DisconnectResize observer) = any _ _ _ λ o. ends _ (ResizeChanged _ (Disconnected o))
  does-both (MakeIntersectionObserver it) =
      passes _ _ _ (of-document (it.document) _ _ λ d known. of-given (it.handler) _ _ λ called is. of-root (it.root) _ _ λ root is_root.
      any (required SyntaxError (margins_of it.margin)) _ _ λ margins.
      any (required SyntaxError (margins_of (unwrap_or it.scroll []))) _ _ λ scroll_margins.
      any (required RangeError (thresholds_of it.thresholds)) _ _ λ thresholds.
      passes _ _ _ (ends _ (IntersectionObserverMade (it.name) d called root margins scroll_margins thresholds known is is_root)))
  does-both (ObserveIntersection observer node) =
      any _ _ _ λ o. of-element node _ _ λ n known.
      once _ (registered o n (is_registered n (intersection_observer_at (world.intersection_observers) o).registrations) known)
  does-both (UnobserveIntersection observer node) = any _ _ _ λ o. of-element node _ _ λ n known. ends _ (IntersectionsChanged _ (Unregistered o n))
  does-both (DisconnectIntersection observer) = any _ _ _ λ o. ends _ (IntersectionsChanged _ (AllUnregistered o))
  does-both (TakeIntersections observer) = any _ _ _ λ o. ends _ (IntersectionsChanged _ (QueueTaken o))
  does-both (Listen aim event handler) =
      of-aim aim _ _ λ at known. of-handler handler _ _ λ called is. once _ (listened at event called (is_listening at event called (world.listeners)) known is)
  does-both (Unlisten aim event handler) = of-aim aim _ _ λ at known. of-handler handler _ _ λ called is. ends _ (ListenersChanged _ (Kept _))
  does-both (MakeQueryList name document query) =
      passes _ _ _ (of-document document _ _ λ d known. fits _ _ _ _ _ λ less. ends _ (QueryListMade name d query _ known less))
  does-both (ScrollTo node left top) = of-container node _ _ λ it known. ends _ (scrolled left top it _ known refl)
  does-both (ScrollBy node left top) = of-container node _ _ λ it known. ends _ (scrolled-by left top it _ known refl)
  does-both (RequestFrame document key handler) =
      of-document document _ _ λ d known. of-handler handler _ _ λ called is.
      passes _ _ _ (passes _ _ _ (ends _ (FrameCallbacksChanged _
      (Entered (λ serial. record { serial = serial; document = d; key = key; handler = called }) (known, is)))))
  does-both (CancelFrame document key) = of-document document _ _ λ d known. ends _ (FrameCallbacksChanged _ (Kept _))
  does-both (SetTimer document key delay handler) =
      of-document document _ _ λ d known. of-handler handler _ _ λ called is.
      passes _ _ _ (passes _ _ _ (ends _ (TimersChanged _
      (Entered (λ serial. record { serial = serial; document = d; key = key; due = world.clock + delay; handler = called }) (known, is)))))
  does-both (ClearTimer document key) = of-document document _ _ λ d known. ends _ (TimersChanged _ (Kept _))
  does-both (Post document handler) =
      of-document document _ _ λ d known. of-handler handler _ _ λ called is. fits _ _ _ _ _ λ less. ends _ (TaskPosted d called known is less)
  does-both (Say word) = ends _ Unchanged
  does-both (Read shown) = of-container shown _ _ λ it known. ends _ Unchanged

-- of one entry
pub does-change : (handlers : Handlers) (world : World) (present : Present) (Known : Thing → Type 0) →
    ((name : List ℕ) → IfSome (named_thing (world.names) name) Known) → OnDid (present_target present) (λ n. Known (ElementThing n)) → (action : Action) →
    OnDid (does handlers world present action) (λ effect. Change Known (length handlers) world (effect.world))
does-change handlers world present Known named target action = (does-both handlers world present present refl Known named target action).done

-- where nothing is known of what operands mean

any-target : (present : Present) → OnDid (present_target present) (λ n. AnyThing (ElementThing n))
any-target present = on_did-all (present_target present) (λ n. AnyThing (ElementThing n)) (λ n. tt)

pub does-any : (handlers : Handlers) (world : World) (present : Present) (action : Action) →
    OnDid (does handlers world present action) (λ effect. Change AnyThing (length handlers) world (effect.world))
does-any handlers world present action = does-change handlers world present AnyThing (λ name. some-so (named_thing (world.names) name)) (any-target present) action

pub same-target : (handlers : Handlers) (world : World) (present other : Present) (action : Action) → present_target present ≡ present_target other →
    does handlers world present action ≡ does handlers world other action
same-target handlers world present other action same =
    (does-both handlers world present other same AnyThing (λ name. some-so (named_thing (world.names) name)) (any-target present) action).either

-- successors

with-name-next : (world after : World) (name : List ℕ) (thing : Thing) →
    after ≡ record after {
      tree = world.tree;
      names = with_name name thing (world.names);
      clock = world.clock;
      begun = world.begun;
      version = world.version;
    } → IsSuccessor world after
with-name-next world after name thing same = subst (IsSuccessor world) (sym same) (record {
  elements = omega arith;
  states = λ wanted document come. come;
  names = λ text that is. named-still name text thing that (world.names) is;
  clock = refl;
  begun = refl;
  version = refl;
})

module _ {Known : Thing → Type 0} {handlers : ℕ} (world : World) where
  pub change-next : {after : World} → Change Known handlers world after → IsSuccessor world after
  change-next (TreeChanged tree change) =
      let it = edited (world.tree) change in
      let same : length tree.elements ≡ length world.tree.elements = it.elements in
      record { elements = omega (arith, same); states = it.states; names = λ text thing is. is; clock = refl; begun = refl; version = refl }
  change-next (ElementMade name kind document known) = record {
    elements = less-more (world.tree.elements) _;
    states = λ wanted each come. come;
    names = λ text thing is. named-still name text (ElementThing (length world.tree.elements)) thing (world.names) is;
    clock = refl;
    begun = refl;
    version = refl;
  }
  change-next (FrameMade name inside document known less) = record {
    elements = less-more (world.tree.elements) _;
    states = λ wanted each come. more-documents wanted (world.tree.documents) _ each come;
    names = λ text thing is.
        named-still inside text (DocumentThing (length world.tree.documents)) thing _
        (named-still name text (ElementThing (length world.tree.elements)) thing (world.names) is);
    clock = refl;
    begun = refl;
    version = refl;
  }
  change-next (ResizeObserverMade name document handler known is less) = with-name-next world _ name _ refl
  change-next (IntersectionObserverMade name document handler root margins scroll_margins thresholds known is is_root) = with-name-next world _ name _ refl
  change-next (QueryListMade name document query matched known less) = with-name-next world _ name _ refl
  change-next change = alike world _ refl

pub does-next : (handlers : Handlers) (world : World) (present : Present) (action : Action) →
    OnDid (does handlers world present action) (λ effect. IsSuccessor world (effect.world))
does-next handlers world present action =
    on_did-map _ _ _ (λ effect change. change-next world change) (does-any handlers world present action)
