-- What a command that a quiet handler may hold leaves: the sizes of all elements that there are, and each observation or none of it.
use Rattle.std.proofs.Common.{◌≡◌, refl, sym, subst, ◌∙◌, arith, ◌≤◌, true≢false, ap}
use Rattle.std.specs.Prelude.{ℕ, ℤ, zero, suc, ◌<◌, ◌==◌, not, true, false, List, [], ◌∷◌, ◌++◌, length, Option, Some, None, unwrap_or, option_map}
use Rattle.std.specs.List.{AllByRecursion}
use Rattle.px_units.specs.declared.BoxKind.{BoxKind}
use Rattle.layout_model.specs.Items.{Kind}
use Rattle.layout_model.specs.Boxes.{Box}
use Rattle.script_model.specs.Syntax.{Action, Viewport, SetRatio, Append, Before, Remove, SetStyle, Grow, Load, MakeResizeObserver, ObserveResize, UnobserveResize, DisconnectResize}
use Rattle.script_model.specs.TraceLines.{TraceLine}
use Rattle.page_model.specs.World.{Screen, Observation, ResizeObserver, ResizeObservers, Container, Tree, World, Document}
use Rattle.page_model.specs.Lookups.{resize_observer_at, entry_or, no_document}
use Rattle.page_model.specs.Documents.{is_active, is_active_state}
use Rattle.page_model.specs.Edits.{with_element, with_frame, new_document}
use Rattle.page_model.specs.ResizeObserving.{without_observed, with_resize_observer, without_resize_target, without_resize_targets}
use Rattle.page_model.specs.Gathering.{is_of}
use Rattle.page_model.specs.PageBoxes.{size_of, size_by, extent_of}
use Rattle.page_model.specs.Steps.{Effect}
use Rattle.page_model.specs.Operands.{Present, Handlers}
use Rattle.page_model.specs.Scrolling.{scrolled_to, scrolled_by}
use Rattle.page_model.specs.Commands.{does, with_intersections, with_listeners, making}
use Rattle.page_model.specs.Callbacks.{Script, Entries, handler_names, presents, call}
use Rattle.page_model.specs.Ranges.{IsInRange}
use Rattle.page_laws.specs.Successors.{OnDid}
use Rattle.page_laws.proofs.Steps.{bind, both, did, on_did-with}
use Rattle.page_laws.proofs.Lists.{all-filter, less-more}
use Rattle.page_laws.proofs.Unboxed.{in-range-made, element-boxes, frame-boxes}
use Rattle.page_laws.proofs.InRange.{does-in}
use Rattle.page_laws.proofs.Keeping.{counted}
use Rattle.page_laws.proofs.RunsInRange.{IsEntryIn, same-count, present-in}
use Rattle.page_laws.specs.Making.{NamesMade, KeepsBoxes}
use Rattle.loop_laws.specs.Moments.{Moment}
use Rattle.loop_laws.proofs.Waiting.{changed-at, made-at}
use Rattle.loop_laws.proofs.Walk.{HandlerHolds, IsAlong, call-along, on_did-given}
use Rattle.loop_lint.specs.Verdicts.{disturbs}
use Rattle.loop_lint.proofs.Holding.{Fails}

-- where elements and documents are made ---------------------------------------------------------------------------------------

record IsMore (tree after : Tree) : Type 0 where
  pub elements : length tree.elements ≤ length after.elements
  pub sizes : (screen : Screen) (n : ℕ) (kind : BoxKind) → size_of after screen n kind ≡ size_of tree screen n kind
  pub active : (d : ℕ) → is_active after d ≡ is_active tree d

size-same : (tree after : Tree) → KeepsBoxes tree after → (screen : Screen) (n : ℕ) (kind : BoxKind) → size_of after screen n kind ≡ size_of tree screen n kind
unfolding size_of
size-same tree after keeps screen n kind =
    ap (λ (box : Option Box). extent_of (unwrap_or (option_map (size_by (screen.ratio) kind) box) (0, 0))) (keeps.boxes screen n)

fresh-idle : (documents : List Document) (frame d : ℕ) →
    is_active_state (entry_or no_document (documents ++ new_document frame ∷ []) d).state ≡ is_active_state (entry_or no_document documents d).state
fresh-idle [] frame zero = refl
fresh-idle [] frame (suc d) = refl
fresh-idle (x ∷ xs) frame zero = refl
fresh-idle (x ∷ xs) frame (suc d) = fresh-idle xs frame d

element-more : (kind : Kind) (made_in : ℕ) (framed : Option ℕ) (tree : Tree) → NamesMade tree → IsMore tree (with_element kind made_in framed tree)
element-more kind made_in framed tree made = record {
  elements = less-more (tree.elements) _;
  sizes = size-same tree _ (element-boxes tree made kind made_in framed);
  active = λ d. refl;
}

frame-more : (made_in : ℕ) (tree : Tree) → NamesMade tree → IsMore tree (with_frame made_in tree)
frame-more made_in tree made = record {
  elements = less-more (tree.elements) _;
  sizes = size-same tree _ (frame-boxes tree made made_in);
  active = fresh-idle (tree.documents) (length tree.elements);
}

-- observers -----------------------------------------------------------------------------------------------------------------------

-- `P` of each of an observer's observations, under its active list, if it is one of the document
abbrev pub Passes : (List Observation → Observation → Type 0) → ℕ → ResizeObserver → Type 0
Passes P document it = is_of document it ≡ true → AllByRecursion (P (it.active)) (it.targets)

-- pages ----------------------------------------------------------------------------------------------------------------------------

module _ (P : ℕ → List Observation → Observation → Type 0) (document : ℕ) where
  -- the elements that there were have the sizes that they had, the document is Active where it was, and what `P` was so of it is so of
  pub record IsCalm (tree : Tree) (screen : Screen) (it : ResizeObservers) (tree' : Tree) (screen' : Screen) (it' : ResizeObservers) : Type 0 where
    pub elements : length tree.elements ≤ length tree'.elements
    pub sizes : (n : ℕ) → n < length tree.elements → (kind : BoxKind) → size_of tree' screen' n kind ≡ size_of tree screen n kind
    pub active : is_active tree' document ≡ is_active tree document
    pub targets : (o : ℕ) → Passes (P o) document (resize_observer_at it o) → Passes (P o) document (resize_observer_at it' o)

  abbrev pub Calm : World → World → Type 0
  Calm before now = IsCalm (before.tree) (before.viewports.screen) (before.resize_observers) (now.tree) (now.viewports.screen) (now.resize_observers)

  still-calm : (tree : Tree) (screen : Screen) (it : ResizeObservers) → IsCalm tree screen it tree screen it
  still-calm tree screen it = record { elements = omega arith; sizes = λ n is kind. refl; active = refl; targets = λ o pass. pass }

  then-calm : (a b c : World) → Calm a b → Calm b c → Calm a c
  then-calm a b c one other = record {
    elements = omega (arith, one.elements, other.elements);
    sizes = λ n is kind. other.sizes n (let less : n < length b.tree.elements = omega (arith, is, one.elements) in less) kind ∙ one.sizes n is kind;
    active = other.active ∙ one.active;
    targets = λ o pass. other.targets o (one.targets o pass);
  }

  more-calm : (tree after : Tree) (screen : Screen) (it : ResizeObservers) → IsMore tree after → IsCalm tree screen it after screen it
  more-calm tree after screen it more = record {
    elements = more.elements;
    sizes = λ n is kind. more.sizes screen n kind;
    active = more.active document;
    targets = λ o pass. pass;
  }

-- commands --------------------------------------------------------------------------------------------------------------------------

module _ (P : ℕ → List Observation → Observation → Type 0) (document : ℕ) (handlers : Handlers) (world : World) (within : IsInRange (length handlers) world) where
  abbrev Becomes : Tree → ResizeObservers → Type 0
  Becomes tree it = IsCalm P document (world.tree) (world.viewports.screen) (world.resize_observers) tree (world.viewports.screen) it

  abbrev Done : Effect → Type 0
  Done effect = Calm P document world (effect.world)

  here : Becomes (world.tree) (world.resize_observers)
  here = still-calm P document (world.tree) (world.viewports.screen) (world.resize_observers)

  made-element : (kind : Kind) (made_in : ℕ) (framed : Option ℕ) → Becomes (with_element kind made_in framed (world.tree)) (world.resize_observers)
  made-element kind made_in framed =
      more-calm P document (world.tree) _ (world.viewports.screen) (world.resize_observers)
      (element-more kind made_in framed (world.tree) (in-range-made (length handlers) world within))

  made-frame : (made_in : ℕ) → Becomes (with_frame made_in (world.tree)) (world.resize_observers)
  made-frame made_in =
      more-calm P document (world.tree) _ (world.viewports.screen) (world.resize_observers)
      (frame-more made_in (world.tree) (in-range-made (length handlers) world within))

  observers-calm : (it : ResizeObservers) →
      ((o : ℕ) → Passes (P o) document (resize_observer_at (world.resize_observers) o) → Passes (P o) document (resize_observer_at it o)) → Becomes (world.tree) it
  observers-calm it targets = record { elements = here.elements; sizes = here.sizes; active = here.active; targets = targets }

  made-observer : (owner : ℕ) (handler : Option ℕ) → Becomes (world.tree) (with_resize_observer owner handler (world.resize_observers))
  made-observer owner handler = observers-calm _ (λ o pass. made-at (Passes (P o) document) _ (λ own. tt) o (world.resize_observers.made) pass)

  no-target : (observer n : ℕ) → Becomes (world.tree) (without_resize_target observer n (world.resize_observers))
  no-target observer n =
      observers-calm _ (λ o pass. changed-at (Passes (P o) document) (λ each. record each { targets = without_observed n (each.targets) })
      (λ it passes own. all-filter (P o (it.active)) (λ each. not (each.target == n)) (it.targets) (passes own)) observer o (world.resize_observers.made) pass)

  no-targets : (observer : ℕ) → Becomes (world.tree) (without_resize_targets observer (world.resize_observers))
  no-targets observer =
      observers-calm _ (λ o pass. changed-at (Passes (P o) document) (λ each. record each { targets = []; active = [] }) (λ it passes own. tt) observer o
      (world.resize_observers.made) pass)

  scrolled-calm : (left top : ℤ) (target : Option Container) → Calm P document world (scrolled_to left top target world)
  scrolled-calm left top None = here
  scrolled-calm left top (Some target) = here

  scrolled-by-calm : (left top : ℤ) (target : Option Container) → Calm P document world (scrolled_by left top target world)
  scrolled-by-calm left top None = here
  scrolled-by-calm left top (Some target) = here

  pub does-calm : (present : Present) (action : Action) → disturbs action ≡ false → OnDid (does handlers world present action) Done
  unfolding does with_intersections with_listeners making
  does-calm present (Viewport width height) quiet = absurd (true≢false quiet)
  does-calm present (SetRatio hundredths) quiet = absurd (true≢false quiet)
  does-calm present (Append parent node) quiet = absurd (true≢false quiet)
  does-calm present (Before parent node sibling) quiet = absurd (true≢false quiet)
  does-calm present (Remove node) quiet = absurd (true≢false quiet)
  does-calm present (SetStyle node declaration) quiet = absurd (true≢false quiet)
  does-calm present (Grow node dimension by) quiet = absurd (true≢false quiet)
  does-calm present (Load node width height) quiet = absurd (true≢false quiet)
  does-calm present (ObserveResize observer node observed) quiet = absurd (true≢false quiet)
  does-calm present (MakeResizeObserver name owner handler) quiet = search (both, bind, did, made-observer) depth 12
  does-calm present (UnobserveResize observer node) quiet = search (bind, did, no-target) depth 9
  does-calm present (DisconnectResize observer) quiet = search (bind, did, no-targets) depth 9
  does-calm present action quiet = search (both, bind, did, here, made-element, made-frame, scrolled-calm, scrolled-by-calm) depth 14

-- callbacks -------------------------------------------------------------------------------------------------------------------------

module _ (P : ℕ → List Observation → Observation → Type 0) (document : ℕ) (script : Script) (start : World) where
  -- a world in range that is calm since the start of a callback
  record IsSince (world : World) : Type 0 where
    calm : Calm P document start world
    within : IsInRange (length (handler_names script)) world

  abbrev Since : World → List TraceLine → List Moment → World → Type 0
  Since before lines moments now = IsSince before → IsSince now

  counted-in : (world : World) → IsInRange (length (handler_names script)) world → IsInRange (length (handler_names script)) (counted world)
  counted-in world within = search

  since-along : IsAlong script (Fails disturbs) (IsEntryIn (length start.tree.elements)) Since
  since-along = record {
    joined = record { none = λ world since. since; both = λ a b c lines more xs ys one other since. other (one since) };
    plain = λ world lines plain since. since;
    begun = λ world present command fits is room since. record { calm = since.calm; within = counted-in world (since.within) };
    does = λ line action present world quiet is room. on_did-given (does (handler_names script) (counted world) present action) (IsSince world) _ λ since.
        let within = counted-in world (since.within) in
        on_did-with (does (handler_names script) (counted world) present action) _ _ (λ effect. IsSince (effect.world))
        (λ effect calm within. record { calm = then-calm P document start world (effect.world) (since.calm) calm; within = within })
        (does-calm P document (handler_names script) (counted world) within present action quiet)
        (does-in (handler_names script) (counted world) within present action (present-in (length start.tree.elements) (counted world) present (since.calm.elements) is));
    none = tt;
  }

  pub call-calm : IsInRange (length script) start → (owner : ℕ) (handler : Option ℕ) (handed : Entries) →
      AllByRecursion (IsEntryIn (length start.tree.elements)) (presents handed) → HandlerHolds (Fails disturbs) script handler →
      Calm P document start (call script owner handler handed start).state
  call-calm within owner handler handed are holds =
      (call-along script _ _ Since since-along owner handler handed start are holds
      (record {
        calm = still-calm P document (start.tree) (start.viewports.screen) (start.resize_observers);
        within = subst (λ (count : ℕ). IsInRange count start) (sym (same-count script)) within;
      })).calm
