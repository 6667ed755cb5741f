-- The scroll events of a document: its pending list, and that each target stays there while callbacks run.
use Rattle.std.proofs.Common.{◌≡◌, ℕ, zero, suc, ◌<◌, ◌≤◌, refl, ap, sym, ◌∙◌, subst, arith, true≢false, get_or}
use Rattle.std.specs.Prelude.{List, [], ◌∷◌, length, IsTrue, Some, slice_get}
use Rattle.std.specs.List.{AllByRecursion}
use Rattle.text_io.specs.declared.kinds.EventKind.TheVariants as events
use Rattle.script_model.specs.Syntax.{Item}
use Rattle.script_model.specs.Scripts.{handlers_in}
use Rattle.script_model.specs.TraceLines.{FiredEvent, FiredScroll, EventLine}
use Rattle.page_model.specs.World.{World, Document, Fresh, Container as ModelContainer, InElement, InDocument, EventTarget, WindowTarget, Listener}
use Rattle.page_model.specs.Callbacks.{Script, NoEntries, call, document_of_target, notify_listener, invoke, bubble, fire, while_active}
use Rattle.page_model.specs.Documents.{is_active}
use Rattle.page_model.specs.Listeners.{listeners_of, listener_stands}
use Rattle.page_model.specs.Lookups.{entry_or}
use Rattle.page_model.specs.Ranges.{counts_of, IsScrollIn}
use Rattle.page_model.specs.Runs.{Said, say, ◌followed_by◌, for_each}
use Rattle.page_model.specs.Scrolls.{pending_of, without_pending}
use Rattle.page_model.specs.Names.{container_text}
use Rattle.page_model.specs.Ticks.{event_target_of, scroll_steps}
use Rattle.page_laws.specs.Successors.{is_come_to}
use Rattle.page_laws.specs.Later.{IsLater}
use Rattle.page_laws.proofs.Keeping.{then-keeps, only_if-keeps, for_each-keeps}
use Rattle.page_laws.proofs.Later.{call-later}
use Rattle.page_laws.proofs.Lists.{all-map}
use Rattle.container_model.specs.Seen.{seen_container, seen_containers}
use Rattle.element_tree.specs.declared.container.Container.{Container}
use Rattle.trace_runs.proofs.Loops.{each_mapped}
use Rattle.frame_update.specs.Ready.{IsPrepared}

-- the steps ------------------------------------------------------------------------------------------------------------------

module _ (script : Script) (document : ℕ) where
  abbrev pub scroll_one : ModelContainer → World → Said World
  scroll_one target = while_active document (λ now. fire script (FiredScroll (container_text (now.names) target)) (event_target_of target) events.Scroll now)

  -- the pending list, taken
  pub scrolls_taken : (items : List Container) (world now : World) → seen_containers items ≡ pending_of document (world.scrolls) →
      now ≡ record world { scrolls = without_pending document (world.scrolls) } →
      scroll_steps script document world ≡ for_each (λ item. scroll_one (seen_container item)) items now
  unfolding scroll_steps
  scrolls_taken items world now are is =
      ap (λ (targets : List ModelContainer). for_each scroll_one targets (record world { scrolls = without_pending document (world.scrolls) })) (sym are)
      ∙ ap (λ (state : World). for_each scroll_one (seen_containers items) state) (sym is)
      ∙ sym (each_mapped scroll_one seen_container items now)

-- targets that there are -----------------------------------------------------------------------------------------------------

abbrev pub IsThere : World → Container → Type 0
IsThere world item = IsScrollIn (counts_of 0 world) (seen_container item)

-- the one at a place
pub one_of_all : {A : Type 0} (P : A → Type 0) (items : List A) (i : ℕ) (item : A) → AllByRecursion P items → i < length items → item ≡ get_or items i item → P item
one_of_all P [] i item all within is = absurd (omega (arith, within))
one_of_all P (x ∷ xs) zero item all within is = subst P (sym is) (all.0)
one_of_all P (x ∷ xs) (suc i) item all within is = one_of_all P xs i item (all.1) (omega (arith, within)) is

any-script : (handlers : ℕ) (world : World) (target : ModelContainer) → IsScrollIn (counts_of handlers world) target → IsScrollIn (counts_of 0 world) target
any-script handlers world (InElement n) is = is
any-script handlers world (InDocument document) is = is

listed-in : (P : ModelContainer → Type 0) (lists : List (List ModelContainer)) (document : ℕ) → AllByRecursion (AllByRecursion P) lists → AllByRecursion P (entry_or [] lists document)
listed-in P [] document all = tt
listed-in P (list ∷ lists) zero all = all.0
listed-in P (list ∷ lists) (suc document) all = listed-in P lists document (all.1)

seen-all : (P : ModelContainer → Type 0) (items : List Container) → AllByRecursion P (seen_containers items) → AllByRecursion (λ item. P (seen_container item)) items
seen-all P [] all = tt
seen-all P (item ∷ items) all = (all.0, seen-all P items (all.1))

-- those on a pending list, in the world once it was taken
pub taken_there : (script : List Item) (document : ℕ) (items : List Container) (world now : World) → IsPrepared script world → seen_containers items ≡ pending_of document (world.scrolls) →
    now ≡ record world { scrolls = without_pending document (world.scrolls) } → AllByRecursion (IsThere now) items
taken_there script document items world now ready are is =
    subst (λ (state : World). AllByRecursion (IsThere state) items) (sym is)
    (seen-all (IsScrollIn (counts_of 0 world)) items
    (subst (λ (targets : List ModelContainer). AllByRecursion (IsScrollIn (counts_of 0 world)) targets) (sym are)
    (all-map (IsScrollIn (counts_of (length (handlers_in script)) world)) (IsScrollIn (counts_of 0 world)) (any-script (length (handlers_in script)) world)
    (pending_of document (world.scrolls))
    (listed-in (IsScrollIn (counts_of (length (handlers_in script)) world)) (world.scrolls.pending) document ready.range.scrolls.pending))))

-- nothing is taken back --------------------------------------------------------------------------------------------------------

there-come : (documents : List Document) (n : ℕ) → n < length documents → IsTrue (is_come_to Fresh (slice_get documents n))
there-come [] n within = absurd (omega (arith, within))
there-come (x ∷ xs) zero within = refl
there-come (x ∷ xs) (suc n) within = there-come xs n (omega (arith, within))

come-there : (documents : List Document) (n : ℕ) → IsTrue (is_come_to Fresh (slice_get documents n)) → n < length documents
come-there [] n come = absurd (true≢false (sym come))
come-there (x ∷ xs) zero come = omega arith
come-there (x ∷ xs) (suc n) come = let within : n < length xs = come-there xs n come in omega (arith, within)

later-there : (before now : World) → IsLater before now → (target : ModelContainer) → IsScrollIn (counts_of 0 before) target → IsScrollIn (counts_of 0 now) target
later-there before now later (InElement n) is = let more : length before.tree.elements ≤ length now.tree.elements = later.elements in omega (arith, more, is)
later-there before now later (InDocument document) is =
    come-there (now.tree.documents) document (later.states Fresh document (there-come (before.tree.documents) document is))

module _ (script : Script) (items : List Container) where
  abbrev AreThere : World → Type 0
  AreThere world = AllByRecursion (IsThere world) items

  call-there : (document handler : ℕ) (world : World) → AreThere world → AreThere (call script document (Some handler) NoEntries world).state
  call-there document handler world there =
      all-map (IsThere world) (IsThere (call script document (Some handler) NoEntries world).state)
      (λ item is. later-there world _ (call-later script document (Some handler) NoEntries world) (seen_container item) is) items there

  invoke-there : (target : EventTarget) (world : World) → AreThere world → AreThere (invoke script target events.Scroll world).state
  unfolding invoke
  invoke-there target world there =
      for_each-keeps AreThere (notify_listener script) (listeners_of target events.Scroll (world.listeners))
      (λ (listener : Listener) now held. only_if-keeps AreThere (call script (document_of_target now (listener.target)) (Some (listener.handler)) NoEntries) now
      (listener_stands listener (now.listeners))
      (call-there (document_of_target now (listener.target)) (listener.handler))
      held) world there

  bubble-there : (target : ModelContainer) (world : World) → AreThere world → AreThere (bubble script (event_target_of target) events.Scroll world).state
  bubble-there (InElement n) world there = there
  bubble-there (InDocument document) world there = invoke-there (WindowTarget document) world there

  fire-there : (line : FiredEvent) (target : ModelContainer) (world : World) → AreThere world → AreThere (fire script line (event_target_of target) events.Scroll world).state
  unfolding fire
  fire-there line target world there =
      then-keeps AreThere (say (EventLine line ∷ []) world followed_by invoke script (event_target_of target) events.Scroll) (bubble script (event_target_of target) events.Scroll)
      (then-keeps AreThere (say (EventLine line ∷ []) world) (invoke script (event_target_of target) events.Scroll) there (invoke-there (event_target_of target)))
      (bubble-there target)

  -- the targets of one list, behind the event of one of them
  pub still_there : (document : ℕ) (target : ModelContainer) (before now : World) → (scroll_one script document target before).state ≡ now → AreThere before → AreThere now
  still_there document target before now is there =
      subst AreThere is
      (only_if-keeps AreThere (λ now. fire script (FiredScroll (container_text (now.names) target)) (event_target_of target) events.Scroll now) before
      (is_active (before.tree) document)
      (λ state held. fire-there (FiredScroll (container_text (state.names) target)) target state held) there)
