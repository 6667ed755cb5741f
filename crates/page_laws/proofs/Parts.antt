-- What the steps of the other parts make of them leaves their numbers in range.
use Rattle.std.proofs.Common.{◌≡◌, subst}
use Rattle.std.specs.Prelude.{ℕ, zero, suc, ◌<◌, ◌≤◌, length, ℤ, Bool, true, false, cond, List, [], ◌∷◌, ◌++◌, Some, IfSome, slice_get, unwrap_or}
use Rattle.std.specs.List.{AllByRecursion, list_any}
use Rattle.page_model.specs.World.{Extent, Screen, Container, InElement, InDocument, Scrolls, Observation, ResizeObserver, ResizeObservers, Registration, Entry, IntersectionObserver, IntersectionObservers, Table, Tree, World}
use Rattle.page_model.specs.Lookups.{no_extent, change_at, put_at, element_at, is_same_container}
use Rattle.page_model.specs.Documents.{is_root_element, document_of_container}
use Rattle.page_model.specs.PageBoxes.{is_scroller}
use Rattle.page_model.specs.ResizeObserving.{without_observed}
use Rattle.page_model.specs.Scrolls.{pending_of, with_position, with_pending, moved_unless}
use Rattle.page_model.specs.Scrolling.{scrolled_element, scrolled_thing, scrolled_to}
use Rattle.page_model.specs.Ranges.{Counts, counts_of, IsScrollIn, AreScrollsIn, AreObserved, IsResizeObserverIn, IsIntersectionObserverIn, IsTreeIn, IsThingIn, IsInRange}
use Rattle.page_laws.proofs.Lists.{IsKept, all-add, all-filter, all-put, put-within, changed}
use Rattle.page_laws.proofs.Ranges.{with-scrolls}
use Rattle.page_laws.specs.Changed.{ResizeChange, Observed, Unobserved, Disconnected, IntersectionChange, Registered, Unregistered, AllUnregistered, QueueTaken, TableChange, Entered, Kept}
use Rattle.page_laws.proofs.Trees.{IsContainerIn, found-in}

-- observers

-- with other lists
pub lists-in : (counts : Counts) (it : ResizeObserver) → IsResizeObserverIn counts it → (targets active skipped : List Observation) →
    AreObserved counts targets → AreObserved counts active → AreObserved counts skipped →
    IsResizeObserverIn counts (record it { targets = targets; active = active; skipped = skipped })
lists-in counts it is targets active skipped all due passed =
    record { document = is.document; handler = is.handler; targets = all; active = due; skipped = passed }

pub registered-in : (counts : Counts) (it : IntersectionObserver) → IsIntersectionObserverIn counts it → (registrations : List Registration) (queue : List Entry) →
    AllByRecursion (λ (each : Registration). each.target < counts.elements) registrations → AllByRecursion (λ (each : Entry). each.target < counts.elements) queue →
    IsIntersectionObserverIn counts (record it { registrations = registrations; queue = queue })
registered-in counts it is registrations queue all queued =
    record { document = is.document; handler = is.handler; root = is.root; registrations = all; queue = queued }

pub resize-changed : (counts : Counts) (it : ResizeObservers) (observer : ℕ) (change : ResizeObserver → ResizeObserver) →
    ((each : ResizeObserver) → IsResizeObserverIn counts each → IsResizeObserverIn counts (change each)) →
    IsKept (IsResizeObserverIn counts) it.made (change_at change observer (it.made))
resize-changed counts it observer change each = changed (IsResizeObserverIn counts) change each observer (it.made)

pub resize-kept : (counts : Counts) (before : ResizeObservers) {after : ResizeObservers} → ResizeChange (IsThingIn counts) before after →
    IsKept (IsResizeObserverIn counts) before.made after.made
resize-kept counts before (Observed observer n observed known) =
    resize-changed counts before observer _ (λ each is. lists-in counts each is _ _ _
    (all-add _ (without_observed n (each.targets)) _ (all-filter _ _ (each.targets) is.targets) known) is.active is.skipped)
resize-kept counts before (Unobserved observer n) =
    resize-changed counts before observer _
    (λ each is. lists-in counts each is _ _ _ (all-filter _ _ (each.targets) is.targets) is.active is.skipped)
resize-kept counts before (Disconnected observer) =
    resize-changed counts before observer _ (λ each is. lists-in counts each is [] [] _ tt tt is.skipped)

intersection-changed : (counts : Counts) (it : IntersectionObservers) (observer : ℕ) (change : IntersectionObserver → IntersectionObserver) →
    ((each : IntersectionObserver) → IsIntersectionObserverIn counts each → IsIntersectionObserverIn counts (change each)) →
    IsKept (IsIntersectionObserverIn counts) it.made (change_at change observer (it.made))
intersection-changed counts it observer change each = changed (IsIntersectionObserverIn counts) change each observer (it.made)

pub intersections-kept : (counts : Counts) (before : IntersectionObservers) {after : IntersectionObservers} → IntersectionChange (IsThingIn counts) before after →
    IsKept (IsIntersectionObserverIn counts) before.made after.made
intersections-kept counts before (Registered observer n known) =
    intersection-changed counts before observer _
    (λ each is. registered-in counts each is _ _ (all-add _ (each.registrations) _ is.registrations known) is.queue)
intersections-kept counts before (Unregistered observer n) =
    intersection-changed counts before observer _
    (λ each is. registered-in counts each is _ _ (all-filter _ _ (each.registrations) is.registrations) is.queue)
intersections-kept counts before (AllUnregistered observer) =
    intersection-changed counts before observer _ (λ each is. registered-in counts each is [] _ tt is.queue)
intersections-kept counts before (QueueTaken observer) =
    intersection-changed counts before observer _ (λ each is. registered-in counts each is _ [] is.registrations tt)

-- tables

pub table-kept : {A : Type 0} {Holds : A → Type 0} (P : A → Type 0) → ((x : A) → Holds x → P x) → {before after : Table A} → TableChange A Holds before after →
    AllByRecursion P before.held → AllByRecursion P after.held
table-kept P each {before = before} (Entered make holds) all = all-add P (before.held) _ all (each _ holds)
table-kept P each {before = before} (Kept test) all = all-filter P test (before.held) all

-- scrolling

entry-in : (P : Container → Type 0) (place : ℕ) (lists : List (List Container)) → AllByRecursion (AllByRecursion P) lists →
    AllByRecursion P (unwrap_or (slice_get lists place) [])
entry-in P place [] all = tt
entry-in P zero (x ∷ xs) all = all.0
entry-in P (suc place) (x ∷ xs) all = entry-in P place xs (all.1)

pub pending-in : (counts : Counts) (document : ℕ) (it : Scrolls) → AreScrollsIn counts it → AllByRecursion (IsScrollIn counts) (pending_of document it)
pending-in counts document it are = entry-in (IsScrollIn counts) document (it.pending) are.pending

module _ (counts : Counts) where
  listed-in : (target : Container) (pending : List Container) (already : Bool) → IsScrollIn counts target → AllByRecursion (IsScrollIn counts) pending →
      AllByRecursion (IsScrollIn counts) (cond already pending (pending ++ target ∷ []))
  listed-in target pending true is all = all
  listed-in target pending false is all = all-add (IsScrollIn counts) pending target all is

  position-in : (target : Container) (position : Extent) (it : Scrolls) → IsScrollIn counts target → AreScrollsIn counts it →
      AreScrollsIn counts (with_position target position it)
  position-in (InElement n) position it is are =
      let fits : length (put_at no_extent n position (it.elements)) ≤ counts.elements = put-within (counts.elements) _ n position (it.elements) is are.elements in
      assumption
  position-in (InDocument document) position it is are =
      let fits : length (put_at no_extent document position (it.documents)) ≤ counts.documents =
      put-within (counts.documents) _ document position (it.documents) is are.documents in assumption

  put-pending-in : (document : ℕ) (target : Container) (it : Scrolls) → document < counts.documents → IsScrollIn counts target → AreScrollsIn counts it →
      AreScrollsIn counts (with_pending document target it)
  put-pending-in document target it is-document is are = record {
    elements = are.elements;
    documents = are.documents;
    listed = put-within (counts.documents) [] document _ (it.pending) is-document are.listed;
    pending =
        all-put (AllByRecursion (IsScrollIn counts)) [] document _ (it.pending) tt
        (listed-in target (pending_of document it) (list_any (is_same_container target) (pending_of document it)) is
        (pending-in counts document it are)) are.pending;
  }

  scrolled-in : (already : Bool) (document : ℕ) (target : Container) (position : Extent) (it : Scrolls) → document < counts.documents →
      IsScrollIn counts target → AreScrollsIn counts it → AreScrollsIn counts (moved_unless already document target position it)
  scrolled-in true document target position it is-document is are = are
  scrolled-in false document target position it is-document is are = put-pending-in document target _ is-document is (position-in target position it is are)

  element-scroll-in : (tree : Tree) (n : ℕ) (is_root scrolls : Bool) → 0 < counts.documents → IsTreeIn counts tree → n < counts.elements →
      IfSome (scrolled_element n (element_at tree n).document is_root scrolls) (IsScrollIn counts)
  element-scroll-in tree n true scrolls top within is-n = (found-in counts (tree.elements) n top within.elements).document
  element-scroll-in tree n false true top within is-n = is-n
  element-scroll-in tree n false false top within is-n = tt

  thing-scroll-in : (tree : Tree) (screen : Screen) (container : Container) → 0 < counts.documents → IsTreeIn counts tree → IsContainerIn counts container →
      IfSome (scrolled_thing tree screen container) (IsScrollIn counts)
  thing-scroll-in tree screen (InElement n) top within is-in = element-scroll-in tree n (is_root_element tree n) (is_scroller tree screen n) top within is-in
  thing-scroll-in tree screen (InDocument document) top within is-in = is-in

  list-document-in : (tree : Tree) (target : Container) → 0 < counts.documents → IsTreeIn counts tree → IsScrollIn counts target →
      document_of_container tree target < counts.documents
  list-document-in tree (InElement n) top within is = (found-in counts (tree.elements) n top within.elements).document
  list-document-in tree (InDocument document) top within is = is

module _ (handlers : ℕ) (world : World) (within : IsInRange handlers world) where
  pub scroll-in : (left top : ℤ) (container : Container) (target : Container) → IsContainerIn (counts_of handlers world) container →
      scrolled_thing (world.tree) (world.viewports.screen) container ≡ Some target → IsInRange handlers (scrolled_to left top (Some target) world)
  scroll-in left top container target there is =
      let counts : Counts = counts_of handlers world in
      let in_range : IsScrollIn counts target =
      subst (λ found. IfSome found (IsScrollIn counts)) is
      (thing-scroll-in counts (world.tree) (world.viewports.screen) container within.top within.tree there) in
      with-scrolls counts world _ within
      (scrolled-in counts _ (document_of_container (world.tree) target) target _ (world.scrolls)
      (list-document-in counts (world.tree) target within.top within.tree in_range) in_range within.scrolls)
