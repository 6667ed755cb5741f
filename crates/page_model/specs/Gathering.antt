-- Gathering active resize observations at a depth, and delivering them, for given sizes and depths (Resize Observer, 2.3, 3.1 and
-- 3.4).
use Rattle.std.specs.Prelude.{ℕ, Bool, true, false, cond, not, ◌&&◌, ◌==◌, nat_lt, List, [], ◌∷◌, map, filter}
use Rattle.std.specs.List.{list_any}
use Rattle.px_units.specs.declared.BoxKind.{BoxKind}
use Rattle.px_units.specs.declared.BoxKind.TheVariants.{Content, Border, Device}
use Rattle.page_model.specs.World.{Extent, Screen, Tree, Observation, ResizeObserver, ResizeObservers, World}
use Rattle.page_model.specs.Lookups.{same_extent, resize_observer_at, change_resize_observer}
use Rattle.page_model.specs.Documents.{element_depth}
use Rattle.page_model.specs.PageBoxes.{size_of, corner_of}

-- the sizes, corners and depths of elements at one moment, by element number
pub record Sight : Type 0 where
  pub size : ℕ → BoxKind → Extent
  pub corner : ℕ → Extent
  pub depth : ℕ → ℕ

-- those of a tree whose top document is shown on this screen
abbrev pub sight_in : Tree → Screen → Sight
sight_in tree screen = record { size = size_of tree screen; corner = corner_of tree screen; depth = element_depth tree }

-- those of a world
abbrev pub sight_of : World → Sight
sight_of world = sight_in (world.tree) (world.viewports.screen)

abbrev pub observed_size : Sight → Observation → Extent
observed_size sight observation = sight.size (observation.target) (observation.observed)

-- whether the size differs from the last reported one (Resize Observer, 3.1: isActive)
abbrev pub has_changed : Sight → Observation → Bool
has_changed sight observation = not (same_extent (observed_size sight observation) (observation.last))

abbrev pub is_deeper : Sight → ℕ → Observation → Bool
is_deeper sight depth observation = nat_lt depth (sight.depth (observation.target))

-- an observation whose size has changed goes on the active list if its target is deeper than the depth, else on the skipped list
abbrev pub gathered : Sight → ℕ → ResizeObserver → ResizeObserver
gathered sight depth observer =
    let changed = filter (has_changed sight) (observer.targets) in
    record observer {
      active = filter (is_deeper sight depth) changed;
      skipped = filter (λ observation. not (is_deeper sight depth observation)) changed;
    }

abbrev pub is_of : ℕ → ResizeObserver → Bool
is_of document observer = observer.document == document

abbrev pub gathered_if : Bool → Sight → ℕ → ResizeObserver → ResizeObserver
gathered_if true sight depth observer = gathered sight depth observer
gathered_if false sight depth observer = observer

-- gather active resize observations at a depth, for each observer of the document; the others stay as they are
abbrev pub gathering : Sight → ℕ → ℕ → ResizeObservers → ResizeObservers
gathering sight document depth it =
    record it { made = map (λ (observer : ResizeObserver). gathered_if (is_of document observer) sight depth observer) (it.made) }

abbrev pub is_filled : {A : Type 0} → List A → Bool
is_filled [] = false
is_filled (x ∷ xs) = true

-- whether the given list of some observer of the document isn't empty
abbrev pub has_filled : (ResizeObserver → List Observation) → ℕ → ResizeObservers → Bool
has_filled list_in document it = list_any (λ (observer : ResizeObserver). is_of document observer && is_filled (list_in observer)) (it.made)

abbrev pub has_active : ℕ → ResizeObservers → Bool
has_active document it = has_filled (λ observer. observer.active) document it

abbrev pub has_skipped : ℕ → ResizeObservers → Bool
has_skipped document it = has_filled (λ observer. observer.skipped) document it

-- an entry: the content box's corner in the padding box, its size, the border box's size, the content box's size in device pixels, and
-- the target's depth
pub record SizeEntry : Type 0 where
  pub target : ℕ
  pub corner : Extent
  pub content : Extent
  pub border : Extent
  pub device : Extent
  pub depth : ℕ

-- the entry of an active observation, for the boxes as they are now (create and populate a ResizeObserverEntry)
abbrev pub size_entry : Sight → Observation → SizeEntry
size_entry sight observation = record {
  target = observation.target;
  corner = sight.corner (observation.target);
  content = sight.size (observation.target) Content;
  border = sight.size (observation.target) Border;
  device = sight.size (observation.target) Device;
  depth = sight.depth (observation.target);
}

-- sets the last reported size of an observation if it is among those delivered; one made anew for the same target isn't among them
abbrev pub reported : Sight → List Observation → Observation → Observation
reported sight delivered observation =
    cond (list_any (λ (each : Observation). each.serial == observation.serial) delivered)
    (record observation { last = observed_size sight observation })
    observation

-- the sizes of the observations delivered become their last reported sizes
abbrev pub with_reported : Sight → ℕ → List Observation → ResizeObservers → ResizeObservers
with_reported sight observer delivered it =
    change_resize_observer (λ each. record each { targets = map (reported sight delivered) (each.targets) }) observer it

-- clears an observer's list of active targets
abbrev pub without_active : ℕ → ResizeObservers → ResizeObservers
without_active observer it = change_resize_observer (λ each. record each { active = [] }) observer it

-- what an observer has to deliver in a document's broadcast: nothing if it belongs to another document
abbrev pub due_at : ℕ → ℕ → ResizeObservers → List Observation
due_at document observer it =
    let each = resize_observer_at it observer in
    cond (is_of document each) (each.active) []
