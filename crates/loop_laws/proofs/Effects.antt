-- What each command leaves: a task more at most, nothing more that waits to be delivered, and the parent of each element but of the one
-- that it moves.
use Rattle.std.proofs.Common.{◌≡◌, ◌≢◌, refl, sym, subst, ◌∙◌, arith, ◌≤◌}
use Rattle.std.specs.Prelude.{ℕ, zero, suc, List, [], ◌∷◌, ◌++◌, length, Option, Some, None, ℤ, ⊤}
use Rattle.layout_model.specs.Items.{Kind, Item}
use Rattle.script_model.specs.Syntax.{Dimension, Operand, Action, Append, Before, Remove, Grow, Load, MakeResizeObserver, ObserveResize, UnobserveResize, DisconnectResize}
use Rattle.page_model.specs.World.{Element, Observation, ResizeObservers, Container, Task, Tree, Name, World, InElement, InDocument}
use Rattle.page_model.specs.Documents.{container_of, removed, linked, inserted, adopted, shown, inclusive_descendants}
use Rattle.page_model.specs.Edits.{with_element, with_frame, change_item}
use Rattle.page_model.specs.Scrolling.{scrolled_to, scrolled_by}
use Rattle.page_model.specs.Steps.{Step, Did, Effect}
use Rattle.page_model.specs.Operands.{Present, Handlers, element_meant}
use Rattle.page_model.specs.Commands.{does, with_tree, with_intersections, with_listeners, making, growing, loading, placing}
use Rattle.page_laws.specs.Successors.{OnDid}
use Rattle.page_laws.proofs.Steps.{bind, bind-in, known, both, did, of_did}
use Rattle.page_laws.proofs.Depths.{parent_in, parent-kept, parent-kept_each, parent-unlinked, parent-elsewhere}
use Rattle.loop_laws.specs.Uprooting.{moved_operand}
use Rattle.loop_laws.proofs.Waiting.{AreDue, more-due, target-due, no-target-due, no-targets-due}

-- parents ------------------------------------------------------------------------------------------------------------------

-- an element that is made has no parent, as one that isn't there
parent-more : (y : Element) → y.parent ≡ None → (xs : List Element) (m : ℕ) → parent_in (xs ++ y ∷ []) m ≡ parent_in xs m
parent-more y none [] zero = none
parent-more y none [] (suc m) = refl
parent-more y none (x ∷ xs) zero = refl
parent-more y none (x ∷ xs) (suc m) = parent-more y none xs m

removed-elsewhere : (tree : Tree) (n m : ℕ) → m ≢ n → parent_in (removed tree n).elements m ≡ parent_in (tree.elements) m
unfolding removed
removed-elsewhere tree n m other = parent-unlinked tree n m (container_of tree n) other

inserted-elsewhere : (tree : Tree) (container : Container) (n : ℕ) (sibling : Option ℕ) (m : ℕ) → m ≢ n →
    parent_in (inserted tree container n sibling).elements m ≡ parent_in (tree.elements) m
unfolding inserted adopted shown
inserted-elsewhere tree (InElement parent) n sibling m other = parent-elsewhere tree parent n sibling m other
inserted-elsewhere tree (InDocument document) n sibling m other =
    let joined = linked (removed tree n) (InDocument document) n sibling in
    parent-kept_each (λ it. record it { document = document }) (λ it. refl) (inclusive_descendants joined n) m (joined.elements)
    ∙ removed-elsewhere tree n m other

-- the elements that are spared have the parents that they had
pub record KeepsParents (Spared : ℕ → Type 0) (before after : Tree) : Type 0 where
  pub same : (m : ℕ) → Spared m → parent_in (after.elements) m ≡ parent_in (before.elements) m

-- whether an element isn't the one that an action moves
abbrev pub IsSpared : List Name → Present → Option Operand → ℕ → Type 0
IsSpared names present None m = ⊤
IsSpared names present (Some node) m = OnDid (element_meant names present node) (λ n. m ≢ n)

module _ (Spared : ℕ → Type 0) (tree : Tree) where
  element-kept : (kind : Kind) (document : ℕ) (framed : Option ℕ) → KeepsParents Spared tree (with_element kind document framed tree)
  element-kept kind document framed = record { same = λ m spared. parent-more _ refl (tree.elements) m }

  frame-kept : (document : ℕ) → KeepsParents Spared tree (with_frame document tree)
  frame-kept document = record { same = λ m spared. parent-more _ refl (tree.elements) m }

  item-kept : (change : Item → Item) (n : ℕ) → KeepsParents Spared tree (change_item change n tree)
  item-kept change n = record { same = λ m spared. parent-kept (λ it. record it { item = change (it.item) }) (λ it. refl) n m (tree.elements) }

  growing-kept : (dimension : Dimension) (n : ℕ) (by : ℤ) → OnDid (growing dimension n by tree) (KeepsParents Spared tree)
  unfolding growing
  growing-kept dimension n by = search (bind, did, item-kept) depth 9

  loading-kept : (n width height : ℕ) → OnDid (loading n width height tree) (KeepsParents Spared tree)
  unfolding loading
  loading-kept n width height = search (both, did, item-kept) depth 9

  module _ (n : ℕ) (others : (m : ℕ) → Spared m → m ≢ n) where
    removed-kept : KeepsParents Spared tree (removed tree n)
    removed-kept = record { same = λ m spared. removed-elsewhere tree n m (others m spared) }

    inserted-kept : (container : Container) (sibling : Option ℕ) → KeepsParents Spared tree (inserted tree container n sibling)
    inserted-kept container sibling = record { same = λ m spared. inserted-elsewhere tree container n sibling m (others m spared) }

    placing-kept : (container : Container) (sibling : Option ℕ) → OnDid (placing container n sibling tree) (KeepsParents Spared tree)
    unfolding placing
    placing-kept container sibling = search (both, did, inserted-kept) depth 9

module _ (names : List Name) (present : Present) (node : Operand) (n : ℕ) (is : element_meant names present node ≡ Did n) (tree : Tree) where
  spared-others : (m : ℕ) → IsSpared names present (Some node) m → m ≢ n
  spared-others m spared = of_did (element_meant names present node) n (λ (n : ℕ). m ≢ n) is spared

  meant-removed : KeepsParents (IsSpared names present (Some node)) tree (removed tree n)
  meant-removed = removed-kept (IsSpared names present (Some node)) tree n spared-others

  meant-placed : (container : Container) (sibling : Option ℕ) →
      OnDid (placing container n sibling tree) (KeepsParents (IsSpared names present (Some node)) tree)
  meant-placed container sibling = placing-kept (IsSpared names present (Some node)) tree n spared-others container sibling

-- worlds -------------------------------------------------------------------------------------------------------------------

one-more : {A : Type 0} (xs : List A) (y : A) → length (xs ++ y ∷ []) ≤ suc (length xs)
one-more [] y = omega arith
one-more (x ∷ xs) y = let more : length (xs ++ y ∷ []) ≤ suc (length xs) = one-more xs y in omega (arith, more)

-- after a command: of what waits for a document's observers, `P` holds where it held of all that waited
pub record IsDone (P : Observation → Type 0) (document : ℕ) (Spared : ℕ → Type 0) (before after : World) : Type 0 where
  pub tasks : length after.tasks ≤ suc (length before.tasks)
  pub due : AreDue P document before.resize_observers → AreDue P document after.resize_observers
  pub parents : KeepsParents Spared before.tree after.tree

module _ (P : Observation → Type 0) (document : ℕ) (Spared : ℕ → Type 0) (world : World) where
  abbrev Done : Effect → Type 0
  Done effect = IsDone P document Spared world (effect.world)

  tree-same : KeepsParents Spared world.tree world.tree
  tree-same = record { same = λ m spared. refl }

  alike : (after : World) → after.tasks ≡ world.tasks → after.resize_observers ≡ world.resize_observers → after.tree ≡ world.tree →
      IsDone P document Spared world after
  alike after tasks observers tree = record {
    tasks = subst (λ (these : List Task). length these ≤ suc (length world.tasks)) (sym tasks) (omega arith);
    due = λ due. subst (λ (it : ResizeObservers). AreDue P document it) (sym observers) due;
    parents = subst (λ (it : Tree). KeepsParents Spared (world.tree) it) (sym tree) tree-same;
  }

  tree-done : (names : List Name) (tree : Tree) → KeepsParents Spared world.tree tree →
      IsDone P document Spared world (record world { names = names; tree = tree })
  tree-done names tree kept = record { tasks = omega arith; due = λ due. due; parents = kept }

  observers-done : (names : List Name) (it : ResizeObservers) → (AreDue P document world.resize_observers → AreDue P document it) →
      IsDone P document Spared world (record world { names = names; resize_observers = it })
  observers-done names it due = record { tasks = omega arith; due = due; parents = tree-same }

  posted-done : (task : Task) → IsDone P document Spared world (record world { tasks = world.tasks ++ task ∷ [] })
  posted-done task = record { tasks = one-more (world.tasks) task; due = λ due. due; parents = tree-same }

  tree-step : (step : Step Tree) → OnDid step (KeepsParents Spared world.tree) → OnDid (with_tree world step) Done
  unfolding with_tree
  tree-step step kept = bind-in step _ _ Done kept (λ tree is. did _ Done (tree-done (world.names) tree is))

  scrolled-done : (left top : ℤ) (target : Option Container) → IsDone P document Spared world (scrolled_to left top target world)
  scrolled-done left top None = alike _ refl refl refl
  scrolled-done left top (Some target) = alike _ refl refl refl

  scrolled-by-done : (left top : ℤ) (target : Option Container) → IsDone P document Spared world (scrolled_by left top target world)
  scrolled-by-done left top None = alike _ refl refl refl
  scrolled-by-done left top (Some target) = alike _ refl refl refl

module _ (P : Observation → Type 0) (document : ℕ) (handlers : Handlers) (world : World) (present : Present) where
  pub does-done : (action : Action) →
      OnDid (does handlers world present action) (λ effect. IsDone P document (IsSpared (world.names) present (moved_operand action)) world (effect.world))
  unfolding does with_intersections with_listeners making
  does-done (Append parent node) = search (bind, known, tree-step, meant-placed) depth 9
  does-done (Before parent node sibling) = search (bind, known, tree-step, meant-placed) depth 9
  does-done (Remove node) = search (known, did, tree-done, meant-removed) depth 9
  does-done (MakeResizeObserver name owner handler) = search (both, bind, did, observers-done, more-due) depth 12
  does-done (ObserveResize observer node observed) = search (both, bind, did, observers-done, target-due) depth 9
  does-done (UnobserveResize observer node) = search (bind, did, observers-done, no-target-due) depth 9
  does-done (DisconnectResize observer) = search (bind, did, observers-done, no-targets-due) depth 9
  does-done (Grow node dimension by) = search (bind, tree-step, growing-kept) depth 9
  does-done (Load node width height) = search (bind, tree-step, loading-kept) depth 9
  does-done action = search (both, bind, did, alike, tree-done, element-kept, frame-kept, item-kept, scrolled-done, scrolled-by-done, posted-done) depth 14
