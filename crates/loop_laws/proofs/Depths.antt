-- Depths of elements: the least one that a broadcast delivers; that an element of which no inclusive ancestor is taken out of its parent
-- stands at least as deep as before; and so that a round delivers deeper targets only, unless a command of it uproots what was gathered.
use Rattle.std.proofs.Common.{arith, ◌≤◌, ◌≡◌, ◌≢◌, refl, sym, subst, tests, true≢false}
use Rattle.std.specs.Prelude.{ℕ, zero, suc, ◌<◌, min, fold, List, [], ◌∷◌, ◌++◌, length, map, Option, Some, None, IfSome, unwrap_or, Bool, true, false, ◌&&◌, ◌==◌, is_some, ⊤, ◌+◌, cond, count_by}
use Rattle.std.specs.List.{AllByRecursion, list_any}
use Rattle.std.proofs.lemmas.List.Sums.{sum_by-cons}
use Rattle.std.proofs.lemmas.Bool.{or_parts}
use Rattle.layout_model.specs.Nodes.{Node, path_above, path_up, path_of, depth_of, levels, is_among, is_in_path}
use Rattle.script_model.specs.TraceLines.{TraceLine}
use Rattle.script_model.specs.Syntax.{Operand, Action, Simple}
use Rattle.page_model.specs.World.{Tree, World, Observation, Name, ResizeObserver}
use Rattle.page_model.specs.Documents.{nodes_of, element_depth, is_inclusive_ancestor}
use Rattle.page_model.specs.Gathering.{SizeEntry, sight_of, size_entry, is_of, due_at}
use Rattle.page_model.specs.Callbacks.{Script, handler_names}
use Rattle.page_model.specs.Loop.{Broadcast, shallower, deliver_some, broadcast}
use Rattle.page_model.specs.Lookups.{element_at}
use Rattle.page_model.specs.Steps.{Step, Did, Threw, Met, Effect, is_did}
use Rattle.page_model.specs.Operands.{Present, element_meant}
use Rattle.page_model.specs.Commands.{does}
use Rattle.page_laws.proofs.Lists.{all-mapped, all-map}
use Rattle.page_laws.specs.Successors.{OnDid}
use Rattle.page_laws.proofs.Steps.{on_did-all, on_did-with}
use Rattle.page_laws.proofs.Keeping.{counted}
use Rattle.page_laws.specs.Bounds.{IsWithinLimits}
use Rattle.page_laws.proofs.Later.{all-so}
use Rattle.loop_laws.specs.Rounds.{deepest, round_depth, goes_on, IsDeeper}
use Rattle.loop_laws.specs.WholeLoops.{delivered_depths}
use Rattle.loop_laws.specs.Moments.{Moment, delivery_moments, broadcast_moments}
use Rattle.loop_laws.specs.Uprooting.{moved_operand, comes_to, stands_above, lifts, uproots, targets_of, gathered_targets, uprootings}
use Rattle.loop_laws.proofs.Folds.{all-each, all-joined, all-split, IsJoined, all-two}
use Rattle.loop_laws.proofs.Walk.{due_of, broadcast-along, moment_of, on_did-given, IsAlong, IsDelivered, any-call, delivery-along}
use Rattle.loop_laws.proofs.Effects.{KeepsParents, IsSpared, does-done}
use Rattle.loop_laws.proofs.Found.{round-finds}
use Rattle.loop_laws.proofs.Waiting.{AreDue, due_in, all-if, reported-due, emptied-due}

-- no depth is past the bound of a path, nor is one 0

above-levels : (high : ℕ) (up : ℕ → List ℕ) (parent : Option ℕ) → ((p : ℕ) → length (up p) ≤ suc high) → length (path_above up parent) ≤ suc high
above-levels high up None each = omega arith
above-levels high up (Some p) each = each p

path-levels : (at : ℕ → Node) (high n : ℕ) → length (path_up high at n) ≤ suc high
unfolding path_up
path-levels at zero n = omega arith
path-levels at (suc high) n =
    let above : length (path_above (path_up high at) (at n).parent) ≤ suc high = above-levels high (path_up high at) (at n).parent (path-levels at high) in
    omega (arith, above)

pub depth-bounded : (tree : Tree) (n : ℕ) → element_depth tree n ≤ deepest
unfolding element_depth depth_of path_of
depth-bounded tree n = path-levels (nodes_of tree) levels n

one-or-more : (at : ℕ → Node) (high n : ℕ) → 0 < length (path_up high at n)
unfolding path_up
one-or-more at zero n = omega arith
one-or-more at (suc high) n = omega arith

pub depth-positive : (tree : Tree) (n : ℕ) → 0 < element_depth tree n
unfolding element_depth depth_of path_of
depth-positive tree n = one-or-more (nodes_of tree) levels n

-- the least depth of entries

module _ (P : ℕ → Type 0) (least : (a b : ℕ) → P a → P b → P (min a b)) where
  shallower-in : (so_far : Option ℕ) (entry : SizeEntry) → IfSome so_far P → P (entry.depth) → IfSome (shallower so_far entry) P
  shallower-in None entry held is = is
  shallower-in (Some depth) entry held is = least depth (entry.depth) held is

  entries-in : (entries : List SizeEntry) (so_far : Option ℕ) → IfSome so_far P → AllByRecursion (λ (entry : SizeEntry). P (entry.depth)) entries →
      IfSome (fold shallower so_far entries) P
  entries-in [] so_far held all = held
  entries-in (entry ∷ entries) so_far held all = entries-in entries (shallower so_far entry) (shallower-in so_far entry held (all.0)) (all.1)

  -- what is delivered, whatever its callback does
  pub delivered-in : (script : Script) (document observer : ℕ) (so_far : Broadcast) (delivered : List Observation) → IfSome (so_far.shallowest) P →
      AllByRecursion (λ (it : Observation). P (element_depth (so_far.world.tree) (it.target))) delivered →
      IfSome (deliver_some script document observer so_far delivered).state.shallowest P
  delivered-in script document observer so_far [] held all = held
  delivered-in script document observer so_far (first ∷ others) held all =
      entries-in (map (size_entry (sight_of (so_far.world))) (first ∷ others)) (so_far.shallowest) held
      (all-mapped (λ (it : Observation). P (element_depth (so_far.world.tree) (it.target))) (λ (entry : SizeEntry). P (entry.depth))
      (size_entry (sight_of (so_far.world))) (λ it is. is) (first ∷ others) all)

module _ (script : Script) (document : ℕ) where
  abbrev depths_now : ℕ → Broadcast → List ℕ
  depths_now observer so_far = map (λ (it : Observation). element_depth (so_far.world.tree) (it.target)) (due_of document observer so_far)

  unmapped : (P : ℕ → Type 0) (tree : Tree) (delivered : List Observation) →
      AllByRecursion P (map (λ (it : Observation). element_depth tree (it.target)) delivered) →
      AllByRecursion (λ (it : Observation). P (element_depth tree (it.target))) delivered
  unmapped P tree [] all = tt
  unmapped P tree (it ∷ others) all = (all.0, unmapped P tree others (all.1))

  -- where `P` holds of the depths that are delivered, it holds of the least one
  pub shallowest-in : (P : ℕ → Type 0) → ((a b : ℕ) → P a → P b → P (min a b)) → (world : World) →
      AllByRecursion P (delivered_depths script document world) → IfSome (broadcast script document world).state.shallowest P
  unfolding delivered_depths
  shallowest-in P least world all =
      broadcast-along script document
      (λ (before : Broadcast) (lines : List TraceLine) (depths : List ℕ) (now : Broadcast).
      AllByRecursion P depths → IfSome (before.shallowest) P → IfSome (now.shallowest) P)
      (record {
        none = λ so_far all held. held;
        both = λ a b c lines more xs ys one other all held. let parts = all-split P xs ys all in other (parts.1) (one (parts.0) held);
      })
      depths_now
      (λ observer so_far all held. delivered-in P least script document observer so_far (due_of document observer so_far) held
      (unmapped P (so_far.world.tree) (due_of document observer so_far) all))
      world all tt

  -- what holds of every depth holds of those that are delivered
  pub all-delivered : (P : ℕ → Type 0) → ((tree : Tree) (n : ℕ) → P (element_depth tree n)) → (world : World) →
      AllByRecursion P (delivered_depths script document world)
  unfolding delivered_depths
  all-delivered P each world =
      broadcast-along script document (λ (before : Broadcast) (lines : List TraceLine) (depths : List ℕ) (now : Broadcast). AllByRecursion P depths)
      (all-joined P)
      depths_now
      (λ observer so_far. all-mapped (λ (it : Observation). P (element_depth (so_far.world.tree) (it.target))) P
      (λ (it : Observation). element_depth (so_far.world.tree) (it.target)) (λ it is. is) (due_of document observer so_far)
      (all-each _ (due_of document observer so_far) (λ it. each (so_far.world.tree) (it.target))))
      world

or-none : (P : ℕ → Type 0) (found : Option ℕ) → P 0 → IfSome found P → P (unwrap_or found 0)
or-none P None none held = none
or-none P (Some depth) none held = held

pub round_depth-bounded : (script : Script) (document : ℕ) (world : World) → round_depth script document world ≤ deepest
unfolding round_depth
round_depth-bounded script document world =
    or-none (λ depth. depth ≤ deepest) (broadcast script document world).state.shallowest (omega arith)
    (shallowest-in script document (λ depth. depth ≤ deepest) (λ a b one other. omega (arith, one, other)) world
    (all-delivered script document (λ depth. depth ≤ deepest) depth-bounded world))

-- what no test finds among these targets it doesn't find of this one, which is among them
abbrev pub IsMeant : List ℕ → ℕ → Type 0
IsMeant targets target = (test : ℕ → Bool) → list_any test targets ≡ false → test target ≡ false

module _ (tree after : Tree) where
  -- an element's parent, if it has one, is the same afterwards
  abbrev IsFixed : ℕ → Type 0
  IsFixed m = IfSome (element_at tree m).parent (λ p. (element_at after m).parent ≡ Some p)

  above-longer : (high : ℕ) (parent parent' : Option ℕ) → IfSome parent (λ p. parent' ≡ Some p) →
      ((p : ℕ) → AllByRecursion IsFixed (path_up high (nodes_of tree) p) → length (path_up high (nodes_of tree) p) ≤ length (path_up high (nodes_of after) p)) →
      AllByRecursion IsFixed (path_above (path_up high (nodes_of tree)) parent) →
      length (path_above (path_up high (nodes_of tree)) parent) ≤ length (path_above (path_up high (nodes_of after)) parent')
  above-longer high None parent' same each fixed = omega arith
  above-longer high (Some p) parent' same each fixed =
      subst (λ (above : Option ℕ). length (path_up high (nodes_of tree) p) ≤ length (path_above (path_up high (nodes_of after)) above)) (sym same) (each p fixed)

  path-longer : (high m : ℕ) → AllByRecursion IsFixed (path_up high (nodes_of tree) m) →
      length (path_up high (nodes_of tree) m) ≤ length (path_up high (nodes_of after) m)
  unfolding path_up
  path-longer zero m fixed = omega arith
  path-longer (suc high) m fixed =
      let above : length (path_above (path_up high (nodes_of tree)) (nodes_of tree m).parent) ≤ length (path_above (path_up high (nodes_of after)) (nodes_of after m).parent) =
      above-longer high (nodes_of tree m).parent (nodes_of after m).parent (fixed.0) (path-longer high) (fixed.1) in
      omega (arith, above)

  kept-fixed : (parent parent' : Option ℕ) → parent' ≡ parent → IfSome parent (λ p. parent' ≡ Some p)
  kept-fixed None parent' same = tt
  kept-fixed (Some p) parent' same = same

  free-fixed : (m : ℕ) → is_some (element_at tree m).parent ≡ false → IsFixed m
  free-fixed m free = by (element_at tree m).parent free
    where
      by : (parent : Option ℕ) → is_some parent ≡ false → IfSome parent (λ p. (element_at after m).parent ≡ Some p)
      by None free = tt
      by (Some p) free = absurd (true≢false free)

  different : (n m : ℕ) → (n == m) ≡ false → m ≢ n
  different n m none same = grind (arith, tests)

  others-among : (n : ℕ) (path : List ℕ) → is_among n path ≡ false → AllByRecursion (λ m. m ≢ n) path
  unfolding is_among
  others-among n [] none = tt
  others-among n (m ∷ path) none = let parts = or_parts (n == m) (is_among n path) none in (different n m (parts.0), others-among n path (parts.1))

  -- of a path, where an element is moved that has no parent or isn't in the path
  step-fixed : (step : Step ℕ) (targets : List ℕ) → KeepsParents (λ m. OnDid step (λ n. m ≢ n)) tree after →
      comes_to step (stands_above tree targets) ≡ false → (target : ℕ) → IsMeant targets target → AllByRecursion IsFixed (path_of (nodes_of tree) target)
  unfolding is_inclusive_ancestor is_in_path OnDid
  step-fixed (Did n) targets keeps none target meant = by (is_some (element_at tree n).parent) refl none
    where
      kept : (m : ℕ) → m ≢ n → IsFixed m
      kept m other = kept-fixed (element_at tree m).parent _ (keeps.same m other)

      by_number : (free : is_some (element_at tree n).parent ≡ false) (m : ℕ) (same : Bool) → (n == m) ≡ same → IsFixed m
      by_number free m true is = subst IsFixed (let equal : n ≡ m = grind (arith, tests, is) in equal) (free-fixed n free)
      by_number free m false is = kept m (different n m is)

      by : (parent : Bool) → is_some (element_at tree n).parent ≡ parent → (parent && list_any (is_inclusive_ancestor tree n) targets) ≡ false →
          AllByRecursion IsFixed (path_of (nodes_of tree) target)
      by true is none =
          all-map (λ m. m ≢ n) IsFixed kept (path_of (nodes_of tree) target)
          (others-among n (path_of (nodes_of tree) target) (meant (is_inclusive_ancestor tree n) none))
      by false is none = all-each IsFixed (path_of (nodes_of tree) target) (λ m. by_number is m (n == m) refl)
  step-fixed (Threw exception) targets keeps none target meant =
      all-each IsFixed (path_of (nodes_of tree) target) (λ m. kept-fixed (element_at tree m).parent _ (keeps.same m tt))
  step-fixed (Met limit) targets keeps none target meant =
      all-each IsFixed (path_of (nodes_of tree) target) (λ m. kept-fixed (element_at tree m).parent _ (keeps.same m tt))

module _ (names : List Name) (present : Present) (tree : Tree) (targets : List ℕ) where
  -- an action that takes no inclusive ancestor of the targets out of its parent
  abbrev MovesNone : Option Operand → Type 0
  MovesNone None = ⊤
  MovesNone (Some moved) = comes_to (element_meant names present moved) (stands_above tree targets) ≡ false

  pub depth-kept : (after : Tree) (moved : Option Operand) → KeepsParents (IsSpared names present moved) tree after → MovesNone moved →
      (target : ℕ) → IsMeant targets target → element_depth tree target ≤ element_depth after target
  unfolding element_depth depth_of path_of
  depth-kept after None keeps none target meant =
      path-longer tree after levels target (all-each (IsFixed tree after) (path_of (nodes_of tree) target)
      (λ m. kept-fixed tree after (element_at tree m).parent _ (keeps.same m tt)))
  depth-kept after (Some moved) keeps none target meant =
      path-longer tree after levels target (step-fixed tree after (element_meant names present moved) targets keeps none target meant)

-- a moment that uproots none of the targets
abbrev pub IsGentle : Script → List ℕ → Moment → Type 0
IsGentle script targets now = uproots script targets now ≡ false

did-none : (step : Step Effect) (rest : Bool) → (is_did step && rest) ≡ false → OnDid step (λ effect. rest ≡ false)
unfolding OnDid
did-none (Did effect) rest none = none
did-none (Threw exception) rest none = tt
did-none (Met limit) rest none = tt

pub gentle-moves : (script : Script) (targets : List ℕ) (line : ℕ) (action : Action) (present : Present) (world : World) →
    IsGentle script targets (moment_of world present (Simple line action)) →
    OnDid (does (handler_names script) (counted world) present action) (λ effect. MovesNone (world.names) present (world.tree) targets (moved_operand action))
unfolding uproots
gentle-moves script targets line action present world gentle = by (moved_operand action) gentle
  where
    by : (moved : Option Operand) → lifts script targets (moment_of world present (Simple line action)) action moved ≡ false →
        OnDid (does (handler_names script) (counted world) present action) (λ effect. MovesNone (world.names) present (world.tree) targets moved)
    by None gentle = on_did-all _ _ (λ effect. tt)
    by (Some moved) gentle = did-none (does (handler_names script) (counted world) present action) _ gentle

-- what waits as a round begins stands among the targets

any-behind : (test : ℕ → Bool) (xs ys : List ℕ) → list_any test (xs ++ ys) ≡ false → list_any test ys ≡ false
any-behind test [] ys none = none
any-behind test (x ∷ xs) ys none = any-behind test xs ys ((or_parts (test x) _ none).1)

own-meant : (active : List Observation) (others : List ℕ) →
    AllByRecursion (λ (it : Observation). IsMeant (map (λ (each : Observation). each.target) active ++ others) (it.target)) active
own-meant [] others = tt
own-meant (x ∷ xs) others = (
  (λ test none. (or_parts (test (x.target)) _ none).0),
  all-map _ (λ (it : Observation). IsMeant (x.target ∷ (map (λ (each : Observation). each.target) xs ++ others)) (it.target))
      (λ it meant test none. meant test ((or_parts (test (x.target)) _ none).1)) xs (own-meant xs others),
)

if-meant : (own : Bool) (active : List Observation) (others : List ℕ) →
    AllByRecursion (λ (it : Observation). IsMeant (cond own (map (λ (each : Observation). each.target) active) [] ++ others) (it.target)) (cond own active [])
if-meant true active others = own-meant active others
if-meant false active others = tt

among : (document : ℕ) (made : List ResizeObserver) (observer : ℕ) →
    AllByRecursion (λ (it : Observation). IsMeant (targets_of document made) (it.target)) (due_in document made observer)
among document [] observer = all-if _ (0 == document) [] tt
among document (x ∷ xs) zero = if-meant (is_of document x) (x.active) (targets_of document xs)
among document (x ∷ xs) (suc observer) =
    all-map (λ (it : Observation). IsMeant (targets_of document xs) (it.target)) (λ (it : Observation). IsMeant (targets_of document (x ∷ xs)) (it.target))
    (λ it meant test none. meant test (any-behind test (cond (is_of document x) (map (λ (each : Observation). each.target) (x.active)) []) (targets_of document xs) none))
    (due_in document xs observer) (among document xs observer)

-- a round ------------------------------------------------------------------------------------------------------------------

module _ (script : Script) (document depth : ℕ) (start : World) where
  abbrev targets : List ℕ
  targets = gathered_targets document start

  -- a target that was gathered for, and was deeper then
  record IsDeep (it : Observation) : Type 0 where
    deep : depth < element_depth (start.tree) (it.target)
    meant : IsMeant targets (it.target)

  -- the targets are as deep as they were, and all that waits is as it was gathered
  record IsGoing (world : World) : Type 0 where
    depths : (target : ℕ) → IsMeant targets target → element_depth (start.tree) target ≤ element_depth (world.tree) target
    due : AreDue IsDeep document world.resize_observers

  abbrev Goes : World → List TraceLine → List Moment → World → Type 0
  Goes before lines moments now = AllByRecursion (IsGentle script targets) moments → IsGoing before → IsGoing now

  goes-joined : IsJoined Goes
  goes-joined = record {
    none = λ world gentle going. going;
    both = λ a b c lines more xs ys one other gentle going. let parts = all-split (IsGentle script targets) xs ys gentle in other (parts.1) (one (parts.0) going);
  }

  goes-along : IsAlong script (λ (action : Action). ⊤) (λ (present : Present). ⊤) Goes
  goes-along = record {
    joined = goes-joined;
    plain = λ world lines plain gentle going. going;
    begun = λ world present command fits is room gentle going. record { depths = going.depths; due = going.due };
    does = λ line action present world fits is room. on_did-given (does (handler_names script) (counted world) present action)
        (AllByRecursion (IsGentle script targets) (moment_of world present (Simple line action) ∷ [])) (λ effect. IsGoing world → IsGoing (effect.world)) λ gentle.
        on_did-with (does (handler_names script) (counted world) present action) _ _ (λ effect. IsGoing world → IsGoing (effect.world))
        (λ effect done none going. record {
          depths = λ target meant.
              let more = depth-kept (world.names) present (world.tree) targets (effect.world.tree) (moved_operand action) (done.parents) none target meant in
              omega (arith, going.depths target meant, more);
          due = done.due going.due;
        })
        (does-done IsDeep document (handler_names script) (counted world) present action)
        (gentle-moves script targets line action present world (gentle.0));
    none = tt;
  }

  goes-delivered : IsDelivered script document (λ (world : World). ⊤) (λ (k : ℕ) (present : Present). ⊤) Goes
  goes-delivered = record {
    joined = goes-joined;
    due = λ observer world here. all-so _;
    calls = λ observer delivered handed world are here. (
      tt,
      λ gentle going.
          any-call script Goes goes-along document _ handed _ gentle
          (record { depths = going.depths; due = reported-due IsDeep document (world.resize_observers) (sight_of world) observer delivered (going.due) }),
    );
    emptied = λ observer before world lines moments is here there. (
      tt,
      λ gentle going.
          let last = there gentle going in
          record { depths = last.depths; due = emptied-due IsDeep document (world.resize_observers) observer (last.due) },
    );
  }

  -- with the least depth of what was delivered so far
  record IsFalling (so_far : Broadcast) : Type 0 where
    going : IsGoing (so_far.world)
    least : IfSome (so_far.shallowest) (λ d. depth < d)

  broadcast-falls : AllByRecursion (IsGentle script targets) (broadcast_moments script document start) → IsGoing start → IsFalling (broadcast script document start).state
  unfolding broadcast_moments
  broadcast-falls gentle going =
      broadcast-along script document
      (λ (before : Broadcast) (lines : List TraceLine) (moments : List Moment) (now : Broadcast).
      AllByRecursion (IsGentle script targets) moments → IsFalling before → IsFalling now)
      (record {
        none = λ so_far gentle here. here;
        both = λ a b c lines more xs ys one other gentle here.
            let parts = all-split (IsGentle script targets) xs ys gentle in other (parts.1) (one (parts.0) here);
      })
      (λ observer so_far. delivery_moments script document observer so_far (due_of document observer so_far))
      (λ observer so_far gentle here. record {
        going = (delivery-along script document _ _ Goes goes-delivered observer so_far tt).1 gentle (here.going);
        least = delivered-in (λ d. depth < d) (λ a b one other. omega (arith, one, other)) script document observer so_far (due_of document observer so_far) (here.least)
            (all-map IsDeep (λ (it : Observation). depth < element_depth (so_far.world.tree) (it.target))
            (λ it is. omega (arith, is.deep, here.going.depths (it.target) (is.meant))) (due_of document observer so_far) (here.going.due.each observer));
      })
      start gentle (record { going = going; least = tt })

  first-going : IsDeeper document depth start → IsGoing start
  first-going deeper = record {
    depths = λ target meant. omega arith;
    due = record {
      each = λ o. all-two (λ (it : Observation). depth < element_depth (start.tree) (it.target)) (λ (it : Observation). IsMeant targets (it.target)) IsDeep
          (λ it deep meant. record { deep = deep; meant = meant }) (due_at document o (start.resize_observers)) (deeper.each o)
          (among document (start.resize_observers.made) o);
    };
  }

-- the law ----------------------------------------------------------------------------------------------------------------------

one-of-two : (test : Bool) (others : ℕ) → cond test 1 0 + others ≡ 0 → (test ≡ false) × (others ≡ 0)
one-of-two true others none = absurd (let impossible : ⊥ = omega (arith, none) in impossible)
one-of-two false others none = (refl, omega (arith, none))

all-none : {A : Type 0} (test : A → Bool) (xs : List A) → count_by test xs ≡ 0 → AllByRecursion (λ x. test x ≡ false) xs
all-none test [] none = tt
all-none test (x ∷ xs) none =
    let sum : count_by test (x ∷ xs) ≡ cond (test x) 1 0 + count_by test xs = sum_by-cons (λ x. cond (test x) 1 0) x xs in
    let parts = one-of-two (test x) (count_by test xs) (omega (arith, sum, none)) in
    (parts.0, all-none test xs (parts.1))

pub of-some : (P : ℕ → Type 0) (found : Option ℕ) → is_some found ≡ true → IfSome found P → P (unwrap_or found 0)
of-some P None some held = absurd (true≢false (sym some))
of-some P (Some depth) some held = held

pub rounds-go-deeper : (script : Script) (document depth : ℕ) (start : World) → IsWithinLimits start → IsDeeper document depth start →
    goes_on document start ≡ true → uprootings script document start ≡ 0 → depth < round_depth script document start
unfolding round_depth uprootings
rounds-go-deeper script document depth start within deeper goes none =
    let gentle = all-none (uproots script (gathered_targets document start)) (broadcast_moments script document start) none in
    of-some (λ d. depth < d) (broadcast script document start).state.shallowest (round-finds script document start (within.resize_observers) goes)
    (broadcast-falls script document depth start gentle (first-going script document depth start deeper)).least
