-- The limits on what a tick goes over by place are kept.
use Rattle.std.proofs.Common.{◌≡◌, refl, sym, ap, subst, arith, ◌≤◌}
use Rattle.std.specs.Prelude.{ℕ, suc, ◌<◌, List, [], ◌∷◌, ◌++◌, length, ⊤}
use Rattle.text_io.specs.Limits.{limit_number}
use Rattle.text_io.specs.declared.kinds.LimitKind.TheVariants as limits
use Rattle.text_io.specs.declared.kinds.Version.{Version}
use Rattle.text_io.specs.declared.kinds.Version.TheVariants.{First, Second}
use Rattle.script_model.specs.Syntax.{Action}
use Rattle.page_model.specs.World.{Thing, ResizeObserver, ResizeObservers, World}
use Rattle.page_model.specs.Lookups.{change_at}
use Rattle.page_model.specs.Operands.{Present, Handlers}
use Rattle.page_model.specs.Commands.{does}
use Rattle.page_laws.specs.Successors.{OnDid}
use Rattle.page_laws.specs.Bounds.{AreTasksWithin, IsWithinLimits}
use Rattle.page_laws.proofs.Steps.{on_did-map}
use Rattle.page_laws.proofs.Lists.{changed}
use Rattle.page_laws.specs.Changed.{ResizeChange, Observed, Unobserved, Disconnected, Change, TreeChanged, FrameMade, ResizeObserverMade, ResizeChanged, QueryListMade, TaskPosted}
use Rattle.page_laws.proofs.Commands.{does-any}
use Rattle.page_laws.proofs.Trees.{edited}
use Rattle.page_laws.proofs.Waiting.{tasks-alike, posted-within}

-- no version lets more commands begin
pub most-commands : (version : Version) → limit_number version limits.Commands ≤ 2000000
most-commands First = omega arith
most-commands Second = omega arith

length-more : {A : Type 0} (xs : List A) (y : A) → length (xs ++ y ∷ []) ≡ suc (length xs)
length-more [] y = refl
length-more (x ∷ xs) y = ap suc (length-more xs y)

one-fits : {A : Type 0} (most : ℕ) (xs : List A) (y : A) → length xs < most → length (xs ++ y ∷ []) ≤ most
one-fits most xs y less = let more : length (xs ++ y ∷ []) ≡ suc (length xs) = length-more xs y in omega arith

length-changed : (change : ResizeObserver → ResizeObserver) (place : ℕ) (xs : List ResizeObserver) → length (change_at change place xs) ≡ length xs
length-changed change place xs = (changed (λ (it : ResizeObserver). ⊤) change (λ it is. is) place xs).same

resize-same : {Known : Thing → Type 0} (before : ResizeObservers) {after : ResizeObservers} → ResizeChange Known before after →
    length after.made ≡ length before.made
resize-same before (Observed observer n observed known) = length-changed _ observer (before.made)
resize-same before (Unobserved observer n) = length-changed _ observer (before.made)
resize-same before (Disconnected observer) = length-changed _ observer (before.made)

module _ (world : World) (within : IsWithinLimits world) where
  made-within : (after : World) → length after.resize_observers.made ≤ limit_number (world.version) limits.ResizeObservers →
      length after.queries ≤ limit_number (world.version) limits.Queries → after.begun ≡ world.begun → after.version ≡ world.version →
      (AreTasksWithin world → AreTasksWithin after) → IsWithinLimits after
  made-within after observers queries begun version tasks = record {
    tasks = tasks (within.tasks);
    resize_observers = observers;
    queries = queries;
    commands = subst (λ (it : Version). after.begun ≤ limit_number it limits.Commands) (sym version) (omega (arith, within.commands, begun));
  }

  pub as-many : (after : World) → length after.resize_observers.made ≡ length world.resize_observers.made → length after.queries ≡ length world.queries →
      after.begun ≡ world.begun → after.version ≡ world.version → (AreTasksWithin world → AreTasksWithin after) → IsWithinLimits after
  as-many after observers queries begun version tasks =
      made-within after (omega (arith, within.resize_observers, observers)) (omega (arith, within.queries, queries)) begun version tasks

  pub counted-within : world.begun < limit_number (world.version) limits.Commands → IsWithinLimits (record world { begun = suc world.begun })
  counted-within room =
      let one_more : suc world.begun ≤ limit_number (world.version) limits.Commands = omega (arith, room) in
      let tasks : AreTasksWithin (record world { begun = suc world.begun }) = tasks-alike world _ refl refl refl (within.tasks) in
      assumption

  module _ {Known : Thing → Type 0} {handlers : ℕ} where
    pub change-within : {after : World} → Change Known handlers world after → IsWithinLimits after
    change-within (TreeChanged tree change) =
        as-many _ refl refl refl refl (tasks-alike world _ (edited (world.tree) change).documents refl refl)
    change-within (FrameMade name inside document known less) =
        made-within _ within.resize_observers within.queries refl refl (λ tasks. record {
          documents = one-fits _ (world.tree.documents) _ less;
          marks = tasks.marks;
          posted = tasks.posted;
          notifying = tasks.notifying;
        })
    change-within (ResizeObserverMade name document handler known is less) =
        made-within _ (one-fits _ (world.resize_observers.made) _ less) within.queries refl refl (tasks-alike world _ refl refl refl)
    change-within (ResizeChanged it change) = as-many _ (resize-same (world.resize_observers) change) refl refl refl (tasks-alike world _ refl refl refl)
    change-within (QueryListMade name document query matched known less) =
        made-within _ within.resize_observers (one-fits _ (world.queries) _ less) refl refl (tasks-alike world _ refl refl refl)
    change-within (TaskPosted document handler known is less) =
        made-within _ within.resize_observers within.queries refl refl (posted-within world document handler less)
    change-within change = as-many _ refl refl refl refl (tasks-alike world _ refl refl refl)

  pub does-within : (handlers : Handlers) (present : Present) (action : Action) →
      OnDid (does handlers world present action) (λ effect. IsWithinLimits (effect.world))
  does-within handlers present action = on_did-map _ _ _ (λ effect change. change-within change) (does-any handlers world present action)
