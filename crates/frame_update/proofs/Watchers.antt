-- The intersection observers that were made stay while commands are run.
use Rattle.std.proofs.Common.{sym, subst, arith, ◌≤◌}
use Rattle.std.specs.Prelude.{ℕ, [], ◌∷◌, ◌++◌, length, Option, ⊤}
use Rattle.script_model.specs.Syntax.{Action}
use Rattle.page_model.specs.World.{Thing, IntersectionObserver, IntersectionObservers, World}
use Rattle.page_model.specs.Lookups.{change_at}
use Rattle.page_model.specs.Operands.{Present, Handlers}
use Rattle.page_model.specs.Commands.{does}
use Rattle.page_model.specs.Callbacks.{Script, Entries, handler_names, presents, call}
use Rattle.page_laws.specs.Successors.{OnDid}
use Rattle.page_laws.proofs.Lists.{changed, less-more}
use Rattle.page_laws.proofs.Steps.{on_did-map}
use Rattle.page_laws.specs.Changed.{IntersectionChange, Registered, Unregistered, AllUnregistered, QueueTaken, Change, IntersectionObserverMade, IntersectionsChanged}
use Rattle.page_laws.proofs.Commands.{does-any}
use Rattle.page_laws.proofs.Keeping.{carried-by, called-keeps}
use Rattle.page_laws.proofs.Later.{all-so}

module _ (least : ℕ) where
  -- so many observers were made at least
  abbrev pub AreMade : World → Type 0
  AreMade world = least ≤ length world.intersection_observers.made

  module _ (world : World) (made : AreMade world) where
    one-more : (y : IntersectionObserver) → least ≤ length (world.intersection_observers.made ++ y ∷ [])
    one-more y =
        let more : length world.intersection_observers.made ≤ length (world.intersection_observers.made ++ y ∷ []) = less-more (world.intersection_observers.made) y in
        omega (arith, made, more)

    pub changed_made : (change : IntersectionObserver → IntersectionObserver) (place : ℕ) → least ≤ length (change_at change place (world.intersection_observers.made))
    changed_made change place =
        subst (λ (count : ℕ). least ≤ count)
        (sym ((changed (λ (it : IntersectionObserver). ⊤) change (λ it is. is) place (world.intersection_observers.made)).same)) made

    intersections-made : {Known : Thing → Type 0} {after : IntersectionObservers} → IntersectionChange Known (world.intersection_observers) after →
        least ≤ length after.made
    intersections-made (Registered observer n known) = changed_made _ observer
    intersections-made (Unregistered observer n) = changed_made _ observer
    intersections-made (AllUnregistered observer) = changed_made _ observer
    intersections-made (QueueTaken observer) = changed_made _ observer

    change-made : {Known : Thing → Type 0} {handlers : ℕ} {after : World} → Change Known handlers world after → AreMade after
    change-made (IntersectionObserverMade name document handler root margins scroll_margins thresholds known is is_root) = one-more _
    change-made (IntersectionsChanged it change) = intersections-made change
    change-made change = made

    does-made : (handlers : Handlers) (present : Present) (action : Action) → OnDid (does handlers world present action) (λ effect. AreMade (effect.world))
    does-made handlers present action = on_did-map _ _ _ (λ effect change. change-made change) (does-any handlers world present action)

  -- behind a callback
  pub called_made : (script : Script) (document : ℕ) (handler : Option ℕ) (handed : Entries) (world : World) → AreMade world → AreMade (call script document handler handed world).state
  called_made script document handler handed world made =
      called-keeps script AreMade (λ (present : Present). ⊤)
      (carried-by script AreMade (λ (present : Present). ⊤) (λ now room here. here)
      (λ now present action is here. does-made now here (handler_names script) present action) tt)
      document handler handed world (all-so (presents handed)) made
