-- Observers that don't exist.
use Rattle.std.proofs.Common.{◌≡◌, ◌≤◌, ℕ, zero, suc, List, [], ◌∷◌, length, refl, ap, sym, arith}
use Rattle.page_model.specs.Gathering.{without_active}
use Rattle.page_model.specs.IntersectionObserving.{without_queue}
use Rattle.page_model.specs.Lookups.{change_at}
use Rattle.page_model.specs.World.{IntersectionObserver, ResizeObserver}
use Rattle.live_page.specs.Engines.{with_world}
use Rattle.live_page.specs.Lives.{LiveView}

change-past : {A : Type 0} (change : A → A) (place : ℕ) (items : List A) → length items ≤ place → change_at change place items ≡ items
change-past change place [] past = refl
change-past change zero (x ∷ xs) past = absurd (omega (arith, past))
change-past change (suc place) (x ∷ xs) past = ap (λ others. x ∷ others) (change-past change place xs (omega (arith, past)))

pub nothing_ended : (live : LiveView) (observer : ℕ) → length live.page.world.resize_observers.made ≤ observer
    → live ≡ with_world (record (live.page.world) { resize_observers = without_active observer (live.page.world.resize_observers) }) (live.page.kept) live
nothing_ended live observer past =
    ap (λ (made : List ResizeObserver). with_world (record (live.page.world) { resize_observers = record (live.page.world.resize_observers) { made = made } }) (live.page.kept) live)
    (sym (change-past _ observer (live.page.world.resize_observers.made) past))

pub nothing_taken : (live : LiveView) (observer : ℕ) → length live.page.world.intersection_observers.made ≤ observer
    → live ≡ with_world (record (live.page.world) { intersection_observers = without_queue observer (live.page.world.intersection_observers) }) (live.page.kept) live
nothing_taken live observer past =
    ap (λ (made : List IntersectionObserver). with_world (record (live.page.world) { intersection_observers = record (live.page.world.intersection_observers) { made = made } }) (live.page.kept) live)
    (sym (change-past _ observer (live.page.world.intersection_observers.made) past))
