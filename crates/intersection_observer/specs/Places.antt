-- Registrations by their serial numbers: the observer and the target of each.
use Rattle.std.specs.Prelude.{◌≡◌, ℕ, suc, Bool, true, ◌==◌, List, [], ◌∷◌, find, Option, None, option_map, is_some}
use Rattle.std.specs.Option.{option_or}
use Rattle.page_model.specs.World.{Registration, IntersectionObserver, IntersectionObservers}

-- an observer and a target of it
pub record Standing : Type 0 where
  pub watcher : ℕ
  pub target : ℕ

abbrev pub has_serial : ℕ → Registration → Bool
has_serial serial it = it.serial == serial

-- the target of the registration with this serial number in a list
abbrev pub target_in : ℕ → List Registration → Option ℕ
target_in serial registrations = option_map (λ (it : Registration). it.target) (find (has_serial serial) registrations)

-- its observer and target among several observers, the first of which has the number `watcher`
abbrev pub standing_from : ℕ → ℕ → List IntersectionObserver → Option Standing
standing_from serial watcher [] = None
standing_from serial watcher (it ∷ others) =
    option_or
    (option_map (λ target. record { watcher = watcher; target = target }) (target_in serial (it.registrations)))
    (standing_from serial (suc watcher) others)

-- the observer and the target of the registration with a serial number, none if there is no such registration
abbrev pub standing_of : ℕ → IntersectionObservers → Option Standing
standing_of serial it = standing_from serial 0 it.made

abbrev pub IsStanding : ℕ → IntersectionObservers → Type 0
IsStanding serial it = is_some (standing_of serial it) ≡ true
