-- A selection of an observer's registrations, such as the stale ones.
use Rattle.std.specs.Prelude.{◌≡◌, ℕ, Bool, false, List, filter, Some}
use Rattle.page_model.specs.World.{Finding, Registration, IntersectionObservers}
use Rattle.intersection_observer.specs.Places.{standing_of}
use Rattle.intersection_observer.specs.Settling.{is_news_for}

-- those whose serial numbers pass a test
abbrev pub chosen : (ℕ → Bool) → List Registration → List Registration
chosen test registrations = filter (λ (it : Registration). test (it.serial)) registrations

-- a registration belongs to an observer, and what is found of its target isn't news unless it was chosen
pub record IsQuiet (test : ℕ → Bool) (find : ℕ → Finding) (watcher : ℕ) (it : IntersectionObservers) (registration : Registration) : Type 0 where
  pub found : standing_of registration.serial it ≡ Some (record { watcher = watcher; target = registration.target })
  pub quiet : test registration.serial ≡ false → is_news_for registration.serial (find registration.target) it ≡ false
