-- What doesn't change while no command begins.
use Rattle.std.specs.Prelude.{◌≡◌, ◌≤◌}
use Rattle.page_model.specs.World.{World}

-- no fewer commands have begun than before, and if no further one has begun, nothing has changed
pub record IsStill (before now : World) : Type 0 where
  pub begun : before.begun ≤ now.begun
  pub same : now.begun ≡ before.begun → now ≡ before

-- the same except for the resize observers, whose lists a round changes by itself
pub record IsStillOutside (before now : World) : Type 0 where
  pub begun : before.begun ≤ now.begun
  pub same : now.begun ≡ before.begun → now ≡ record before { resize_observers = now.resize_observers }
