-- Containers and clips at two moments.
use Rattle.std.specs.Prelude.{◌≡◌}
use Rattle.element_tree.specs.declared.container.Container.{Container}
use Rattle.clip_chain.specs.Scenes.{Scene}

-- a spot has the same container and the same clip in both scenes, and is a scroll container in both or in neither
pub record AgreesAt (before after : Scene) (spot : Container) : Type 0 where
  pub container : after.container spot ≡ before.container spot
  pub clip : after.clip spot ≡ before.clip spot
  pub scrolls : after.scrolls spot ≡ before.scrolls spot

-- the scenes agree at all spots except possibly this one
abbrev pub DiffersOnlyAt : Container → Scene → Scene → Type 0
DiffersOnlyAt spot before after = (other : Container) → (¬ other ≡ spot) → AgreesAt before after other

-- a function of scenes whose result at each spot depends on the scene at that spot only
abbrev pub IsSpotwise : (Scene → Scene) → Type 0
IsSpotwise view = (before after : Scene) (spot : Container) → AgreesAt before after spot → AgreesAt (view before) (view after) spot
