-- Looking at the spots of a scene: a spot that differs from what was last seen of it is touched, and what is seen now is kept.
use Rattle.std.specs.Prelude.{◌≡◌, ◌⊎◌, ℕ, ◌<◌, ◌≤◌, true, false, List, Some, IfSome}
use Rattle.element_tree.specs.declared.container.Container.{Container}
use Rattle.clip_chain.specs.Ranges.{IsClip, IsBounds}
use Rattle.clip_chain.specs.Scenes.{Scene}
use Rattle.kept_clips.specs.Touches.{Touched, last_touch, IsTouchedSince, IsAdded}
use Rattle.kept_clips.specs.Held.{HeldClips, pair_of}
use Rattle.kept_clips.specs.Scenes.{IsSpotwise}
use Rattle.kept_clips.specs.Chains.{stands, IsExact}
use Rattle.kept_clips.specs.Seen.{Seen, sighting_of, scene_seen, sighting_in, HasRoom}

-- a spot is left as it was: its last touch, and what was last seen of it
pub record IsLeft (before now : Seen) (was held : Touched) (spot : Container) : Type 0 where
  pub touch : last_touch held spot ≡ last_touch was spot
  pub sighting : sighting_of now spot ≡ sighting_of before spot

-- a spot that differs from what was last seen of it, or was never seen, is seen as it is now and touched
pub record IsSeenAnew (scene : Scene) (before now : Seen) (was held : Touched) (spot : Container) : Type 0 where
  pub differs : ¬ sighting_of before spot ≡ Some (sighting_in scene spot)
  pub sighting : sighting_of now spot ≡ Some (sighting_in scene spot)
  pub touch : IsTouchedSince was held spot

-- what looking at spots changes: each spot is either left as it was, or seen anew and touched
pub record ChangesByLooks (scene : Scene) (before now : Seen) (was held : Touched) : Type 0 where
  pub each : (spot : Container) → IsLeft before now was held spot ⊎ IsSeenAnew scene before now was held spot
  pub count : was.count ≤ held.count

pub record Looked (scene : Scene) (before now : Seen) (was held : HeldClips) : Type 0 where
  pub spots : ChangesByLooks scene before now was.touches held.touches
  pub pairs : held.pairs ≡ was.pairs
  pub exact : (view : Scene → Scene) → IsSpotwise view → (number : ℕ) → IsExact (view (scene_seen before)) was number → IsExact (view (scene_seen now)) held number
  -- a clip that is valid afterwards was valid before
  pub stood : (number : ℕ) (chain : List Container) → stands held.touches (pair_of was number).computed chain ≡ true → stands was.touches (pair_of was number).computed chain ≡ true
  pub room : (spot : Container) → HasRoom before spot → HasRoom now spot
  pub added : (spot : Container) → IsAdded was.touches spot → IsAdded held.touches spot

-- there is room for looking at a spot
pub record MayBeSeen (seen : Seen) (clips : HeldClips) (spot : Container) : Type 0 where
  pub room : HasRoom seen spot
  pub added : IsAdded clips.touches spot

-- what holds for each spot of a geometry: its container has a lower rank, its clip and its box are in range, and its clip wasn't
-- moved
pub record IsInRange (scene : Scene) (rank : Container → ℕ) (spot : Container) : Type 0 where
  pub container : IfSome (scene.container spot) (λ (next : Container). rank next < rank spot)
  pub clip : IfSome (scene.clip spot) IsClip
  pub bounds : IsBounds (scene.bounds spot)
  pub unmoved : scene.moved spot ≡ false
