-- Which spots were looked at in an update, so that none is looked at twice.
use Rattle.std.specs.Prelude.{◌≡◌, ℕ, ◌<◌, ◌+◌, Bool, true, false, List, length, replicate, slice_set, count_by, Some}
use Rattle.std.specs.List.{slice_index_or}
use Rattle.element_tree.specs.declared.container.Container.{Container}
use Rattle.element_tree.specs.declared.container.Container.TheVariants.{Element, Document}
use Rattle.clip_chain.specs.Scenes.{Scene}
use Rattle.kept_clips.specs.Seen.{Seen, sighting_of, sighting_in, HasRoom}
use Rattle.kept_clips.specs.Looked.{IsInRange}

-- elements and documents by their numbers
pub record LookedAt : Type 0 where
  pub nodes : List Bool
  pub views : List Bool

abbrev pub is_looked : LookedAt → Container → Bool
is_looked it (Element node) = slice_index_or it.nodes node.0 false
is_looked it (Document document) = slice_index_or it.views document.0 false

abbrev pub IsNoted : LookedAt → Container → Type 0
IsNoted it spot = is_looked it spot ≡ true

-- how many were looked at
abbrev pub looked_count : LookedAt → ℕ
looked_count it = count_by (λ is. is) it.nodes + count_by (λ is. is) it.views

abbrev pub HasPlace : LookedAt → Container → Type 0
HasPlace it (Element node) = node.0 < length it.nodes
HasPlace it (Document document) = document.0 < length it.views

-- no spot was looked at; each spot that has room in `seen` has a place
abbrev pub no_looks : Seen → LookedAt
no_looks seen = record { nodes = replicate (length seen.nodes) false; views = replicate (length seen.views) false }

-- after a spot was looked at
abbrev pub noted : Container → LookedAt → LookedAt
noted (Element node) it = record it { nodes = slice_set (it.nodes) (node.0) true }
noted (Document document) it = record it { views = slice_set (it.views) document.0 true }

-- a spot was last seen as it is now, and is in range
pub record IsSeenNow (scene : Scene) (rank : Container → ℕ) (seen : Seen) (spot : Container) : Type 0 where
  pub sighting : sighting_of seen spot ≡ Some (sighting_in scene spot)
  pub in_range : IsInRange scene rank spot

-- the same for each spot that was looked at; and each spot that has room in `seen` has a place
pub record AreLooked (scene : Scene) (rank : Container → ℕ) (seen : Seen) (looks : LookedAt) : Type 0 where
  pub looked : (spot : Container) → IsNoted looks spot → IsSeenNow scene rank seen spot
  pub place : (spot : Container) → HasRoom seen spot → HasPlace looks spot
