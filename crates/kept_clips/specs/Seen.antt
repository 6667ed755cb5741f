-- What was last seen of each spot: its container, its clip, its box, and whether it was a scroll container.
use Rattle.std.specs.Prelude.{ℕ, suc, ◌<◌, ◌-◌, false, List, ◌++◌, length, replicate, slice_set, Option, Some, None, option_and_then, option_map, unwrap_or}
use Rattle.std.specs.List.{slice_index_or}
use Rattle.page_model.specs.Chains.{zero_rect}
use Rattle.element_tree.specs.declared.container.Container.{Container}
use Rattle.element_tree.specs.declared.container.Container.TheVariants.{Element, Document}
use Rattle.clip_chain.specs.Scenes.{Scene}
use Rattle.kept_clips.specs.declared.sightings.Sighting.{Sighting}

-- the elements and the documents' viewports by their numbers, none for one that wasn't seen yet
pub record Seen : Type 0 where
  pub nodes : List (Option Sighting)
  pub views : List (Option Sighting)

abbrev pub sighting_of : Seen → Container → Option Sighting
sighting_of it (Element node) = slice_index_or it.nodes node.0 None
sighting_of it (Document document) = slice_index_or it.views document.0 None

-- the scene as it was last seen: a spot that wasn't seen has no container and no clip. Containers may form a cycle, since they
-- weren't all seen at one moment
abbrev pub scene_seen : Seen → Scene
scene_seen it = record {
  container = λ of. option_and_then (λ (s : Sighting). s.container) (sighting_of it of);
  clip = λ of. option_and_then (λ (s : Sighting). s.clip) (sighting_of it of);
  bounds = λ of. unwrap_or (option_map (λ (s : Sighting). s.bounds) (sighting_of it of)) zero_rect;
  scrolls = λ of. unwrap_or (option_map (λ (s : Sighting). s.scrolls) (sighting_of it of)) false;
  moved = λ of. false;
}

-- the sighting of a spot in a scene
abbrev pub sighting_in : Scene → Container → Sighting
sighting_in scene of = record { container = scene.container of; clip = scene.clip of; bounds = scene.bounds of; scrolls = scene.scrolls of }

abbrev pub with_sighting : Container → Sighting → Seen → Seen
with_sighting (Element node) s it = record it { nodes = slice_set (it.nodes) (node.0) (Some s) }
with_sighting (Document document) s it = record it { views = slice_set (it.views) document.0 (Some s) }

abbrev pub HasRoom : Seen → Container → Type 0
HasRoom it (Element node) = node.0 < length it.nodes
HasRoom it (Document document) = document.0 < length it.views

abbrev pub up_to : ℕ → List (Option Sighting) → List (Option Sighting)
up_to number sightings = sightings ++ replicate (suc number - length sightings) None

-- adds room for a spot and for all spots of its kind with lower numbers; what was seen stays as it is
abbrev pub with_room : Container → Seen → Seen
with_room (Element node) it = record it { nodes = up_to (node.0) (it.nodes) }
with_room (Document document) it = record it { views = up_to document.0 (it.views) }
