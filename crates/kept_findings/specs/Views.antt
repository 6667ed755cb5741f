-- Scenes as the observers of registrations see them.
use Rattle.std.specs.Prelude.{ℕ, List}
use Rattle.script_model.specs.Margins.{Margins}
use Rattle.page_model.specs.World.{IntersectionObservers}
use Rattle.page_model.specs.Lookups.{intersection_observer_at, scroll_margins_at}
use Rattle.clip_chain.specs.Scenes.{Scene, through}
use Rattle.clip_chain.specs.Worlds.{spot_of_root}
use Rattle.candidate_index.specs.Registrations.{place_of}

-- through an observer's scroll margins, which don't apply to its root
abbrev pub seen_by : IntersectionObservers → List Margins → ℕ → Scene → Scene
seen_by watchers margins watcher scene = through (spot_of_root (intersection_observer_at watchers watcher).root) (scroll_margins_at margins watcher) scene

-- through those of a registration's observer
abbrev pub seen_for : IntersectionObservers → List Margins → ℕ → Scene → Scene
seen_for watchers margins serial scene = seen_by watchers margins (place_of watchers serial).watcher scene
