-- Chains of containers, from a spot outwards (Intersection Observer, 3.2.7).
use Rattle.std.specs.Prelude.{◌≡◌, List, [], ◌∷◌, Some}
use Rattle.element_tree.specs.declared.container.Container.{Container}
use Rattle.clip_chain.specs.Scenes.{Scene}

-- the chain from a spot passes these spots and then reaches the root for the first time: each of them, and then the root, is the
-- container of the one before, and none of them is the root
abbrev pub Leads : Scene → Container → List Container → Container → Type 0
Leads scene from [] root = scene.container from ≡ Some root
Leads scene from (next ∷ others) root = (scene.container from ≡ Some next) × (¬ next ≡ root) × Leads scene next others root

-- the root is on the chain above a spot
abbrev pub IsAbove : Scene → Container → Container → Type 0
IsAbove scene root from = (between : List Container) × Leads scene from between root
