-- The chains of registrations: where they lead, and that the spots on them were last seen as they are.
use Rattle.std.specs.Prelude.{◌≡◌, ℕ, List, [], ◌∷◌, ◌++◌}
use Rattle.std.specs.List.{AllByRecursion}
use Rattle.script_model.specs.Margins.{Margins}
use Rattle.page_model.specs.World.{Root, Finding, IntersectionObserver, IntersectionObservers}
use Rattle.element_tree.specs.declared.container.Container.{Container}
use Rattle.clip_chain.specs.Scenes.{Scene, through}
use Rattle.clip_chain.specs.Chains.{Leads, IsAbove}
use Rattle.clip_chain.specs.Worlds.{element_spot, spot_of_root}
use Rattle.kept_clips.specs.Held.{HeldClips}
use Rattle.kept_clips.specs.Scenes.{AgreesAt}
use Rattle.kept_clips.specs.Seen.{Seen, scene_seen}
use Rattle.kept_clips.specs.Looked.{MayBeSeen}
use Rattle.candidate_index.specs.declared.scene.Standing.{Standing}
use Rattle.candidate_index.specs.declared.scene.Standing.TheVariants.{Apart, NoBox, Chained}
use Rattle.candidate_index.specs.Findings.{finding_over}
use Rattle.candidate_index.specs.Registrations.{observer_of, target_of, standing_for, IfChained}

-- a property of each spot of a chain, both ends included
abbrev pub EachAlong : (Container → Type 0) → Scene → Container → Container → Type 0
EachAlong P scene of root = (between : List Container) → Leads scene of between root → AllByRecursion P (of ∷ (between ++ root ∷ []))

-- another spot
abbrev pub IsNot : Container → Container → Type 0
IsNot spot other = ¬ other ≡ spot

-- where a target is chained to a root, a chain leads from the target to the root
abbrev pub AreChained : Scene → (Root → ℕ → Standing) → Type 0
AreChained scene standings = (root : Root) (target : ℕ) → IfChained (standings root target) (IsAbove scene (spot_of_root root) (element_spot target))

-- a property of each spot on the chain of a registration, if it leads to the root
abbrev pub AlongChain : (Container → Type 0) → Scene → (Root → ℕ → Standing) → IntersectionObservers → ℕ → Type 0
AlongChain P scene standings it serial =
    IfChained (standing_for standings it serial)
    (EachAlong P scene (element_spot (target_of it serial)) (spot_of_root (observer_of it serial).root))

-- each spot on it may be looked at
abbrev pub MayBeWalked : Scene → (Root → ℕ → Standing) → IntersectionObservers → Seen → HeldClips → ℕ → Type 0
MayBeWalked scene standings it seen clips serial = AlongChain (MayBeSeen seen clips) scene standings it serial

-- what was last seen of each spot on it agrees with the spot as it is now
abbrev pub IsWalked : Scene → (Root → ℕ → Standing) → IntersectionObservers → Seen → ℕ → Type 0
IsWalked scene standings it seen serial = AlongChain (AgreesAt (scene_seen seen) scene) scene standings it serial

-- the spots strictly between if a chain leads from a target to a root, else none

abbrev pub between_by : (s : Standing) (scene : Scene) (root target : Container) → IfChained s (IsAbove scene root target) → List Container
between_by Apart scene root target above = []
between_by NoBox scene root target above = []
between_by Chained scene root target above = above.0

abbrev pub chain_between : (scene : Scene) (standings : Root → ℕ → Standing) → AreChained scene standings → Root → ℕ → List Container
chain_between scene standings chained root target = between_by (standings root target) scene (spot_of_root root) (element_spot target) (chained root target)

abbrev pub spots_between : (scene : Scene) (standings : Root → ℕ → Standing) → AreChained scene standings → IntersectionObservers → ℕ → List Container
spots_between scene standings chained it serial = chain_between scene standings chained (observer_of it serial).root (target_of it serial)

-- what an observer with these scroll margins finds of a target, after `telling` has translated it
abbrev pub found_in : (scene : Scene) (standings : Root → ℕ → Standing) → AreChained scene standings → (Root → ℕ → Finding → Finding) → Margins → IntersectionObserver → ℕ → Finding
found_in scene standings chained telling margins observer target =
    telling
    (observer.root)
    target
    (finding_over (through (spot_of_root observer.root) margins scene) (standings (observer.root) target) observer target (chain_between scene standings chained (observer.root) target))
