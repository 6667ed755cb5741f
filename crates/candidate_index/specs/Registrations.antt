-- Registrations by their serial numbers: what is found of their targets, and what is required of the clips held for them.
use Rattle.std.specs.Prelude.{◌≡◌, ℕ, false, List, map, unwrap_or}
use Rattle.page_model.specs.World.{Root, Finding, Registration, IntersectionObserver, IntersectionObservers}
use Rattle.page_model.specs.Lookups.{intersection_observer_at}
use Rattle.element_tree.specs.declared.container.Container.{Container}
use Rattle.clip_chain.specs.Scenes.{Scene}
use Rattle.clip_chain.specs.Chains.{Leads, IsAbove}
use Rattle.clip_chain.specs.Worlds.{element_spot, spot_of_root}
use Rattle.kept_clips.specs.Held.{HeldClips, IsHeld, pair_of}
use Rattle.kept_clips.specs.Chains.{IsExact}
use Rattle.intersection_observer.specs.Places.{Standing as Place, standing_of}
use Rattle.intersection_observer.specs.Serials.{registrations_at}
use Rattle.candidate_index.specs.declared.scene.Standing.{Standing}
use Rattle.candidate_index.specs.declared.scene.Standing.TheVariants.{Apart, NoBox, Chained}
use Rattle.candidate_index.specs.declared.basis.Basis.{Basis}
use Rattle.candidate_index.specs.Findings.{finding_over, basis_over}

-- the serial numbers of an observer's registrations, in order
abbrev pub serials_at : IntersectionObservers → ℕ → List ℕ
serials_at it watcher = map (λ (registration : Registration). registration.serial) (registrations_at it watcher)

-- the observer and the target of a registration that exists

abbrev pub place_of : IntersectionObservers → ℕ → Place
place_of it serial = unwrap_or (standing_of serial it) (record { watcher = 0; target = 0 })

abbrev pub observer_of : IntersectionObservers → ℕ → IntersectionObserver
observer_of it serial = intersection_observer_at it (place_of it serial).watcher

abbrev pub target_of : IntersectionObservers → ℕ → ℕ
target_of it serial = (place_of it serial).target

-- given the relation of each target to each root

abbrev pub standing_for : (Root → ℕ → Standing) → IntersectionObservers → ℕ → Standing
standing_for standings it serial = standings (observer_of it serial).root (target_of it serial)

abbrev pub basis_for : Scene → (Root → ℕ → Standing) → IntersectionObservers → ℕ → List Container → Basis
basis_for scene standings it serial between = basis_over scene (standing_for standings it serial) (observer_of it serial) (target_of it serial) between

abbrev pub finding_for : Scene → (Root → ℕ → Standing) → IntersectionObservers → ℕ → List Container → Finding
finding_for scene standings it serial between = finding_over scene (standing_for standings it serial) (observer_of it serial) (target_of it serial) between

abbrev pub IfChained : Standing → Type 0 → Type 0
IfChained Apart fact = Unit {0}
IfChained NoBox fact = Unit {0}
IfChained Chained fact = fact

-- `between` gives the spots strictly between the target and the root, for a registration whose chain leads to the root
abbrev pub IsBetween : Scene → (Root → ℕ → Standing) → IntersectionObservers → (ℕ → List Container) → ℕ → Type 0
IsBetween scene standings it between serial =
    IfChained (standing_for standings it serial)
    (Leads scene (element_spot (target_of it serial)) (between serial) (spot_of_root (observer_of it serial).root))

-- a pair with this root and this target is held under a serial number, the root is on the chain above the target, and the clip is
-- exact if it is still valid
pub record HasClip (scene : Scene) (clips : HeldClips) (serial : ℕ) (root : Root) (target : ℕ) : Type 0 where
  pub held : IsHeld clips serial
  pub root_held : (pair_of clips serial).root ≡ spot_of_root root
  pub target_held : (pair_of clips serial).of ≡ element_spot target
  pub above : IsAbove scene (spot_of_root root) (element_spot target)
  pub exact : IsExact scene clips serial

-- a registration whose chain leads to the root has its clip
abbrev pub IsReady : Scene → (Root → ℕ → Standing) → IntersectionObservers → HeldClips → ℕ → Type 0
IsReady scene standings it clips serial =
    IfChained (standing_for standings it serial) (HasClip scene clips serial (observer_of it serial).root (target_of it serial))

-- scroll margins don't move the clip of a registration's root
abbrev pub IsRootUnmoved : Scene → IntersectionObservers → ℕ → Type 0
IsRootUnmoved scene it serial = scene.moved (spot_of_root (observer_of it serial).root) ≡ false
