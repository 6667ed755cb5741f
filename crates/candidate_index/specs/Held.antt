-- What is kept of registrations, by their serial numbers, and which are stale.
use Rattle.std.specs.Prelude.{◌≡◌, ℕ, Bool, true, not, List, Option, Some, None, IfSome, IsTrue, unwrap_or}
use Rattle.std.specs.Ordering.{nat_cmp}
use Rattle.std.specs.FinMap.{FinMap, get, contains_key}
use Rattle.candidate_index.specs.declared.basis.Basis.{Basis}
use Rattle.candidate_index.specs.declared.index.Kept.{Kept}
use Rattle.page_model.specs.World.{Root, IntersectionObservers}
use Rattle.element_tree.specs.declared.container.Container.{Container}
use Rattle.clip_chain.specs.Scenes.{Scene}
use Rattle.candidate_index.specs.declared.scene.Standing.{Standing}
use Rattle.candidate_index.specs.Bases.{is_same_basis}
use Rattle.candidate_index.specs.Findings.{found_from}
use Rattle.candidate_index.specs.Registrations.{observer_of, basis_for}
use Rattle.intersection_observer.specs.Seen.{seen_finding}

-- what is kept of the last computation, none if there was none
abbrev pub kept_of : FinMap nat_cmp (Option Kept) → ℕ → Option Kept
kept_of it serial = unwrap_or (get it serial) None

abbrev pub IsAdded : FinMap nat_cmp (Option Kept) → ℕ → Type 0
IsAdded it serial = IsTrue (contains_key it serial)

-- never computed, or computed from another basis
abbrev pub is_stale : Option Kept → Basis → Bool
is_stale None now = true
is_stale (Some kept) now = not (is_same_basis kept.basis now)

-- whether the registration with a serial number is stale now, given the spots between its target and its root
abbrev pub is_stale_now : Scene → (Root → ℕ → Standing) → IntersectionObservers → (ℕ → List Container) → FinMap nat_cmp (Option Kept) → ℕ → Bool
is_stale_now scene standings it between kept serial = is_stale (kept_of kept serial) (basis_for scene standings it serial (between serial))

-- the finding that is kept, if any, follows from its basis with these thresholds
abbrev pub IsFound : List ℕ → Option Kept → Type 0
IsFound thresholds kept = IfSome kept (λ (it : Kept). seen_finding it.finding ≡ found_from thresholds it.basis)

-- the same for each registration, with its observer's thresholds
pub record AreFound (watchers : IntersectionObservers) (kept : FinMap nat_cmp (Option Kept)) : Type 0 where
  pub found : (serial : ℕ) → IsFound (observer_of watchers serial).thresholds (kept_of kept serial)
