-- What an update does to what is kept of registrations: which ones it looks at, which of these are stale, and what it leaves as
-- it was.
use Rattle.std.specs.Prelude.{◌≡◌, ◌⊎◌, ℕ, Bool, true, false, List, slice_get, Option, Some, None, IsSome}
use Rattle.std.specs.Ordering.{nat_cmp}
use Rattle.std.specs.FinMap.{FinMap}
use Rattle.script_model.specs.Margins.{Margins}
use Rattle.page_model.specs.Shown.{Shown}
use Rattle.page_model.specs.World.{Tree, IntersectionObservers}
use Rattle.page_model.specs.Intersections.{is_rooted_in}
use Rattle.element_tree.specs.declared.container.Container.{Container}
use Rattle.clip_chain.specs.Worlds.{scene_of}
use Rattle.intersection_observer.specs.Places.{standing_of, IsStanding}
use Rattle.kept_clips.specs.Held.{HeldClips, pair_of}
use Rattle.kept_clips.specs.Chains.{is_current}
use Rattle.kept_clips.specs.Seen.{Seen, sighting_of, sighting_in}
use Rattle.kept_clips.specs.Looked.{IsLeft, ChangesByLooks}
use Rattle.candidate_index.specs.declared.index.Kept.{Kept}
use Rattle.candidate_index.specs.Registrations.{observer_of, target_of, serials_at, standing_for, IfChained}
use Rattle.candidate_index.specs.Held.{kept_of, is_stale_now}
use Rattle.kept_findings.specs.Held.{HeldFindings}
use Rattle.kept_findings.specs.Walks.{AreChained, AlongChain, IsNot, spots_between}
use Rattle.kept_findings.specs.Views.{seen_for}
use Rattle.kept_findings.specs.Looks.{LookedAt, AreLooked}
use Rattle.page_geometry.specs.Ranks.{rank_of}
use Rattle.page_geometry.specs.Scenes.{standings_of}
use Rattle.intersection_update.specs.Updating.{IsBegun, IsStopped}

-- a chain leads to the root from each target that is chained to it
abbrev pub HaveChains : Shown → Type 0
HaveChains shown = AreChained (scene_of shown) (standings_of shown)

-- whether a registration is stale for the page as shown, which its observer sees through its scroll margins
abbrev pub is_stale_in : (shown : Shown) → List Margins → HaveChains shown → IntersectionObservers → FinMap nat_cmp (Option Kept) → ℕ → Bool
is_stale_in shown margins chained it kept serial =
    is_stale_now (seen_for it margins serial (scene_of shown)) (standings_of shown) it (spots_between (scene_of shown) (standings_of shown) chained it) kept serial

-- the registration with this serial number exists and belongs to this observer
abbrev pub StandsAt : IntersectionObservers → ℕ → ℕ → Type 0
StandsAt it watcher serial = standing_of serial it ≡ Some (record { watcher = watcher; target = target_of it serial })

-- a registration that an update of the document looks at: it exists, and its observer's root is the document or in its tree
pub record IsLookedAt (tree : Tree) (document : ℕ) (it : IntersectionObservers) (serial : ℕ) : Type 0 where
  pub standing : IsStanding serial it
  pub rooted : is_rooted_in tree document (observer_of it serial).root ≡ true

-- each spot on a registration's chain was last seen as it is shown
abbrev pub IsSeen : Shown → IntersectionObservers → Seen → ℕ → Type 0
IsSeen shown it seen serial = AlongChain (λ spot. sighting_of seen spot ≡ Some (sighting_in (scene_of shown) spot)) (scene_of shown) (standings_of shown) it serial

-- a spot isn't on a registration's chain
abbrev pub IsOff : Shown → IntersectionObservers → Container → ℕ → Type 0
IsOff shown it spot serial = AlongChain (IsNot spot) (scene_of shown) (standings_of shown) it serial

-- the spots were looked at that are on the chains of an observer's registrations: each spot is left as it was, or seen to differ
-- and touched; one that is on none of these chains is left, and one that is on some was last seen as it is shown
pub record AreLookedAlong (shown : Shown) (it : IntersectionObservers) (watcher : ℕ) (before now : HeldFindings) : Type 0 where
  pub touched : ChangesByLooks (scene_of shown) before.seen now.seen before.clips.touches now.clips.touches
  pub left : (spot : Container) → ((serial : ℕ) → StandsAt it watcher serial → IsOff shown it spot serial) → IsLeft before.seen now.seen before.clips.touches now.clips.touches spot
  pub seen : (serial : ℕ) → StandsAt it watcher serial → IsSeen shown it now.seen serial

-- the clip that is held for a registration is valid, if a chain leads to its root
abbrev pub HasCurrentClip : (shown : Shown) → HaveChains shown → IntersectionObservers → HeldClips → ℕ → Type 0
HasCurrentClip shown chained it clips serial =
    IfChained (standing_for (standings_of shown) it serial) (is_current clips serial (spots_between (scene_of shown) (standings_of shown) chained it serial) ≡ true)

-- a registration of which a clip was computed still has one
abbrev pub KeepsComputed : (before now : HeldClips) → Type 0
KeepsComputed before now = (serial : ℕ) → IsSome (pair_of before serial).computed → IsSome (pair_of now serial).computed

-- the registration at this place was refused memory, and counts as never computed
pub record IsExpired (it : IntersectionObservers) (watcher place : ℕ) (kept : FinMap nat_cmp (Option Kept)) (serial : ℕ) : Type 0 where
  pub at : slice_get (serials_at it watcher) place ≡ Some serial
  pub none : kept_of kept serial ≡ None

-- what is kept of each registration is as it was, or isn't stale any more; or the registration is the one at this place, which
-- was refused memory
abbrev pub AreKeptTo : (shown : Shown) → List Margins → HaveChains shown → IntersectionObservers → (watcher place : ℕ) → (was kept : FinMap nat_cmp (Option Kept)) → Type 0
AreKeptTo shown margins chained it watcher place was kept =
    (serial : ℕ) → (kept_of kept serial ≡ kept_of was serial) ⊎ ((is_stale_in shown margins chained it kept serial ≡ false) ⊎ IsExpired it watcher place kept serial)

-- an observer was refused memory, at one of its registrations or for the list of the stale ones
pub record IsRefusedAt (shown : Shown) (margins : List Margins) (chained : HaveChains shown) (time watcher : ℕ) (before now : IntersectionObservers) (was kept : FinMap nat_cmp (Option Kept)) : Type 0 where
  pub begun : IsBegun shown margins time watcher before now
  pub rest : AreKeptTo shown margins chained before watcher begun.place was kept

-- an update of a document was refused memory
pub record IsRefused (shown : Shown) (margins : List Margins) (chained : HaveChains shown) (document time : ℕ) (before now : IntersectionObservers) (was kept : FinMap nat_cmp (Option Kept)) : Type 0 where
  pub stopped : IsStopped shown margins shown.tree document time before now
  pub rest : AreKeptTo shown margins chained before stopped.number stopped.place was kept

-- each spot that was looked at was last seen as it is shown
abbrev pub HaveLooked : Shown → Seen → LookedAt → Type 0
HaveLooked shown seen looks = AreLooked (scene_of shown) (rank_of (shown.tree) (shown.screen)) seen looks
