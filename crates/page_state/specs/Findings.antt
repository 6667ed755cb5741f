-- How commands and updates change what a page keeps of registrations. That it is kept, and when it is computed, is this project's
-- own.
use Rattle.std.specs.Prelude.{◌≡◌, ◌<◌, ◌≤◌, ◌+◌, ℕ, false, List, IsSome, IfSome}
use Rattle.script_model.specs.Margins.{Margins}
use Rattle.page_model.specs.World.{World, IntersectionObservers}
use Rattle.page_model.specs.Intersections.{is_rooted_in}
use Rattle.page_model.specs.Shown.{Shown, shown_of}
use Rattle.element_tree.specs.declared.container.Container.{Container}
use Rattle.clip_chain.specs.Worlds.{scene_of}
use Rattle.intersection_observer.specs.Places.{IsStanding}
use Rattle.intersection_observer.specs.Seen.{seen_finding}
use Rattle.kept_clips.specs.Touches.{last_touch, last_number}
use Rattle.kept_clips.specs.Held.{pair_at, pair_of}
use Rattle.kept_clips.specs.Seen.{sighting_of}
use Rattle.kept_clips.specs.Looked.{IsLeft, ChangesByLooks}
use Rattle.candidate_index.specs.declared.index.Kept.{Kept}
use Rattle.candidate_index.specs.Held.{kept_of}
use Rattle.candidate_index.specs.Registrations.{place_of, observer_of, target_of}
use Rattle.kept_findings.specs.Held.{HeldFindings}
use Rattle.page_geometry.specs.Scenes.{telling_of}
use Rattle.intersection_update.specs.Keeping.{HaveChains, IsLookedAt, IsSeen, IsOff, is_stale_in, HasCurrentClip, KeepsComputed}
use Rattle.intersection_update.specs.Steps.{most_steps}
use Rattle.intersection_update.specs.Updating.{found_through, updated}
use Rattle.page_state.specs.Boxes.{due_count}
use Rattle.page_state.specs.Views.{PageView}

-- no spot is seen or touched anew, and of each registration that exists before and after, the pair with its clip and what was
-- found stay the same
pub record KeepsFindings (before after : IntersectionObservers) (old new : HeldFindings) : Type 0 where
  pub sightings : (spot : Container) → sighting_of new.seen spot ≡ sighting_of old.seen spot
  pub count : new.clips.touches.count ≡ old.clips.touches.count
  pub touches : (spot : Container) → last_touch new.clips.touches spot ≡ last_touch old.clips.touches spot
  pub pairs : (serial : ℕ) → IsStanding serial before → IsStanding serial after → pair_at new.clips serial ≡ pair_at old.clips serial
  pub findings : (serial : ℕ) → IsStanding serial before → IsStanding serial after → kept_of new.kept serial ≡ kept_of old.kept serial

-- something is kept of the registration: in the coordinates of a world's findings it is what is found through the scroll margins
-- of the registration's observer
pub record IsFound (shown : Shown) (margins : List Margins) (it : IntersectionObservers) (found : HeldFindings) (serial : ℕ) : Type 0 where
  pub some : IsSome (kept_of found.kept serial)
  pub told : IfSome (kept_of found.kept serial)
      (λ (last : Kept). telling_of shown (observer_of it serial).root (target_of it serial) (seen_finding last.finding) ≡ found_through shown margins (place_of it serial).watcher (observer_of it serial) (target_of it serial))

-- what an update of a document does to what is kept: a spot is touched exactly if it is seen to differ from when it was last
-- seen, and only spots on the chains of the registrations that the update looks at are. What was found of a registration stays if
-- it isn't stale. What was found of a registration whose observer's root belongs to another document stays, and so does its clip. A
-- registration of which a clip was computed still has one
pub record Updates (shown : Shown) (margins : List Margins) (document : ℕ) (it : IntersectionObservers) (old new : HeldFindings) : Type 0 where
  pub touched : ChangesByLooks (scene_of shown) old.seen new.seen old.clips.touches new.clips.touches
  pub left : (spot : Container) → ((serial : ℕ) → IsLookedAt shown.tree document it serial → IsOff shown it spot serial) →
      IsLeft old.seen new.seen old.clips.touches new.clips.touches spot
  pub kept : (chained : HaveChains shown) (serial : ℕ) → is_stale_in shown margins chained it old.kept serial ≡ false → kept_of new.kept serial ≡ kept_of old.kept serial
  pub others : (serial : ℕ) → is_rooted_in shown.tree document (observer_of it serial).root ≡ false → kept_of new.kept serial ≡ kept_of old.kept serial
  pub pairs : (serial : ℕ) → is_rooted_in shown.tree document (observer_of it serial).root ≡ false → pair_of new.clips serial ≡ pair_of old.clips serial
  pub computed : KeepsComputed old.clips new.clips

-- for each registration that an update of the document looks at, each spot on its chain was last seen as it is shown now, what is
-- kept of it isn't stale, and its clip is valid, if its chain leads to its root and the count of touches hasn't reached its last
-- number
pub record AreUpdated (shown : Shown) (margins : List Margins) (document : ℕ) (it : IntersectionObservers) (found : HeldFindings) : Type 0 where
  pub seen : (serial : ℕ) → IsLookedAt shown.tree document it serial → IsSeen shown it found.seen serial
  pub fresh : (chained : HaveChains shown) (serial : ℕ) → IsLookedAt shown.tree document it serial → is_stale_in shown margins chained it found.kept serial ≡ false
  pub current : (chained : HaveChains shown) → found.clips.touches.count < last_number → (serial : ℕ) → IsLookedAt shown.tree document it serial →
      HasCurrentClip shown chained it found.clips serial

-- the observers of a world, with those that are updated with a document settled by what is found in the world
abbrev pub settled_now : ℕ → World → IntersectionObservers
settled_now document world = updated (shown_of world) (world.scroll_margins) (world.tree) document (world.clock) (world.intersection_observers)

-- the steps of an update and the boxes that are due afterwards are together at most the sum of these: the boxes that were due
-- before; one for each stale registration of the observers rooted in the document; and for each of their registrations whose
-- chain leads to its root and whose clip was never computed, or has a spot on its chain that was touched since, one for each spot
-- strictly between target and root, or two if the count of touches has reached its last number
abbrev pub TakesAtMost : (document : ℕ) → (before after : PageView) → HaveChains (shown_of before.world) → (from to : ℕ) → Type 0
TakesAtMost document before after chained from to =
    to + due_count before.world after.kept
    ≤ from + due_count before.world before.kept + most_steps (shown_of before.world) (before.world.scroll_margins) chained document (before.world.intersection_observers) before.found after.found
