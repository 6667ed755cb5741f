-- What is kept belongs to exactly the registrations that exist.
use Rattle.std.specs.Prelude.{◌≡◌, ℕ, false, List, Option, option_map, is_some, IfSome}
use Rattle.std.specs.FinMap.{contains_key}
use Rattle.script_model.specs.Margins.{Margins}
use Rattle.page_model.specs.World.{IntersectionObservers}
use Rattle.page_model.specs.Lookups.{intersection_observer_at}
use Rattle.element_tree.specs.declared.container.Container.{Container}
use Rattle.clip_chain.specs.Worlds.{element_spot, spot_of_root}
use Rattle.intersection_observer.specs.Places.{Standing, standing_of}
use Rattle.intersection_observer.specs.Seen.{seen_finding}
use Rattle.intersection_observer.specs.Settling.{is_news_for}
use Rattle.kept_clips.specs.Held.{spots_at}
use Rattle.kept_clips.specs.Chains.{IsExact}
use Rattle.kept_clips.specs.Seen.{scene_seen}
use Rattle.candidate_index.specs.declared.index.Kept.{Kept}
use Rattle.candidate_index.specs.Held.{kept_of, AreFound}
use Rattle.kept_findings.specs.Held.{HeldFindings}
use Rattle.kept_findings.specs.Views.{seen_for}

-- the spots of an observer's root and of one of its targets
abbrev pub spots_of : IntersectionObservers → Standing → Container × Container
spots_of watchers it = (spot_of_root (intersection_observer_at watchers it.watcher).root, element_spot (it.target))

-- those of the registration with a serial number, none if there is no such registration
abbrev pub spots_for : IntersectionObservers → ℕ → Option (Container × Container)
spots_for watchers serial = option_map (spots_of watchers) (standing_of serial watchers)

-- each registration that exists has a pair for its spots and was added, and no other serial number has either; its last finding
-- follows from the basis with its observer's thresholds. A held clip that is still valid is exact for what was last seen, as the
-- registration's observer sees it through its scroll margins
pub record AreHeld (watchers : IntersectionObservers) (margins : List Margins) (it : HeldFindings) : Type 0 where
  pub pairs : (serial : ℕ) → spots_at it.clips serial ≡ spots_for watchers serial
  pub added : (serial : ℕ) → contains_key it.kept serial ≡ is_some (standing_of serial watchers)
  pub found : AreFound watchers it.kept
  pub exact : (serial : ℕ) → IsExact (seen_for watchers margins serial (scene_seen it.seen)) it.clips serial

-- the last finding, if any, was settled, so that it isn't news
abbrev pub IsSettled : IntersectionObservers → ℕ → Option Kept → Type 0
IsSettled watchers serial last = IfSome last (λ (kept : Kept). is_news_for serial (seen_finding kept.finding) watchers ≡ false)

pub record AreRegistered (watchers : IntersectionObservers) (margins : List Margins) (it : HeldFindings) : Type 0 where
  pub held : AreHeld watchers margins it
  pub settled : (serial : ℕ) → IsSettled watchers serial (kept_of it.kept serial)
