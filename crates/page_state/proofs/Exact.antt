-- What is kept of registrations is what is found of them now.
use Rattle.std.proofs.Common.{◌≡◌, ◌∙◌, ℕ, List, Option, Some, None, false, ap, sym}
use Rattle.std.specs.Prelude.{IfSome}
use Rattle.script_model.specs.Margins.{Margins}
use Rattle.page_model.specs.Lookups.{scroll_margins_at}
use Rattle.page_model.specs.Shown.{Shown}
use Rattle.page_model.specs.World.{IntersectionObservers}
use Rattle.clip_chain.specs.Scenes.{Scene}
use Rattle.clip_chain.specs.Worlds.{scene_of}
use Rattle.intersection_observer.specs.Seen.{seen_finding}
use Rattle.candidate_index.specs.declared.index.Kept.{Kept}
use Rattle.candidate_index.specs.Held.{kept_of}
use Rattle.candidate_index.specs.Registrations.{place_of, observer_of, target_of, finding_for}
use Rattle.candidate_index.proofs.Same.{still_kept}
use Rattle.kept_findings.specs.Held.{HeldFindings}
use Rattle.kept_findings.specs.Registered.{AreRegistered}
use Rattle.kept_findings.specs.Views.{seen_for}
use Rattle.kept_findings.specs.Walks.{spots_between}
use Rattle.page_geometry.specs.Scenes.{IsPageTree, standings_of, telling_of}
use Rattle.page_geometry.proofs.Scenes.{finding_is}
use Rattle.intersection_update.specs.Keeping.{HaveChains, is_stale_in}
use Rattle.intersection_update.specs.Updating.{found_through}
use Rattle.page_state.specs.Findings.{IsFound}

module _ (shown : Shown) (page : IsPageTree shown.tree) (margins : List Margins) (chained : HaveChains shown) (it : IntersectionObservers) (serial : ℕ) where
  -- what its observer sees
  abbrev scene : Scene
  scene = seen_for it margins serial (scene_of shown)

  told_by : (last : Option Kept)
      → IfSome last (λ (kept : Kept). seen_finding kept.finding ≡ finding_for scene (standings_of shown) it serial (spots_between (scene_of shown) (standings_of shown) chained it serial))
      → IfSome last (λ (kept : Kept). telling_of shown (observer_of it serial).root (target_of it serial) (seen_finding kept.finding) ≡ found_through shown margins (place_of it serial).watcher (observer_of it serial) (target_of it serial))
  told_by None is = tt
  told_by (Some kept) is =
      ap (telling_of shown (observer_of it serial).root (target_of it serial)) is
      ∙ sym (finding_is shown page chained (scroll_margins_at margins (place_of it serial).watcher) (observer_of it serial) (target_of it serial))

  pub found_now : (found : HeldFindings) → AreRegistered it margins found → is_stale_in shown margins chained it found.kept serial ≡ false → IsFound shown margins it found serial
  found_now found registered fresh =
      let still = still_kept scene (standings_of shown) it (spots_between (scene_of shown) (standings_of shown) chained it) (found.kept) serial registered.held.found fresh in
      record { some = still.0; told = told_by (kept_of found.kept serial) still.1 }
