use Rattle.std.proofs.Common.{◌≡◌, ◌<◌, ◌≤◌, length}
use Rattle.std.specs.List.{All}
use Rattle.page_model.specs.Intersections.{has_queued}
use Rattle.clip_chain.specs.Worlds.{scene_of}
use Rattle.intersection_observer.specs.Watchers.{watcher_at}
use Rattle.kept_clips.specs.Touches.{last_number}
use Rattle.candidate_index.specs.Registrations.{serials_at}
use Rattle.kept_findings.specs.Walks.{IsWalked, spots_between}
use Rattle.kept_findings.specs.Views.{seen_by}
use Rattle.kept_findings.specs.Registered.{AreRegistered}
use Rattle.kept_findings.specs.Rooms.{HaveRoom}
use Rattle.page_geometry.specs.Scenes.{standings_of}
use Rattle.intersection_update.specs.Updating.{AreKept}
use Rattle.intersection_update.specs.Keeping.{HaveChains, AreLookedAlong, HasCurrentClip, KeepsComputed, HaveLooked}
use Rattle.intersection_update.proofs.Keeping.{SoFar}
use Rattle.intersection_update.proofs.Steps.{Paid}
use Rattle.intersection_update.proofs.Stale.{first_stale}
use Rattle.intersection_update.proofs.settling.settle_stale.Given as goal

abbrev pub invariant-loop-registration : goal.invariant-loop-registration
invariant-loop-registration g l =
    let was = l.fn.watchers in
    let watcher = l.watcher.0 in
    record {
      settled : (chained : HaveChains l.shown) → l.watchers.part ≡ first_stale l.shown l.scroll_margins chained l.time watcher was.part l.fn.findings l.registration-index;
      queued : l.queued ≡ has_queued was.part l.watchers.part watcher;
      longer : length (watcher_at was watcher).queue ≤ length (watcher_at l.watchers watcher).queue;
      kept : AreKept (length l.shown.tree.elements) was l.watchers;
      registered : AreRegistered l.watchers.part l.scroll_margins l.findings;
      room : HaveRoom (length l.shown.tree.elements) (length l.shown.tree.documents) l.findings;
      known : HaveLooked l.shown l.findings.seen l.looks;
      looked : AreLookedAlong l.shown was.part watcher l.fn.findings l.findings;
      so_far : (chained : HaveChains l.shown) → SoFar l.shown l.scroll_margins chained was.part watcher l.fn.findings.kept l.findings.kept l.registration-items l.registration-index;
      paid : (chained : HaveChains l.shown) → Paid (seen_by was.part l.scroll_margins watcher (scene_of l.shown)) (standings_of l.shown) was.part (spots_between (scene_of l.shown) (standings_of l.shown) chained was.part)
          (record (l.fn.findings.clips) { touches = l.findings.clips.touches }) l.findings.clips (serials_at was.part watcher) l.registration-items l.fn.steps l.steps l.registration-index;
      current : (chained : HaveChains l.shown) → l.findings.clips.touches.count < last_number → All (HasCurrentClip l.shown chained was.part l.findings.clips) (serials_at was.part watcher);
      computed : KeepsComputed l.fn.findings.clips l.findings.clips;
      walked : All (IsWalked (scene_of l.shown) (standings_of l.shown) was.part l.findings.seen) (serials_at was.part watcher);
    }
