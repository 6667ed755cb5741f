use Rattle.std.proofs.Common.{◌≡◌, ℕ, ◌<◌, ◌≤◌, ◌+◌, get_or}
use Rattle.std.specs.List.{All}
use Rattle.element_tree.specs.declared.container.Container.{Container}
use Rattle.kept_clips.specs.Looked.{IsLeft, Looked}
use Rattle.candidate_index.specs.Registrations.{serials_at}
use Rattle.kept_findings.specs.Looks.{is_looked, IsNoted, looked_count, AreLooked}
use Rattle.kept_findings.specs.Walks.{AlongChain, IsNot}
use Rattle.kept_findings.proofs.findings.KeptFindings.look.Given as goal

abbrev pub invariant-loop-registration : goal.invariant-loop-registration
invariant-loop-registration g l =
    let scene = g.S.Geometry.scene l.scene in
    let standings = g.S.Scene.standings l.scene in
    record {
      looked : Looked scene l.fn.self.seen l.self.seen l.fn.self.clips l.self.clips;
      kept : l.self.kept ≡ l.fn.self.kept;
      known : AreLooked scene (g.S.Geometry.rank l.scene) l.self.seen l.looks;
      left : (spot : Container) → All (AlongChain (IsNot spot) scene standings l.watchers.part) (serials_at l.watchers.part l.fn.watcher.0) →
          IsLeft l.fn.self.seen l.self.seen l.fn.self.clips.touches l.self.clips.touches spot;
      more : (other : Container) → IsNoted l.fn.looks other → IsNoted l.looks other;
      others : (spot : Container) → All (AlongChain (IsNot spot) scene standings l.watchers.part) (serials_at l.watchers.part l.fn.watcher.0) →
          is_looked l.looks spot ≡ is_looked l.fn.looks spot;
      touches : l.self.clips.touches.count + looked_count l.fn.looks ≤ l.fn.self.clips.touches.count + looked_count l.looks;
      noted : (k : ℕ) → k < l.registration-index → AlongChain (IsNoted l.looks) scene standings l.watchers.part (get_or l.registrations k (record { 0 = 0 })).0;
    }
