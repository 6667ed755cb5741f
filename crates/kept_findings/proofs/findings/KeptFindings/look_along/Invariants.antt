use Rattle.std.proofs.Common.{◌≡◌, ◌≤◌, ◌+◌}
use Rattle.element_tree.specs.declared.container.Container.{Container}
use Rattle.clip_chain.specs.Chains.{IsAbove}
use Rattle.kept_clips.specs.Looked.{IsLeft, Looked}
use Rattle.kept_findings.specs.Looks.{is_looked, IsNoted, looked_count, AreLooked}
use Rattle.kept_findings.specs.Walks.{EachAlong, IsNot}
use Rattle.kept_findings.proofs.Along.{Passes}
use Rattle.kept_findings.proofs.findings.KeptFindings.look_along.Given as goal

abbrev pub invariant-loop-next : goal.invariant-loop-next
invariant-loop-next g l =
    let scene = g.S.Geometry.scene l.scene in
    record {
      above : IsAbove scene l.root l.spot;
      looked : Looked scene l.fn.self.seen l.self.seen l.fn.self.clips l.self.clips;
      kept : l.self.kept ≡ l.fn.self.kept;
      known : AreLooked scene (g.S.Geometry.rank l.scene) l.self.seen l.looks;
      first : IsNoted l.looks l.fn.of;
      last : IsNoted l.looks l.root;
      passed : Passes scene l.root l.fn.of (IsNoted l.looks) l.spot;
      left : (spot : Container) → EachAlong (IsNot spot) scene l.fn.of l.root → IsLeft l.fn.self.seen l.self.seen l.fn.self.clips.touches l.self.clips.touches spot;
      more : (other : Container) → IsNoted l.fn.looks other → IsNoted l.looks other;
      others : (spot : Container) → EachAlong (IsNot spot) scene l.fn.of l.root → is_looked l.looks spot ≡ is_looked l.fn.looks spot;
      touches : l.self.clips.touches.count + looked_count l.fn.looks ≤ l.fn.self.clips.touches.count + looked_count l.looks;
    }

abbrev pub decreases-loop-next : goal.decreases-loop-next
decreases-loop-next g l = g.S.Geometry.rank l.scene l.spot
