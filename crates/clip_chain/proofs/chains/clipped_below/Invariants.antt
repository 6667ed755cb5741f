use Rattle.std.proofs.Common.{◌≡◌, true}
use Rattle.px_units.specs.Rects.{has_points}
use Rattle.clip_chain.specs.Chains.{IsAbove}
use Rattle.clip_chain.proofs.Leaving.{Leaves}
use Rattle.clip_chain.proofs.chains.clipped_below.Given as goal

abbrev pub invariant-loop-next : goal.invariant-loop-next
invariant-loop-next g l =
    let scene = g.G.Geometry.scene l.geometry in
    record {
      above : IsAbove scene l.root l.spot;
      points : has_points l.common ≡ true;
      so_far : Leaves scene l.root l.fn.target l.fn.first l.spot l.common;
    }

abbrev pub decreases-loop-next : goal.decreases-loop-next
decreases-loop-next g l = g.G.Geometry.rank l.geometry l.spot
