use Rattle.std.specs.List.{list_all}
use Rattle.clip_chain.specs.Chains.{IsAbove}
use Rattle.kept_clips.specs.Chains.{is_untouched}
use Rattle.kept_clips.proofs.Coming.{Comes}
use Rattle.kept_clips.proofs.between.is_untouched.Given as goal

abbrev pub invariant-loop-next : goal.invariant-loop-next
invariant-loop-next g l =
    let scene = g.G.Geometry.scene l.geometry in
    record {
      above : IsAbove scene l.root l.spot;
      so_far : Comes scene l.root l.fn.of (list_all (is_untouched l.touches l.since)) l.spot (list_all (is_untouched l.touches l.since));
    }

abbrev pub decreases-loop-next : goal.decreases-loop-next
decreases-loop-next g l = g.G.Geometry.rank l.geometry l.spot
