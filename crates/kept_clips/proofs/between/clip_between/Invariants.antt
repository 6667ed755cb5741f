use Rattle.std.proofs.Common.{◌+◌, length}
use Rattle.clip_chain.specs.Chains.{IsAbove}
use Rattle.kept_clips.specs.declared.clip.Clip.TheVariants.{Whole}
use Rattle.kept_clips.proofs.Coming.{Comes}
use Rattle.kept_clips.proofs.Cutting.{cut_by, clips_of}
use Rattle.kept_clips.proofs.between.clip_between.Given as goal

abbrev pub invariant-loop-next : goal.invariant-loop-next
invariant-loop-next g l =
    let scene = g.G.Geometry.scene l.geometry in
    record {
      above : IsAbove scene l.root l.spot;
      clip : Comes scene l.root l.fn.of (λ spots. cut_by Whole (clips_of scene spots)) l.spot (λ spots. cut_by l.common (clips_of scene spots));
      ticks : Comes scene l.root l.fn.of (λ spots. l.fn.steps + length spots) l.spot (λ spots. l.steps + length spots);
    }

abbrev pub decreases-loop-next : goal.decreases-loop-next
decreases-loop-next g l = g.G.Geometry.rank l.geometry l.spot
