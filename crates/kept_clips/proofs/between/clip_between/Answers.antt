use Rattle.std.proofs.Common.{◌≡◌, ◌+◌, ◌∙◌, Some, length, inl, inr, sym, ap, arith}
use Rattle.clip_chain.proofs.Leading.{above_outwards, none_above}
use Rattle.kept_clips.specs.declared.clip.Clip.{Clip}
use Rattle.kept_clips.specs.declared.clip.Clip.TheVariants.{Whole}
use Rattle.kept_clips.specs.Clips.{clipped_if}
use Rattle.kept_clips.proofs.Coming.{comes_first, comes_next, comes_last}
use Rattle.kept_clips.proofs.Cutting.{cut_by, clips_of, cut_next, cut_all}
use Rattle.kept_clips.proofs.between.clip_between.Goals as goal

pub loop-next-init : goal.loop-next-init
loop-next-init g c =
    let scene = g.G.Geometry.scene c.args.geometry.now in
    record {
      above = c.requires;
      clip = comes_first scene c.args.root c.args.of (λ spots. cut_by Whole (clips_of scene spots));
      ticks = comes_first scene c.args.root c.args.of (λ spots. c.args.steps.now + length spots);
    }

pub loop-next-preserved : goal.loop-next-preserved
loop-next-preserved g c =
    let scene = g.G.Geometry.scene c.args.geometry.now in
    let e : (scene.container c.loop-next.spot ≡ Some c.in-Some.next) × (¬ c.in-Some.next ≡ c.args.root) = c.in-Some.ensures.next in
    let cut : clipped_if c.loop-next.common (scene.clip c.in-Some.next) ≡ c.clipped-common.result = sym (c.clipped-common.ensures ∙ ap (clipped_if c.loop-next.common) c.clip.ensures.clip) in
    record {
      above = above_outwards scene c.args.root c.loop-next.spot c.in-Some.next e.0 e.1 c.loop-next.invariant.above;
      clip = comes_next scene c.args.root c.args.of (λ spots. cut_by Whole (clips_of scene spots)) c.loop-next.spot c.in-Some.next
          (λ spots. cut_by c.loop-next.common (clips_of scene spots)) (λ spots. cut_by c.clipped-common.result (clips_of scene spots))
          c.loop-next.invariant.clip e.0 e.1
          (λ rest. cut_next scene c.loop-next.common c.in-Some.next rest ∙ ap (λ (common : Clip). cut_by common (clips_of scene rest)) cut);
      ticks = comes_next scene c.args.root c.args.of (λ spots. c.args.steps.now + length spots) c.loop-next.spot c.in-Some.next
          (λ spots. c.loop-next.steps + length spots) (λ spots. c.tick.new.self + length spots)
          c.loop-next.invariant.ticks e.0 e.1
          (λ rest. omega (arith, c.tick.ensures));
    }

pub returns-clause-clip : goal.returns-clause-clip
returns-clause-clip g c =
    let scene = g.G.Geometry.scene c.args.geometry.now in
    let at_root : scene.container c.loop-next.spot ≡ Some c.args.root = (elim (c.container_below.ensures.none c.in_default.is) [
      | inl e ↦ absurd (none_above scene c.args.root c.loop-next.spot e c.loop-next.invariant.above)
      | inr e ↦ e
    ]) in
    λ between h.
    cut_all scene between c.loop-next.common
    (comes_last scene c.args.root c.args.of (λ spots. cut_by Whole (clips_of scene spots)) c.loop-next.spot (λ spots. cut_by c.loop-next.common (clips_of scene spots)) c.loop-next.invariant.clip at_root between h)

pub returns-clause-ticks : goal.returns-clause-ticks
returns-clause-ticks g c =
    let scene = g.G.Geometry.scene c.args.geometry.now in
    let at_root : scene.container c.loop-next.spot ≡ Some c.args.root = (elim (c.container_below.ensures.none c.in_default.is) [
      | inl e ↦ absurd (none_above scene c.args.root c.loop-next.spot e c.loop-next.invariant.above)
      | inr e ↦ e
    ]) in
    λ between h.
    let all : c.args.steps.now + length between ≡ c.loop-next.steps + 0 = comes_last scene c.args.root c.args.of (λ spots. c.args.steps.now + length spots) c.loop-next.spot (λ spots. c.loop-next.steps + length spots) c.loop-next.invariant.ticks at_root between h in
    omega (arith, all)
