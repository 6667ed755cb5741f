use Rattle.std.proofs.Common.{◌≡◌, ◌∙◌, inl, inr, sym, Some}
use Rattle.clip_chain.proofs.Leading.{above_outwards, none_above}
use Rattle.clip_chain.proofs.Parts.{meets}
use Rattle.clip_chain.proofs.Leaving.{leaves_first, leaves_clipped, leaves_open, leaves_last, leaves_nothing}
use Rattle.clip_chain.proofs.chains.clipped_below.Goals as goal

pub loop-next-init : goal.loop-next-init
loop-next-init g c = record {
  above = c.requires.above;
  points = c.requires.points;
  so_far = leaves_first (g.G.Geometry.scene c.args.geometry.now) c.args.root c.args.target c.args.first;
}

pub returns-in_err-common : goal.returns-in_err-common
returns-in_err-common g c =
    let scene = g.G.Geometry.scene c.args.geometry.now in
    let e : (scene.container c.loop-next.spot ≡ Some c.in-Some.next) × (¬ c.in-Some.next ≡ c.args.root) = c.in-Some.ensures.next in
    let above = above_outwards scene c.args.root c.loop-next.spot c.in-Some.next e.0 e.1 c.loop-next.invariant.above in
    let is : scene.clip c.in-Some.next ≡ Some c.in-Some-clip.clip = sym c.clip.ensures.clip ∙ c.in-Some-clip.is in
    λ between h.
    c.from_residual.ensures
    ∙ leaves_nothing scene c.args.root c.args.target c.loop-next.spot c.in-Some.next c.args.first c.loop-next.common c.in-Some-clip.clip c.loop-next.invariant.so_far e.0 e.1 above is (sym c.meet.ensures ∙ c.in_err-common.was) between h

pub loop-next-preserved-in_ok-common : goal.loop-next-preserved-in_ok-common
loop-next-preserved-in_ok-common g c =
    let scene = g.G.Geometry.scene c.args.geometry.now in
    let e : (scene.container c.loop-next.spot ≡ Some c.in-Some.next) × (¬ c.in-Some.next ≡ c.args.root) = c.in-Some.ensures.next in
    let is : scene.clip c.in-Some.next ≡ Some c.in-Some-clip.clip = sym c.clip.ensures.clip ∙ c.in-Some-clip.is in
    let meet = sym c.meet.ensures ∙ c.in_ok-common.was in
    record {
      above = above_outwards scene c.args.root c.loop-next.spot c.in-Some.next e.0 e.1 c.loop-next.invariant.above;
      points = (meets c.loop-next.common c.in-Some-clip.clip c.in_ok-common.common meet).1;
      so_far = leaves_clipped scene c.args.root c.args.target c.loop-next.spot c.in-Some.next c.args.first c.loop-next.common c.in-Some-clip.clip c.in_ok-common.common c.loop-next.invariant.so_far e.0 e.1 is meet;
    }

pub loop-next-preserved : goal.loop-next-preserved
loop-next-preserved g c =
    let scene = g.G.Geometry.scene c.args.geometry.now in
    let e : (scene.container c.loop-next.spot ≡ Some c.in-Some.next) × (¬ c.in-Some.next ≡ c.args.root) = c.in-Some.ensures.next in
    record {
      above = above_outwards scene c.args.root c.loop-next.spot c.in-Some.next e.0 e.1 c.loop-next.invariant.above;
      points = c.loop-next.invariant.points;
      so_far = leaves_open scene c.args.root c.args.target c.loop-next.spot c.in-Some.next c.args.first c.loop-next.common c.loop-next.invariant.so_far e.0 e.1 (sym c.clip.ensures.clip ∙ c.in_default-clip.is);
    }

pub returns : goal.returns
returns g c =
    let scene = g.G.Geometry.scene c.args.geometry.now in
    let at_root : scene.container c.loop-next.spot ≡ Some c.args.root = (elim (c.container_below.ensures.none c.in_default.is) [
      | inl e ↦ absurd (none_above scene c.args.root c.loop-next.spot e c.loop-next.invariant.above)
      | inr e ↦ e
    ]) in
    leaves_last scene c.args.root c.args.target c.loop-next.spot c.args.first c.loop-next.common c.loop-next.invariant.so_far at_root c.loop-next.invariant.points
