use Rattle.std.proofs.Common.{rules, ◌≡◌, ◌∙◌, Some, sym}
use Rattle.clip_chain.proofs.Leading.{above_outwards, above_inwards, none_above}
use Rattle.clip_chain.proofs.chains.reaches.Goals as goal

pub loop-next-preserved : goal.loop-next-preserved
loop-next-preserved g c =
    let scene = g.G.Geometry.scene c.args.geometry.now in
    let e : scene.container c.loop-next.spot ≡ Some c.in-Some.next = sym c.container.ensures.container ∙ c.in-Some.is in
    let apart : ¬ c.in-Some.next ≡ c.args.root = search rules in (
      (λ h. c.loop-next.invariant.0 (above_inwards scene c.args.root c.loop-next.spot c.in-Some.next e apart h)),
      (λ h. above_outwards scene c.args.root c.loop-next.spot c.in-Some.next e apart (c.loop-next.invariant.1 h)),
    )

pub returns : goal.returns
returns g c =
    let scene = g.G.Geometry.scene c.args.geometry.now in (
      (λ h. search rules),
      (λ h. absurd (none_above scene c.args.root c.loop-next.spot (sym c.container.ensures.container ∙ c.in_default.is) (c.loop-next.invariant.1 h))),
    )
