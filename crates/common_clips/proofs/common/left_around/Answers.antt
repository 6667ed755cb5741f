use Rattle.std.proofs.Common.{◌∙◌}
use Rattle.clip_chain.proofs.Leading.{above_outwards}
use Rattle.common_clips.proofs.Folding.{alone}
use Rattle.common_clips.proofs.Knowing.{around_last, if_around, root_next}
use Rattle.common_clips.proofs.common.left_around.Goals as goal

pub left_inside-requires-clause-above : goal.left_inside-requires-clause-above
left_inside-requires-clause-above g c =
    let next = c.in-Some.ensures.next in
    above_outwards (g.G.Geometry.scene c.args.geometry.now) c.args.root c.args.spot c.in-Some.next next.0 next.1 c.requires.above

pub returns-in-Some-clause-part : goal.returns-in-Some-clause-part
returns-in-Some-clause-part g c =
    let next = c.in-Some.ensures.next in
    if_around (g.G.Geometry.scene c.args.geometry.now) c.args.root c.args.limits c.args.spot c.in-Some.next c.left_inside.result next.0 next.1 c.requires.above
    c.left_inside.ensures.part

pub returns-in-None-clause-part : goal.returns-in-None-clause-part
returns-in-None-clause-part g c =
    let scene = g.G.Geometry.scene c.args.geometry.now in
    around_last scene c.args.root c.args.limits c.args.spot (root_next scene c.args.root c.args.limits c.args.spot c.requires.above (c.container_below.ensures.none c.in-None.is))
    c.meet.result (c.meet.ensures ∙ alone c.args.limits)
