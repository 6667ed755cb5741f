use Rattle.std.proofs.Common.{◌∙◌, sym, subst, arith}
use Rattle.clip_chain.proofs.Leading.{above_outwards}
use Rattle.common_clips.specs.Common.{AreInside}
use Rattle.common_clips.proofs.Folding.{alone}
use Rattle.common_clips.proofs.Knowing.{IsAround, around_by_next, around_last, inside_by_around, noted, root_next}
use Rattle.common_clips.proofs.common.+left_inside.Goals.{in-Some-container_below+in_ok-outside-in-Some-container_below, in-None}
use Rattle.common_clips.proofs.common.+left_inside.Goals as goal

pub left_inside-requires : goal.left_inside-requires
left_inside-requires g t c κs within =
    let scene = g.G.Geometry.scene c.args.geometry.now in
    let next = c.in-Some-container_below.ensures.next in
    let less = c.in-Some-container_below.ensures.end in
    let now = c.decreases in
    (omega arith, (within, (above_outwards scene c.args.root c.args.spot c.in-Some-container_below.next next.0 next.1 c.requires.above, c.requires.known)))

pub returns-clause-part : goal.returns-clause-part
returns-clause-part g t c =
    let scene = g.G.Geometry.scene c.args.geometry.now in
    let around : IsAround scene c.args.root c.args.limits c.args.spot c.match-container_below.outside = elim c.match-container_below.branch [
      | in-Some-container_below+in_ok-outside-in-Some-container_below w ↦
          let next = w.in-Some-container_below.ensures.next in
          let above = above_outwards scene c.args.root c.args.spot w.in-Some-container_below.next next.0 next.1 c.requires.above in
          around_by_next scene c.args.root c.args.limits c.args.spot w.in-Some-container_below.next c.match-container_below.outside next.0 next.1 above
          (λ between leads. w.outside-is ∙ w.in_ok-outside-in-Some-container_below.ensures.part between leads)
      | in-None w ↦
          around_last scene c.args.root c.args.limits c.args.spot (root_next scene c.args.root c.args.limits c.args.spot c.requires.above (c.container_below.ensures.none w.in-None.is))
          c.match-container_below.outside (w.outside-is ∙ w.meet-outside.ensures ∙ alone c.args.limits)
    ] in
    inside_by_around scene c.args.root c.args.limits c.args.spot c.match-container_below.outside c.clipped-part.result c.clip.result around c.clip.ensures.clip c.clipped-part.ensures

pub returns-clause-known : goal.returns-clause-known
returns-clause-known g t c =
    let scene = g.G.Geometry.scene c.args.geometry.now in
    let before : AreInside scene c.args.root c.args.limits c.match-container_below.clips.inside = elim c.match-container_below.branch [
      | in-Some-container_below+in_ok-outside-in-Some-container_below w ↦ rw w.clips-is w.in_ok-outside-in-Some-container_below.ensures.known
      | in-None w ↦ rw w.clips-is c.requires.known
    ] in
    subst (AreInside scene c.args.root c.args.limits) (sym c.in_ok-note.ensures.noted)
    (noted scene c.args.root c.args.limits c.match-container_below.clips.inside c.args.spot c.clipped-part.result before (returns-clause-part g t c))
