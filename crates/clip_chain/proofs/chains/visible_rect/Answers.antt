use Rattle.std.proofs.Common.{◌∙◌, ap, sym, subst}
use Rattle.px_units.specs.declared.Rect.{Rect}
use Rattle.px_units.specs.Rects.{meeting}
use Rattle.clip_chain.specs.Ranges.{IsBounds}
use Rattle.clip_chain.proofs.Parts.{meets}
use Rattle.clip_chain.proofs.Seen.{none_seen, seen_beyond, part_is_seen, part_in_range}
use Rattle.clip_chain.proofs.chains.visible_rect.Goals as goal

pub returns-in_err-unclipped-clause-part : goal.returns-in_err-unclipped-clause-part
returns-in_err-unclipped-clause-part g c =
    let scene = g.G.Geometry.scene c.args.geometry.now in
    let miss = ap (λ (r : Rect). meeting r c.args.limits) (sym c.bounds.ensures.bounds) ∙ sym c.meet.ensures ∙ c.in_err-unclipped.was in
    λ between h. c.from_residual.ensures ∙ none_seen scene c.args.target between c.args.limits miss

pub returns-in_err-unclipped-clause-points : goal.returns-in_err-unclipped-clause-points
returns-in_err-unclipped-clause-points g c =
    let scene = g.G.Geometry.scene c.args.geometry.now in
    let miss = ap (λ (r : Rect). meeting r c.args.limits) (sym c.bounds.ensures.bounds) ∙ sym c.meet.ensures ∙ c.in_err-unclipped.was in
    λ between h.
    part_is_seen scene c.args.target between c.args.limits c.from_residual.result (c.from_residual.ensures ∙ none_seen scene c.args.target between c.args.limits miss)

pub clipped_below-requires-clause-points : goal.clipped_below-requires-clause-points
clipped_below-requires-clause-points g c = (meets c.bounds.result c.args.limits c.in_ok-unclipped.unclipped (sym c.meet.ensures ∙ c.in_ok-unclipped.was)).1

pub returns-clause-part : goal.returns-clause-part
returns-clause-part g c =
    let scene = g.G.Geometry.scene c.args.geometry.now in
    let meet = ap (λ (r : Rect). meeting r c.args.limits) (sym c.bounds.ensures.bounds) ∙ sym c.meet.ensures ∙ c.in_ok-unclipped.was in
    λ between h. c.clipped_below.ensures between h ∙ seen_beyond scene c.args.target between c.args.limits c.in_ok-unclipped.unclipped meet

pub returns-clause-points : goal.returns-clause-points
returns-clause-points g c =
    let scene = g.G.Geometry.scene c.args.geometry.now in
    let meet = ap (λ (r : Rect). meeting r c.args.limits) (sym c.bounds.ensures.bounds) ∙ sym c.meet.ensures ∙ c.in_ok-unclipped.was in
    λ between h.
    part_is_seen scene c.args.target between c.args.limits c.clipped_below.result
    (c.clipped_below.ensures between h ∙ seen_beyond scene c.args.target between c.args.limits c.in_ok-unclipped.unclipped meet)

pub returns-clause-range : goal.returns-clause-range
returns-clause-range g c =
    let scene = g.G.Geometry.scene c.args.geometry.now in
    let meet = ap (λ (r : Rect). meeting r c.args.limits) (sym c.bounds.ensures.bounds) ∙ sym c.meet.ensures ∙ c.in_ok-unclipped.was in
    let between = c.requires.0 in
    part_in_range scene c.args.target between c.args.limits c.clipped_below.result
    (c.clipped_below.ensures between c.requires.1 ∙ seen_beyond scene c.args.target between c.args.limits c.in_ok-unclipped.unclipped meet)
    (subst IsBounds c.bounds.ensures.bounds c.bounds.ensures.range)
