use Rattle.std.proofs.Common.{subst, sym}
use Rattle.std.specs.Prelude.{◌∷◌, Option, IfSome, filter_map}
use Rattle.px_units.specs.declared.Rect.{Rect}
use Rattle.clip_chain.specs.Ranges.{IsBounds}
use Rattle.clip_chain.proofs.Parts.{part_within}
use Rattle.common_clips.proofs.Knowing.{seen_around}
use Rattle.common_clips.proofs.common.visible_rect.Goals as goal

pub returns-clause-part : goal.returns-clause-part
returns-clause-part g c =
    seen_around (g.G.Geometry.scene c.args.geometry.now) c.args.root c.args.limits c.args.target c.in_ok-around.around c.clipped.result c.bounds.result
    c.in_ok-around.ensures.part c.bounds.ensures.bounds c.clipped.ensures

pub returns-clause-range : goal.returns-clause-range
returns-clause-range g c =
    let scene = g.G.Geometry.scene c.args.geometry.now in
    let between = c.requires.above.0 in
    subst (λ (part : Option Rect). IfSome part IsBounds) (sym (returns-clause-part g c between c.requires.above.1))
    (part_within (scene.bounds c.args.target) (c.args.limits ∷ filter_map scene.clip between) (subst IsBounds c.bounds.ensures.bounds c.bounds.ensures.range))
