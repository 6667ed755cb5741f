use Rattle.std.proofs.Common.{◌∷◌, filter_map, ap, sym, subst, ◌∙◌}
use Rattle.px_units.specs.declared.Rect.{Rect}
use Rattle.page_model.specs.Chains.{common_part}
use Rattle.element_tree.specs.declared.container.Container.TheVariants.{Element}
use Rattle.clip_chain.specs.Worlds.{view_spot}
use Rattle.common_clips.specs.Common.{AreInside}
use Rattle.hit_test.proofs.Within.{in_part, in_nothing}
use Rattle.hit_test.proofs.points.shows_at.Goals as goal

pub visible_rect-requires-clause-known : goal.visible_rect-requires-clause-known
visible_rect-requires-clause-known g c =
    let scene = g.G.Geometry.scene c.args.geometry.now in
    subst (λ (limits : Rect). AreInside scene (view_spot 0) limits c.args.clips.now.inside) (sym c.bounds-screen.ensures.bounds) c.requires.clips

pub returns-in-Some-clause-shows : goal.returns-in-Some-clause-shows
returns-in-Some-clause-shows g c = λ between leads.
    let scene = g.G.Geometry.scene c.args.geometry.now in
    let others = filter_map scene.clip between in
    c.has_point.ensures
    ∙ in_part c.args.at (scene.bounds (Element c.args.node)) (scene.bounds (view_spot 0) ∷ others) c.in-Some.part
    (ap (λ limits. common_part (scene.bounds (Element c.args.node)) (limits ∷ others)) (sym c.bounds-screen.ensures.bounds)
    ∙ sym (c.in_ok-visible.ensures.part between leads)
    ∙ c.in-Some.is)

pub returns-in-None-clause-shows : goal.returns-in-None-clause-shows
returns-in-None-clause-shows g c = λ between leads.
    let scene = g.G.Geometry.scene c.args.geometry.now in
    let others = filter_map scene.clip between in
    in_nothing c.args.at (scene.bounds (Element c.args.node)) (scene.bounds (view_spot 0) ∷ others)
    (ap (λ limits. common_part (scene.bounds (Element c.args.node)) (limits ∷ others)) (sym c.bounds-screen.ensures.bounds)
    ∙ sym (c.in_ok-visible.ensures.part between leads)
    ∙ c.in-None.is)
