use Rattle.std.proofs.Common.{sym, subst, ◌∙◌}
use Rattle.px_units.specs.declared.Rect.{Rect}
use Rattle.clip_chain.specs.Worlds.{scene_of, view_spot}
use Rattle.common_clips.specs.Common.{AreInside}
use Rattle.box_inspector.proofs.Chains.{to_screen, seen_is, told_some, told_none}
use Rattle.box_inspector.proofs.seen.seen_part.Goals as goal

pub visible_rect-requires-clause-above : goal.visible_rect-requires-clause-above
visible_rect-requires-clause-above c = to_screen c.args.shown.now c.document_count.ensures.page (c.args.node.0) c.requires.boxed

pub visible_rect-requires-clause-known : goal.visible_rect-requires-clause-known
visible_rect-requires-clause-known c =
    subst (λ (limits : Rect). AreInside (scene_of c.args.shown.now) (view_spot 0) limits c.args.clips.now.inside) (sym c.bounds-screen.ensures.bounds) c.requires.clips

pub returns-in-Some-clause-value : goal.returns-in-Some-clause-value
returns-in-Some-clause-value c =
    let seen = seen_is c.args.shown.now c.document_count.ensures.page (c.args.node.0) c.requires.boxed c.bounds-screen.result c.in_ok-visible.visible
    c.bounds-screen.ensures.bounds c.in_ok-visible.ensures.part in
    told_some c.args.shown.now (c.args.node.0) c.in-Some.part c.in_document.result (sym seen ∙ c.in-Some.is) c.in_document.ensures.value

pub returns-in-None-clause-value : goal.returns-in-None-clause-value
returns-in-None-clause-value c =
    let seen = seen_is c.args.shown.now c.document_count.ensures.page (c.args.node.0) c.requires.boxed c.bounds-screen.result c.in_ok-visible.visible
    c.bounds-screen.ensures.bounds c.in_ok-visible.ensures.part in
    told_none c.args.shown.now (c.args.node.0) (sym seen ∙ c.in-None.is)
