use Rattle.std.proofs.Common.{option_map, ap, sym, ◌∙◌}
use Rattle.element_tree.specs.Links.{number}
use Rattle.page_boxes.proofs.Renewed.{idle_rootless}
use Rattle.page_boxes.proofs.Below.{unframed_root, root_below}
use Rattle.page_boxes.proofs.documents.shown_root_below.Goals as goal

pub returns-then-not-is_active : goal.returns-then-not-is_active
returns-then-not-is_active c screen above =
    sym (idle_rootless c.args.page.now.tree screen c.args.document.0 (sym c.is_active.ensures.value ∙ c.if-not-is_active.true))

pub returns-in_default : goal.returns-in_default
returns-in_default c screen above =
    c.root-root.ensures.value
    ∙ sym (unframed_root c.args.page.now.tree c.root-root.ensures.framed screen c.args.document.0 (sym c.is_active.ensures.value ∙ c.if-not-is_active.false)
    (sym c.frame_of.ensures.value ∙ ap (option_map number) c.in_default.is))

pub returns-then-has_box_below : goal.returns-then-has_box_below
returns-then-has_box_below c screen above =
    let there = sym c.frame_of.ensures.value ∙ ap (option_map number) c.in-Some.is in
    c.root-root.ensures.value
    ∙ sym (root_below c.args.page.now.tree c.root-root.ensures.framed screen c.args.document.0 (sym c.is_active.ensures.value ∙ c.if-not-is_active.false)
    (c.in-Some.frame.0) there _ (sym c.if-has_box_below.true ∙ c.has_box_below.ensures screen (above (c.in-Some.frame.0) there)))

pub returns-else-has_box_below : goal.returns-else-has_box_below
returns-else-has_box_below c screen above =
    let there = sym c.frame_of.ensures.value ∙ ap (option_map number) c.in-Some.is in
    sym (root_below c.args.page.now.tree c.root-root.ensures.framed screen c.args.document.0 (sym c.is_active.ensures.value ∙ c.if-not-is_active.false)
    (c.in-Some.frame.0) there _ (sym c.if-has_box_below.false ∙ c.has_box_below.ensures screen (above (c.in-Some.frame.0) there)))
