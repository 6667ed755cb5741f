use Rattle.std.proofs.Common.{◌≡◌, true, Some, None, option_map, ap, sym, subst, ◌∙◌, arith}
use Rattle.element_tree.specs.Links.{number}
use Rattle.page_model.specs.Lookups.{element_at}
use Rattle.page_model.specs.Documents.{is_active}
use Rattle.page_model.specs.PageBoxes.{view_of}
use Rattle.page_boxes.specs.LaidOut.{is_marked}
use Rattle.page_boxes.proofs.Renewed.{idle_rootless}
use Rattle.page_boxes.proofs.layout.root_around.Goals as goal

pub returns-in_default : goal.returns-in_default
returns-in_default c screen kept so_far above frame is =
    let nothing : None ≡ Some frame = sym (sym c.frame_of.ensures.value ∙ ap (option_map number) c.in_default.is) ∙ is in cc

pub returns-then-is_active : goal.returns-then-is_active
returns-then-is_active c screen kept so_far above frame is =
    let tree = c.args.page.now.tree in
    let there = sym c.frame_of.ensures.value ∙ ap (option_map number) c.in-Some.is in
    let same : c.in-Some.frame.0 ≡ frame = cc (sym there ∙ is) in
    let holder = c.document_of-holder.ensures ∙ ap (λ n. (element_at tree n).document) same in
    let active = sym c.is_active.ensures.value ∙ c.if-is_active.true in
    subst (λ d. option_map number c.root.result ≡ (view_of tree screen d).root) holder
    (ap (option_map number) c.root.ensures
    ∙ so_far.shown c.document_of-holder.result.0
    (subst (λ d. is_active tree d ≡ true → is_marked c.args.laid_out.now.marks d ≡ true) (sym holder) (above frame is) active))

pub returns-else-is_active : goal.returns-else-is_active
returns-else-is_active c screen kept so_far above frame is =
    let tree = c.args.page.now.tree in
    let there = sym c.frame_of.ensures.value ∙ ap (option_map number) c.in-Some.is in
    let same : c.in-Some.frame.0 ≡ frame = cc (sym there ∙ is) in
    let holder = c.document_of-holder.ensures ∙ ap (λ n. (element_at tree n).document) same in
    subst (λ d. None ≡ (view_of tree screen d).root) holder
    (sym (idle_rootless tree screen c.document_of-holder.result.0 (sym c.is_active.ensures.value ∙ c.if-is_active.false)))
