use Rattle.std.proofs.Common.{option_map, refl, ap, sym, subst, ◌∙◌, arith}
use Rattle.element_tree.specs.Links.{number}
use Rattle.page_documents.specs.Paths.{way_down}
use Rattle.page_boxes.specs.LaidOut.{ChangesOnlyIn}
use Rattle.page_boxes.specs.Pages.{seen_screen}
use Rattle.page_boxes.proofs.Renewed.{idle_fresh}
use Rattle.page_boxes.proofs.Around.{changes_on}
use Rattle.page_boxes.proofs.layout.refresh_in.Goals as goal

-- a document that isn't Active
pub returns-in-Some-clause-fresh : goal.returns-in-Some-clause-fresh
returns-in-Some-clause-fresh g c =
    idle_fresh c.args.page.now.tree (seen_screen c.args.screen) c.refresh_document-in-Some.new.boxes c.args.document.0
    (sym c.is_active.ensures.value ∙ c.if-is_active.false)

pub returns-in_default-clause-fresh : goal.returns-in_default-clause-fresh
returns-in_default-clause-fresh g c =
    idle_fresh c.args.page.now.tree (seen_screen c.args.screen) c.args.boxes.now c.args.document.0 (sym c.is_active.ensures.value ∙ c.if-is_active.false)

pub returns-in-Some-clause-left : goal.returns-in-Some-clause-left
returns-in-Some-clause-left g c =
    let tree = c.args.page.now.tree in
    changes_on tree c.args.document.0 65536 65535 refl c.refresh_document-in-Some.ensures.framed (c.in-Some.frame.0)
    (sym c.frame_of.ensures.value ∙ ap (option_map number) c.in-Some.is)
    c.args.boxes.now c.refresh_document-in-Some.new.boxes c.refresh_document-in-Some.new.boxes
    (subst (λ holder. ChangesOnlyIn tree (way_down 65535 tree holder) c.args.boxes.now c.refresh_document-in-Some.new.boxes) c.document_of.ensures
    (c.refresh_document-in-Some.ensures.left 65535 (omega arith)))
    (λ n own. refl)
