use Rattle.std.proofs.Common.{ap, sym, subst, ◌∙◌, arith}
use Rattle.page_model.specs.Documents.{first_of_list}
use Rattle.page_documents.specs.Paths.{way_down}
use Rattle.page_boxes.specs.LaidOut.{IsSoFar}
use Rattle.page_boxes.specs.Pages.{seen_screen}
use Rattle.page_boxes.proofs.Views.{path_leads}
use Rattle.page_boxes.proofs.Going.{none_so_far, fresh_in, fresh_above}
use Rattle.page_boxes.proofs.Around.{changes_more}
use Rattle.page_boxes.proofs.layout.refresh_document.Goals as goal

pub lay_out_up-requires-clause-leads : goal.lay_out_up-requires-clause-leads
lay_out_up-requires-clause-leads g c active =
    ap (λ count. first_of_list (way_down count c.args.page.now.tree c.args.document.0)) c.document_count-count.ensures.value
    ∙ path_leads c.args.page.now.tree c.document_count-count.ensures.framed c.args.document.0 active

pub lay_out_up-requires-clause-so_far : goal.lay_out_up-requires-clause-so_far
lay_out_up-requires-clause-so_far g c =
    subst (λ laid. IsSoFar c.args.page.now.tree (seen_screen c.args.screen) laid c.args.boxes.now) (sym c.new-laid_out.ensures)
    (none_so_far c.args.page.now.tree (seen_screen c.args.screen) c.args.boxes.now)

pub returns-clause-above : goal.returns-clause-above
returns-clause-above g c active =
    fresh_above c.args.page.now.tree (seen_screen c.args.screen) c.lay_out_up.new.laid_out c.lay_out_up.new.boxes c.lay_out_up.ensures.so_far c.args.document.0
    (c.lay_out_up.ensures.so_far.above c.args.document.0 (c.lay_out_up.ensures.marked active))

pub returns-clause-fresh : goal.returns-clause-fresh
returns-clause-fresh g c =
    fresh_in c.args.page.now.tree (seen_screen c.args.screen) c.lay_out_up.new.laid_out.marks c.lay_out_up.new.boxes c.lay_out_up.ensures.so_far.laid_out c.args.document.0
    c.lay_out_up.ensures.marked

pub returns-clause-left : goal.returns-clause-left
returns-clause-left g c high enough =
    changes_more c.args.page.now.tree c.document_count-count.result high c.args.document.0 c.args.boxes.now c.lay_out_up.new.boxes
    (omega (arith, c.document_count-count.ensures.value, c.document_count-count.ensures.bound)) c.lay_out_up.ensures.left
