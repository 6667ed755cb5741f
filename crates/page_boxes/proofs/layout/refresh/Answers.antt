use Rattle.std.proofs.Common.{◌≡◌, true, refl, ap, sym, subst, ◌∙◌, arith}
use borrow.Author.Count.{below_more}
use Rattle.page_model.specs.Documents.{first_of_list, is_active}
use Rattle.page_documents.specs.Paths.{way_down}
use Rattle.page_boxes.specs.LaidOut.{is_marked, IsSoFar}
use Rattle.page_boxes.specs.Pages.{seen_screen}
use Rattle.page_boxes.proofs.Views.{path_leads}
use Rattle.page_boxes.proofs.Undue.{fills_none, fills_on}
use Rattle.page_boxes.proofs.Going.{none_so_far, fresh_in, none_due, active_known}
use Rattle.page_boxes.proofs.layout.refresh.Goals as goal

pub loop-document-init : goal.loop-document-init
loop-document-init g c =
    record {
      kept = c.requires;
      slots = refl;
      fills = fills_none c.args.boxes.now;
      unboxed = λ n none. refl;
      so_far = subst (λ laid. IsSoFar c.args.page.now.tree (seen_screen c.args.screen) laid c.args.boxes.now) (sym c.new-laid_out.ensures)
          (none_so_far c.args.page.now.tree (seen_screen c.args.screen) c.args.boxes.now);
      marked = λ document low. absurd (omega arith);
      ticks = refl;
    }

pub lay_out_up-requires-clause-leads : goal.lay_out_up-requires-clause-leads
lay_out_up-requires-clause-leads g c active =
    ap (λ count. first_of_list (way_down count c.args.page.now.tree c.loop-document.document)) c.document_count-count.ensures.value
    ∙ path_leads c.args.page.now.tree c.document_count-count.ensures.framed c.loop-document.document active

pub loop-document-preserved : goal.loop-document-preserved
loop-document-preserved g c = record {
  kept = c.lay_out_up.ensures.kept;
  slots = c.lay_out_up.ensures.slots ∙ c.loop-document.invariant.slots;
  fills = fills_on c.args.boxes.now c.loop-document.boxes c.lay_out_up.new.boxes c.loop-document.invariant.fills c.lay_out_up.ensures.fills;
  unboxed = λ n none. c.lay_out_up.ensures.unboxed n none ∙ c.loop-document.invariant.unboxed n none;
  so_far = c.lay_out_up.ensures.so_far;
  marked =
      below_more (λ document. is_active c.args.page.now.tree document ≡ true → is_marked c.lay_out_up.new.laid_out.marks document ≡ true) c.loop-document.document
      (λ document low active. c.lay_out_up.ensures.more document (c.loop-document.invariant.marked document low active)) c.lay_out_up.ensures.marked;
  ticks = omega (arith, c.lay_out_up.ensures.ticks, c.loop-document.invariant.ticks);
}

pub returns-clause-fresh : goal.returns-clause-fresh
returns-clause-fresh g c = record {
  documents = λ document.
      fresh_in c.args.page.now.tree (seen_screen c.args.screen) c.loop-document.laid_out.marks c.loop-document.boxes c.loop-document.invariant.so_far.laid_out document
      (λ active.
      let known = active_known c.args.page.now.tree document active in
      c.loop-document.invariant.marked document (omega (arith, known, c.document_count-count.ensures.value, c.loop-document-test.false)) active);
}

pub returns-clause-done : goal.returns-clause-done
returns-clause-done g c =
    none_due c.args.page.now.tree (seen_screen c.args.screen) c.loop-document.laid_out.marks c.loop-document.boxes c.loop-document.invariant.so_far.laid_out
    (λ document active.
    let known = active_known c.args.page.now.tree document active in
    c.loop-document.invariant.marked document (omega (arith, known, c.document_count-count.ensures.value, c.loop-document-test.false)) active)
