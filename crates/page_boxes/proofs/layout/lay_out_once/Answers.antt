use Rattle.std.proofs.Common.{ap, sym, subst, ◌∙◌, arith}
use Rattle.page_boxes.specs.LaidOut.{Laid, is_marked, IsSoFar, MarksMore}
use Rattle.page_boxes.specs.Pages.{seen_screen}
use Rattle.page_boxes.proofs.Marks.{marked_here}
use Rattle.page_boxes.proofs.Going.{one_more, marks_more, fresh_above}
use Rattle.page_boxes.proofs.layout.lay_out_once.Goals as goal

pub lay_out-root-requires-clause-around : goal.lay_out-root-requires-clause-around
lay_out-root-requires-clause-around g c = c.root_around-around.ensures (seen_screen c.args.screen) c.args.boxes.now c.requires.so_far c.requires.above

pub lay_out-root-requires-clause-above : goal.lay_out-root-requires-clause-above
lay_out-root-requires-clause-above g c =
    fresh_above c.args.page.now.tree (seen_screen c.args.screen) c.args.laid_out.now c.args.boxes.now c.requires.so_far c.args.document.0 c.requires.above

pub returns-clause-so_far : goal.returns-clause-so_far
returns-clause-so_far g c =
    subst (λ laid. IsSoFar c.args.page.now.tree (seen_screen c.args.screen) laid c.lay_out-root.new.boxes) (sym c.mark.ensures)
    (one_more c.args.page.now.tree (seen_screen c.args.screen) c.args.laid_out.now c.args.boxes.now c.lay_out-root.new.boxes c.requires.so_far
    c.args.document.0 c.requires.known c.lay_out-root.result c.lay_out-root.ensures.laid_out c.lay_out-root.ensures.others c.lay_out-root.ensures.shown c.requires.above)

pub returns-clause-more : goal.returns-clause-more
returns-clause-more g c =
    subst (λ laid. MarksMore c.args.laid_out.now laid) (sym c.mark.ensures)
    (marks_more c.args.page.now.tree (seen_screen c.args.screen) c.args.laid_out.now c.args.boxes.now c.lay_out-root.new.boxes c.requires.so_far
    c.args.document.0 c.requires.known c.lay_out-root.result c.lay_out-root.ensures.laid_out c.lay_out-root.ensures.others c.lay_out-root.ensures.shown c.requires.above)

pub returns-clause-marked : goal.returns-clause-marked
returns-clause-marked g c =
    ap (λ (laid : Laid). is_marked laid.marks c.args.document.0) c.mark.ensures
    ∙ marked_here c.args.laid_out.now.marks c.args.document.0 (omega (arith, c.requires.so_far.marks, c.requires.known))
