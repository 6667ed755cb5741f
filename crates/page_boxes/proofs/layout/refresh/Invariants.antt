use Rattle.std.proofs.Common.{◌≡◌, ◌<◌, ◌+◌, ℕ, true, length}
use Rattle.page_model.specs.Documents.{is_active}
use Rattle.page_boxes.specs.Kept.{AreKept, FillsOnly, LeavesUnboxed, due_count}
use Rattle.page_boxes.specs.LaidOut.{is_marked, IsSoFar}
use Rattle.page_boxes.specs.Pages.{seen_screen}
use Rattle.page_boxes.proofs.layout.refresh.Given as goal

abbrev pub invariant-loop-document : goal.invariant-loop-document
invariant-loop-document g l = record {
  kept : AreKept l.page.tree l.boxes;
  slots : length l.boxes ≡ length l.initial.boxes;
  fills : FillsOnly l.initial.boxes l.boxes;
  unboxed : LeavesUnboxed l.page.tree (seen_screen l.screen) l.initial.boxes l.boxes;
  so_far : IsSoFar l.page.tree (seen_screen l.screen) l.laid_out l.boxes;
  marked : (document : ℕ) → document < l.document → is_active l.page.tree document ≡ true → is_marked l.laid_out.marks document ≡ true;
  ticks : l.steps + due_count l.page.tree (seen_screen l.screen) l.boxes ≡ l.initial.steps + due_count l.page.tree (seen_screen l.screen) l.initial.boxes;
}
