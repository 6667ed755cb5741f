use Rattle.std.proofs.Common.{◌≡◌, take, length}
use Rattle.page_documents.specs.States.{put_in}
use Rattle.page_documents.specs.Walks.{marked_in}
use Rattle.page_documents.specs.Held.{IsHeld}
use Rattle.page_documents.proofs.documents.Documents.set_states.Given as goal

abbrev pub invariant-loop-document : goal.invariant-loop-document
invariant-loop-document l = record {
  so_far : l.self-inside.held.items ≡ marked_in (put_in l.state) (take l.document l.found) l.initial.self-inside.held.items;
  most : l.self-inside.most ≡ l.initial.self-inside.most;
  count : length l.self-inside.held.items ≡ length l.initial.self-inside.held.items;
  is_held : IsHeld l.self-inside.held.items l.self-inside.most;
}
