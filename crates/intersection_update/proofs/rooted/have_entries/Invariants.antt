use Rattle.std.proofs.Common.{◌≡◌, false, length, take}
use Rattle.std.specs.List.{list_any}
use Rattle.intersection_update.specs.Watching.{has_entry}
use Rattle.intersection_update.proofs.rooted.have_entries.Given as goal

abbrev pub invariant-loop-number : goal.invariant-loop-number
invariant-loop-number l = record {
  none : list_any (has_entry l.page.tree l.document.0) (take l.number l.watchers.part.made) ≡ false;
  end : l.number-end ≡ length l.watchers.part.made;
}
