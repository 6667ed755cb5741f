use Rattle.std.proofs.Common.{◌≡◌}
use Rattle.page_geometry.proofs.shown.Shown.with_offsets.Given as goal

abbrev pub invariant-loop-document : goal.invariant-loop-document
invariant-loop-document l = l.shown ≡ l.initial.shown
