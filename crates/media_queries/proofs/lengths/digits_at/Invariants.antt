use Rattle.std.proofs.Common.{◌≡◌, ◌-◌, ◌≤◌}
use Rattle.script_model.specs.Media.{digits_at}
use Rattle.media_queries.proofs.lengths.digits_at.Given as goal

abbrev pub invariant-loop-place : goal.invariant-loop-place
invariant-loop-place l = record {
  read : digits_at (l.places - l.place) l.most l.value l.rest ≡ digits_at l.places l.most l.fn.first l.fn.text;
  bound : l.value ≤ l.most;
}
