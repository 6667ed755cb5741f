use Rattle.std.proofs.Common.{◌≡◌, length, map}
use Rattle.script_model.specs.Media.{queries_at}
use Rattle.media_queries.specs.Seen.{query_of}
use Rattle.media_queries.proofs.Columns.{follows}
use Rattle.media_queries.proofs.Lists.{listed}
use Rattle.media_queries.proofs.queries.queries_at.Given as goal

abbrev pub invariant-loop-rest : goal.invariant-loop-rest
invariant-loop-rest l = listed (map query_of l.queries.items) (follows l.rest) ≡ queries_at l.text

abbrev pub decreases-loop-rest : goal.decreases-loop-rest
decreases-loop-rest l = length l.rest
