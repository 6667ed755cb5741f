use Rattle.std.proofs.Common.{◌≡◌, ◌++◌, drop, map}
use Rattle.media_queries.specs.Seen.{query_of}
use Rattle.media_queries.proofs.queries.copy_queries.Given as goal

abbrev pub invariant-loop-query : goal.invariant-loop-query
invariant-loop-query l = map query_of l.copy.items ++ map query_of (drop l.query-index l.queries) ≡ map query_of l.queries
