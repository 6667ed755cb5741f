use Rattle.std.proofs.Common.{◌≡◌, ◌++◌, drop, map}
use Rattle.media_queries.specs.QueryText.{commas_text}
use Rattle.media_queries.specs.Seen.{query_of, Keeps}
use Rattle.media_queries.proofs.texts.push_others.Given as goal

abbrev pub invariant-loop-query : goal.invariant-loop-query
invariant-loop-query l = record {
  text : l.out.items ++ commas_text (map query_of (drop l.query-index l.queries)) ≡ l.fn.out.items ++ commas_text (map query_of l.queries);
  kept : Keeps l.fn.out.items l.out.items;
}
