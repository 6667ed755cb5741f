use Rattle.std.proofs.Common.{◌++◌, ap, ◌∙◌, arith}
use Rattle.media_queries.specs.QueryText.{query_text}
use Rattle.media_queries.specs.Seen.{query_of}
use Rattle.media_queries.proofs.Appends.{queries_on, queries_end, keeps_more, keeps_on}
use Rattle.media_queries.proofs.texts.push_others.Goals as goal

pub returns-in_err-push_query-clause-kept : goal.returns-in_err-push_query-clause-kept
returns-in_err-push_query-clause-kept c =
    keeps_on _ _ _ c.loop-query.invariant.kept (keeps_on _ _ _ (keeps_more _ _ _ c.in_ok-push.ensures.items) c.in_err-push_query.ensures.kept)

pub loop-query-preserved : goal.loop-query-preserved
loop-query-preserved c = record {
  text = queries_on query_of c.args.queries.now c.loop-query.query-index _ _ _ _ _ (omega arith) c.loop-query.invariant.text c.in_ok-push.ensures.items
      (c.in_ok-push_query.ensures.ok ∙ ap (λ query. c.push.new.self.items ++ query_text (query_of query)) c.query-item.is);
  kept = keeps_on _ _ _ c.loop-query.invariant.kept (keeps_on _ _ _ (keeps_more _ _ _ c.in_ok-push.ensures.items) c.in_ok-push_query.ensures.kept);
}

pub returns-clause-ok : goal.returns-clause-ok
returns-clause-ok c = queries_end query_of c.args.queries.now c.loop-query.query-index _ _ (omega arith) c.loop-query.invariant.text
