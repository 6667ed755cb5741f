use Rattle.std.proofs.Common.{arith}
use Rattle.std.proofs.lemmas.Result.{on_ok_weaker}
use Rattle.media_queries.specs.Seen.{query_of}
use Rattle.media_queries.proofs.Appends.{list_pushed, no_queries}
use Rattle.media_queries.proofs.texts.push_queries.Goals as goal

pub returns-in-empty-clause-ok : goal.returns-in-empty-clause-ok
returns-in-empty-clause-ok c = no_queries query_of c.args.queries.now c.args.out.now.items (omega arith)

pub returns-in_ok-push_query-in-len1-up-clause-ok : goal.returns-in_ok-push_query-in-len1-up-clause-ok
returns-in_ok-push_query-in-len1-up-clause-ok c =
    on_ok_weaker c.push_others.result
    (list_pushed query_of c.args.queries.now c.first-item.result c.args.out.now.items c.push_query.new.out.items c.push_others.new.out.items (omega arith)
    c.first-item.is c.in_ok-push_query-in-len1-up.ensures.ok)
    c.push_others.ensures.ok
