use Rattle.std.proofs.Common.{◌≡◌, ℕ, ◌<◌, ◌≤◌, [], ◌∷◌, ◌++◌, length, map, ap, ◌∙◌, rules}
use Rattle.std.specs.Prelude.{Ok, Err}
use Rattle.std.proofs.lemmas.List.{map-append}
use Rattle.script_model.specs.Media.{queries_at}
use Rattle.media_queries.specs.Seen.{next_of, query_of}
use Rattle.media_queries.proofs.Columns.{follows}
use Rattle.media_queries.proofs.Lists.{listed, list_stops, list_on, list_fails, next_shorter}
use Rattle.media_queries.proofs.queries.queries_at.Goals as goal

pub returns-in_err-query : goal.returns-in_err-query
returns-in_err-query c =
    let some : 0 < length c.loop-rest.rest.now = search rules in
    let fails : (left : ℕ) → next_of c.loop-rest.rest.now ≡ Err left → queries_at c.args.text.now ≡ Err left =
    λ left e. list_fails left c.loop-rest.rest.now _ _ c.loop-rest.invariant some e in
    search (rules, fails)

pub loop-rest-preserved : goal.loop-rest-preserved
loop-rest-preserved c =
    let some : 0 < length c.loop-rest.rest.now = search rules in
    let read : next_of c.loop-rest.rest.now ≡ Ok (query_of c.in_ok-query.query, c.in_ok-query.behind.now) = search rules in
    let joined : map query_of c.push-in-loop-rest.new.self.items ≡ map query_of c.loop-rest.queries.items ++ query_of c.in_ok-query.query ∷ [] =
    ap (map query_of) c.in_ok-push-2.ensures.items ∙ map-append query_of c.loop-rest.queries.items _ in
    ap (λ queries. listed queries (follows c.in_ok-query.behind.now)) joined
    ∙ list_on c.loop-rest.rest.now _ _ _ _ c.loop-rest.invariant some read

pub loop-rest-smaller : goal.loop-rest-smaller
loop-rest-smaller c =
    let read : next_of c.loop-rest.rest.now ≡ Ok (query_of c.in_ok-query.query, c.in_ok-query.behind.now) = search rules in
    next_shorter c.loop-rest.rest.now _ _ read

pub returns : goal.returns
returns c =
    let none : length c.loop-rest.rest.now ≤ 0 = search rules in
    list_stops c.loop-rest.rest.now _ _ c.loop-rest.invariant none
