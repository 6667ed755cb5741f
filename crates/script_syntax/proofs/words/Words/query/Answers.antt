use Rattle.std.proofs.Common.{ap, ◌+◌, sym, ◌∙◌, arith, Err, ℕ}
use Rattle.script_syntax.proofs.Queries.{column_within, query_ok, query_err}
use Rattle.script_syntax.proofs.words.Words.query.Goals as goal

pub overflow_add-result : goal.overflow_add-result
overflow_add-result c =
    let e = rw c.in-Err-BadQuery.field-0-is at c.in-Err-BadQuery.ensures in
    let w = column_within c.in-Ok.rest.text.now c.in-Err-BadQuery.column e in
    omega (arith, w, c.saturating_sub.ensures, c.in-Ok.ensures.place, c.in-Ok.ensures.short)

pub returns-in-Ok-parse : goal.returns-in-Ok-parse
returns-in-Ok-parse c = query_ok _ _ _ _ _ c.in-Ok.ensures.ok c.in-Ok-parse.ensures

pub returns-in-Err-BadQuery : goal.returns-in-Err-BadQuery
returns-in-Err-BadQuery c =
    query_err _ _ _ _ _ c.in-Ok.ensures.ok (rw c.in-Err-BadQuery.field-0-is at c.in-Err-BadQuery.ensures)
    ∙ ap (λ (n : ℕ). Err (c.in-Ok.rest.column + n)) (sym c.saturating_sub.ensures)
