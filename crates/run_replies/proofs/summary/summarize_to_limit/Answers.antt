use Rattle.std.proofs.Common.{◌∙◌, ◌++◌, ◌∷◌, [], ℕ, List, ap, sym, subst}
use Rattle.script_model.specs.TraceLines.{LimitLine}
use Rattle.trace_summary.specs.Counts.{IsTrace}
use Rattle.run_replies.specs.Statuses.{is_done}
use Rattle.run_replies.proofs.Summaries.{limit_tells, limit_not_done, gathered_more, whole_tells}
use Rattle.run_replies.proofs.summary.summarize_to_limit.Goals as goal

pub write_summary-requires : goal.write_summary-requires
write_summary-requires g c =
    let before = c.requires in (
      before.0 ++ (LimitLine c.args.kind c.args.line c.args.number ∷ []),
      subst (λ (text : List ℕ). IsTrace text (before.0 ++ (LimitLine c.args.kind c.args.line c.args.number ∷ []))) (sym c.taken.ensures)
          (gathered_more _ _ before.0 (LimitLine c.args.kind c.args.line c.args.number ∷ []) before.1 c.in-Ok.ensures.told.0),
    )

pub returns-in-Ok-clause-tells : goal.returns-in-Ok-clause-tells
returns-in-Ok-clause-tells g c =
    λ lines is. limit_tells c.write_summary.result c.args.kind c.args.line _ _ _ c.status_of.result _ _ _ _ lines c.in-Ok.ensures.told.0 is
    (λ all it. c.write_summary.ensures all (subst (λ (text : List ℕ). IsTrace text all) (sym c.taken.ensures) it)) c.status_of.ensures.status

pub returns-in-Ok-clause-whole : goal.returns-in-Ok-clause-whole
returns-in-Ok-clause-whole g c =
    λ lines is. whole_tells c.write_summary.result _ _ _ c.status_of.result _ _ _ _ lines c.in-Ok.ensures.told.0 is
    (λ all it. c.write_summary.ensures all (subst (λ (text : List ℕ). IsTrace text all) (sym c.taken.ensures) it)) c.status_of.ensures.status

pub returns-in-Ok-clause-done : goal.returns-in-Ok-clause-done
returns-in-Ok-clause-done g c = ap is_done c.status_of.ensures.status ∙ limit_not_done c.write_summary.result
