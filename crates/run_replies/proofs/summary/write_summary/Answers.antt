use Rattle.run_replies.proofs.Summaries.{is_read, summary_wrote, summary_found}
use Rattle.run_replies.proofs.summary.write_summary.Goals as goal

pub unwrap-summary-requires : goal.unwrap-summary-requires
unwrap-summary-requires g c = is_read c.of.result c.args.trace.now c.of.ensures.err c.requires

pub returns : goal.returns
returns g c =
    let found = summary_found c.of.result c.args.trace.now c.unwrap-summary.result c.unwrap-summary.ensures c.of.ensures.ok in
    λ lines is. summary_wrote c.write_to.result _ _ _ _ c.unwrap-summary.result found.0 lines found.2 (c.a_text_has_one_trace.ensures _ found.0 lines found.1 is)
    (c.rows_are_the_summary.ensures lines) c.write_to.ensures.wrote
