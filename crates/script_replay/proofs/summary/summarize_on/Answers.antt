use Rattle.std.proofs.Common.{ℕ, List, ap, sym, subst}
use Rattle.trace_summary.specs.Counts.{IsTrace}
use Rattle.text_lines.specs.Gathered.{Gathered}
use Rattle.page_model.specs.Outcome.{run_items}
use Rattle.run_replies.proofs.Endings.{done_world}
use Rattle.run_replies.proofs.Summaries.{gathered_trace}
use Rattle.script_items.proofs.Playing.{opening_ready}
use Rattle.script_replay.proofs.Jobs.{done_summary, limit_summary}
use Rattle.script_replay.proofs.summary.summarize_on.Goals as goal

pub play-requires : goal.play-requires
play-requires g c = record { ready = opening_ready _ _ _ c.requires.opening }

pub write_summary-requires : goal.write_summary-requires
write_summary-requires g c =
    let traced = gathered_trace c.new-gathered.result.taken _ _ (ap (λ (sink : Gathered). sink.taken) c.new-gathered.ensures) c.in-Ok.ensures.says.ended.written in (
      (run_items c.args.script.now.items c.args.page.now.world).lines,
      subst (λ (text : List ℕ). IsTrace text (run_items c.args.script.now.items c.args.page.now.world).lines) (sym c.taken.ensures) traced,
    )

pub summarize_to_limit-requires : goal.summarize_to_limit-requires
summarize_to_limit-requires g c =
    let cut = rw c.in-Err-Limit.field-0-is at c.in-Err-Limit.ensures in
    (cut.says.cut_off.lines, gathered_trace c.new-gathered.result.taken _ _ (ap (λ (sink : Gathered). sink.taken) c.new-gathered.ensures) cut.says.cut_off.written)

pub returns-in-Ok-clause-tells : goal.returns-in-Ok-clause-tells
returns-in-Ok-clause-tells g c =
    rw c.status_of.ensures.status
    (done_summary _ _ c.requires.opening c.new-gathered.result.taken _ _ _ c.write_summary.result _ _ _ _ (ap (λ (sink : Gathered). sink.taken) c.new-gathered.ensures)
    c.in-Ok.ensures.says.ended (λ lines it. c.write_summary.ensures lines (subst (λ (text : List ℕ). IsTrace text lines) (sym c.taken.ensures) it)))

pub returns-in-Ok-clause-world : goal.returns-in-Ok-clause-world
returns-in-Ok-clause-world g c = λ done. done_world _ _ c.requires.opening _ _ c.in-Ok.ensures.says.ended

pub returns-in-Err-Limit-clause-tells : goal.returns-in-Err-Limit-clause-tells
returns-in-Err-Limit-clause-tells g c =
    let cut = rw c.in-Err-Limit.field-0-is at c.in-Err-Limit.ensures in
    limit_summary _ _ c.requires.opening c.new-gathered.result.taken _ _ _ _ _ _ c.summarize_to_limit.result _ _ _ _ (ap (λ (sink : Gathered). sink.taken) c.new-gathered.ensures) cut.says.cut_off
    c.summarize_to_limit.ensures.tells
