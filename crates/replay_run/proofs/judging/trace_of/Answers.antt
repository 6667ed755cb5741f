use Rattle.std.proofs.Common.{◌∙◌, ap, sym}
use Rattle.text_lines.specs.Gathered.{Gathered}
use Rattle.replay_run.proofs.Judged.{whole_gathered}
use Rattle.replay_run.proofs.judging.trace_of.Goals as goal

pub returns-then-is_whole-clause-trace : goal.returns-then-is_whole-clause-trace
returns-then-is_whole-clause-trace g c =
    whole_gathered c.perform_on_text-report.result.status c.args.script _ _ _ _ (sym c.is_whole.ensures ∙ c.if-is_whole.true)
    (ap (λ (sink : Gathered). sink.taken) c.new-gathered.ensures) c.perform_on_text-report.ensures.tells
