use Rattle.std.proofs.Common.{ap}
use Rattle.text_lines.specs.Gathered.{Gathered}
use Rattle.replay_c.proofs.Answered.{answered_by}
use Rattle.replay_c.proofs.answering.answer.Goals as goal

pub returns : goal.returns
returns c =
    answered_by _ c.args.source.now _ _ _ _ _ _ _ _ _ c.run_uncounted-report.result.status c.hand_over.result c.new-bytes.ensures
    (ap (λ (sink : Gathered). sink.taken) c.new-gathered.ensures) c.taken.ensures c.run_uncounted-report.ensures.usage c.run_uncounted-report.ensures.ends
    c.hand_over.ensures.put c.hand_over.ensures.longer c.hand_over.ensures.nothing
