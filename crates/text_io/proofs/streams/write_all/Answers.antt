use Rattle.std.proofs.Common.{arith}
use Rattle.std.proofs.lemmas.Grind.{common_steps}
use Rattle.text_io.proofs.Pieces.{appended_more}
use Rattle.text_io.proofs.streams.write_all.Goals as goal

pub loop-done-preserved : goal.loop-done-preserved
loop-done-preserved g c =
    let before = c.loop-done.invariant in
    record {
      within = grind (arith, common_steps);
      appended = appended_more _ _ _ c.args.bytes.now c.loop-done.done c.in-Ok.taken before.appended c.in-Ok.ensures.bytes;
      counted = cc (before.counted, c.in-Ok.ensures.only_by_failing);
      untouched = λ none. absurd (omega arith);
    }
