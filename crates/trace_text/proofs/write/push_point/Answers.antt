use Rattle.std.proofs.Common.{arith}
use Rattle.std.proofs.lemmas.Int.{ints}
use Rattle.std.proofs.lemmas.Result.{on_ok_weaker}
use Rattle.trace_text.proofs.Joined.{length_pushed, point_pushed}
use Rattle.trace_text.proofs.write.push_point.Goals as goal

pub returns : goal.returns
returns c = on_ok_weaker c.push_length-2.result
    (λ e. point_pushed _ _ _ c.args.point.now (length_pushed _ _ _ _ (omega (arith, ints)) c.in_ok-push_length.ensures.ok) (length_pushed _ _ _ _ (omega (arith, ints)) e))
    c.push_length-2.ensures.ok
