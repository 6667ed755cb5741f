use Rattle.std.proofs.Common.{arith}
use Rattle.std.proofs.lemmas.Int.{ints}
use Rattle.std.proofs.lemmas.Result.{on_ok_weaker}
use Rattle.trace_text.proofs.Joined.{length_pushed, rect_pushed}
use Rattle.trace_text.proofs.write.push_rect.Goals as goal

pub returns-clause-ok : goal.returns-clause-ok
returns-clause-ok c = on_ok_weaker c.push_length-4.result
    (λ e. rect_pushed _ _ _ _ _ c.args.rect.now
    (length_pushed _ _ _ _ (omega (arith, ints)) c.in_ok-push_length.ensures.ok)
    (length_pushed _ _ _ _ (omega (arith, ints)) c.in_ok-push_length-2.ensures.ok)
    (length_pushed _ _ _ _ (omega (arith, ints)) c.in_ok-push_length-3.ensures.ok)
    (length_pushed _ _ _ _ (omega (arith, ints)) e))
    c.push_length-4.ensures.ok
