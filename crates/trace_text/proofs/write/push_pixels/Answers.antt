use Rattle.std.proofs.Common.{arith}
use Rattle.std.proofs.lemmas.Int.{ints}
use Rattle.std.proofs.lemmas.Result.{on_ok_weaker}
use Rattle.trace_text.proofs.Joined.{whole_same, pixels_pushed}
use Rattle.trace_text.proofs.write.push_pixels.Goals as goal

pub returns : goal.returns
returns c = on_ok_weaker c.push_whole-2.result
    (λ e. pixels_pushed _ _ _ _ c.args.size.now c.in_ok-push_field.ensures.ok
    (whole_same _ _ _ _ (omega (arith, ints)) c.in_ok-push_whole.ensures)
    (whole_same _ _ _ _ (omega (arith, ints)) e))
    c.push_whole-2.ensures
