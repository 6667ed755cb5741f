use Rattle.std.proofs.Common.{◌≤◌, arith, inl, inr, length, refl, subst, ℕ, List}
use Rattle.run_replies.proofs.Taking.{failed_taken, taken_past}
use Rattle.run_replies.proofs.Telling.{unfailed}
use Rattle.stream_replay.specs.StreamReplies.{IsolatesPages}
use Rattle.stream_replay.proofs.PagesAsked.{pages_end_past, pages_taken, alone_end, past_alone}
use Rattle.run_replies.specs.declared.status.Status.TheVariants.{WriteFault}
use Rattle.stream_replay.proofs.side_by_side.run_pages.Goals as goal

pub returns-in-Ok-clause-read : goal.returns-in-Ok-clause-read
returns-in-Ok-clause-read g c =
    let fits : length c.in-Ok.bytes.items ≤ 16777216 = omega (arith, c.in-Ok.bytes.ok, c.in-Ok.ensures.within) in
    pages_taken c.run_bytes.result _ _ c.in-Ok.bytes.items c.in-Ok.ensures.all c.in-Ok.ensures.end fits

pub returns-in-Err-TooLong-clause-ends : goal.returns-in-Err-TooLong-clause-ends
returns-in-Err-TooLong-clause-ends g c =
    let cause = rw c.in-Err-TooLong.field-0-is at c.in-Err-TooLong.ensures.fault in
    pages_end_past c.meet_limit.result _ _ c.in-Err-TooLong.feeds _ _ _ _ cause.2 c.meet_limit.ensures.tells

pub returns-in-Err-TooLong-clause-read : goal.returns-in-Err-TooLong-clause-read
returns-in-Err-TooLong-clause-read g c =
    let cause = rw c.in-Err-TooLong.field-0-is at c.in-Err-TooLong.ensures.fault in taken_past c.meet_limit.result 16777216 c.in-Err-TooLong.feeds _ _ cause.2

pub returns-in-Err-ReadFault-clause-read : goal.returns-in-Err-ReadFault-clause-read
returns-in-Err-ReadFault-clause-read g c = failed_taken 16777217 _ _ c.in-Err-ReadFault.ensures.at_most

pub returns-in-Err-clause-read : goal.returns-in-Err-clause-read
returns-in-Err-clause-read g c = failed_taken 16777217 _ _ c.in-Err.ensures.at_most

pub returns-in-Ok-clause-unfailed_write : goal.returns-in-Ok-clause-unfailed_write
returns-in-Ok-clause-unfailed_write g c = unfailed c.run_bytes.result _ _ _ _ _ c.run_bytes.ensures.tells

pub returns-in-Err-TooLong-clause-unfailed_read : goal.returns-in-Err-TooLong-clause-unfailed_read
returns-in-Err-TooLong-clause-unfailed_read g c =
    let cause = rw c.in-Err-TooLong.field-0-is at c.in-Err-TooLong.ensures.fault in λ other. cause.1

pub returns-in-Err-TooLong-clause-unfailed_write : goal.returns-in-Err-TooLong-clause-unfailed_write
returns-in-Err-TooLong-clause-unfailed_write g c = unfailed c.meet_limit.result _ _ _ _ _ c.meet_limit.ensures.tells

pub returns-in-Ok-clause-alone : goal.returns-in-Ok-clause-alone
returns-in-Ok-clause-alone g c =
    alone_end c.run_bytes.result _ c.in-Ok.bytes.items c.in-Ok.ensures.all
    (subst (λ (it : List ℕ). IsolatesPages c.run_bytes.result it) c.deref.ensures.value c.run_bytes.ensures.alone)

pub returns-in-Err-TooLong-clause-alone : goal.returns-in-Err-TooLong-clause-alone
returns-in-Err-TooLong-clause-alone g c =
    let cause = rw c.in-Err-TooLong.field-0-is at c.in-Err-TooLong.ensures.fault in past_alone c.meet_limit.result _ _ c.in-Err-TooLong.feeds cause.2

pub returns-in-Ok-clause-out_of_memory : goal.returns-in-Ok-clause-out_of_memory
returns-in-Ok-clause-out_of_memory g c =
    let fits : length c.in-Ok.bytes.items ≤ 16777216 = omega (arith, c.in-Ok.bytes.ok, c.in-Ok.ensures.within) in
    λ is. inr (pages_taken WriteFault _ _ c.in-Ok.bytes.items c.in-Ok.ensures.all c.in-Ok.ensures.end fits)

pub returns-in-Err-TooLong-clause-out_of_memory : goal.returns-in-Err-TooLong-clause-out_of_memory
returns-in-Err-TooLong-clause-out_of_memory g c =
    let cause = rw c.in-Err-TooLong.field-0-is at c.in-Err-TooLong.ensures.fault in λ is. inr (taken_past WriteFault 16777216 c.in-Err-TooLong.feeds _ _ cause.2)

pub returns-in-Err-clause-out_of_memory : goal.returns-in-Err-clause-out_of_memory
returns-in-Err-clause-out_of_memory g c = λ is. inl refl
