use Rattle.std.proofs.Common.{inl, inr, refl}
use Rattle.run_replies.specs.declared.status.Status.TheVariants.{WriteFault}
use Rattle.run_replies.proofs.Taking.{failed_taken, taken_past}
use Rattle.run_replies.proofs.Telling.{unfailed}
use Rattle.replay_run.proofs.Judged.{judged_refused, ends_past, ends_whole, taken_whole}
use Rattle.replay_run.proofs.judging.judge_source.Goals as goal

pub returns-in-Ok-clause-ends : goal.returns-in-Ok-clause-ends
returns-in-Ok-clause-ends g c =
    ends_whole c.judge_recorded.result _ _ _ _ _ _ _ _ c.in-Ok.ensures.divided c.in-Ok.ensures.end c.judge_recorded.ensures.tells

pub returns-in-Ok-clause-read : goal.returns-in-Ok-clause-read
returns-in-Ok-clause-read g c = taken_whole c.judge_recorded.result _ _ c.in-Ok.ensures.end

pub returns-in-Err-TooLong-clause-ends : goal.returns-in-Err-TooLong-clause-ends
returns-in-Err-TooLong-clause-ends g c =
    let cause = rw c.in-Err-TooLong.field-0-is at c.in-Err-TooLong.ensures.fault in
    ends_past c.meet_limit.result _ _ c.in-Err-TooLong.feeds _ _ _ _ cause.2 c.meet_limit.ensures.tells

pub returns-in-Err-TooLong-clause-read : goal.returns-in-Err-TooLong-clause-read
returns-in-Err-TooLong-clause-read g c =
    let cause = rw c.in-Err-TooLong.field-0-is at c.in-Err-TooLong.ensures.fault in taken_past c.meet_limit.result 67108864 c.in-Err-TooLong.feeds _ _ cause.2

pub returns-in-Err-ReadFault-clause-read : goal.returns-in-Err-ReadFault-clause-read
returns-in-Err-ReadFault-clause-read g c = failed_taken 67108865 _ _ c.in-Err-ReadFault.ensures.at_most

pub returns-in-Err-clause-read : goal.returns-in-Err-clause-read
returns-in-Err-clause-read g c = failed_taken 67108865 _ _ c.in-Err.ensures.at_most

pub returns-in-Ok-clause-unfailed_write : goal.returns-in-Ok-clause-unfailed_write
returns-in-Ok-clause-unfailed_write g c = unfailed c.judge_recorded.result _ _ _ _ _ c.judge_recorded.ensures.tells

pub returns-in-Err-TooLong-clause-unfailed_read : goal.returns-in-Err-TooLong-clause-unfailed_read
returns-in-Err-TooLong-clause-unfailed_read g c =
    let cause = rw c.in-Err-TooLong.field-0-is at c.in-Err-TooLong.ensures.fault in λ other. cause.1

pub returns-in-Err-TooLong-clause-unfailed_write : goal.returns-in-Err-TooLong-clause-unfailed_write
returns-in-Err-TooLong-clause-unfailed_write g c = unfailed c.meet_limit.result _ _ _ _ _ c.meet_limit.ensures.tells

pub returns-in-Ok-clause-refused_steps : goal.returns-in-Ok-clause-refused_steps
returns-in-Ok-clause-refused_steps g c = judged_refused _ _ _ _ _ c.in-Ok.ensures.divided c.judge_recorded.ensures.refused_steps

pub returns-in-Ok-clause-out_of_memory : goal.returns-in-Ok-clause-out_of_memory
returns-in-Ok-clause-out_of_memory g c = λ is. inr (taken_whole WriteFault _ _ c.in-Ok.ensures.end)

pub returns-in-Err-TooLong-clause-out_of_memory : goal.returns-in-Err-TooLong-clause-out_of_memory
returns-in-Err-TooLong-clause-out_of_memory g c =
    let cause = rw c.in-Err-TooLong.field-0-is at c.in-Err-TooLong.ensures.fault in λ is. inr (taken_past WriteFault 67108864 c.in-Err-TooLong.feeds _ _ cause.2)

pub returns-in-Err-clause-out_of_memory : goal.returns-in-Err-clause-out_of_memory
returns-in-Err-clause-out_of_memory g c = λ is. inl refl
