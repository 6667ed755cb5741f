use Rattle.run_replies.proofs.Endings.{done_answers, done_world, limit_said, memory_answers, failed_answers}
use Rattle.script_items.proofs.Playing.{opening_ready}
use Rattle.script_replay.proofs.script.run_on.Goals as goal

pub play-requires : goal.play-requires
play-requires g c = record { ready = opening_ready _ _ _ c.requires.opening }

pub returns-in-Ok-clause-answers : goal.returns-in-Ok-clause-answers
returns-in-Ok-clause-answers g c = done_answers _ _ c.requires.opening _ _ c.in-Ok.ensures.says.ended

pub returns-in-Ok-clause-world : goal.returns-in-Ok-clause-world
returns-in-Ok-clause-world g c = λ done. done_world _ _ c.requires.opening _ _ c.in-Ok.ensures.says.ended

pub returns-in-Err-Limit-clause-answers : goal.returns-in-Err-Limit-clause-answers
returns-in-Err-Limit-clause-answers g c =
    let cut = rw c.in-Err-Limit.field-0-is at c.in-Err-Limit.ensures in
    rw c.status_of.ensures.status
    (limit_said _ _ c.requires.opening _ _ _ _ _ _ _ cut.says.cut_off c.write_limit-wrote.result _ _ c.write_limit-wrote.ensures.told)

pub returns-in-Err-Memory-clause-answers : goal.returns-in-Err-Memory-clause-answers
returns-in-Err-Memory-clause-answers g c =
    let cut = rw c.in-Err-Memory.field-0-is at c.in-Err-Memory.ensures in memory_answers _ _ c.requires.opening _ _ _ cut.says.cut_off

pub returns-in-Err-WriteFault-clause-answers : goal.returns-in-Err-WriteFault-clause-answers
returns-in-Err-WriteFault-clause-answers g c =
    let cut = rw c.in-Err-WriteFault.field-0-is at c.in-Err-WriteFault.ensures in failed_answers _ _ c.requires.opening _ _ cut.says.cut_off
