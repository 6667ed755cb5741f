-- Exit statuses, and the status for each ending of an outcome.
use Rattle.std.specs.Prelude.{ℕ, Bool, true, false, Result, Ok, Err}
use Rattle.trace_runs.specs.declared.faults.RunFault.{RunFault}
use Rattle.trace_runs.specs.declared.faults.RunFault.TheVariants as fault
use Rattle.page_model.specs.Outcome.{Ending, Ended, Faulty, LimitMet}
use Rattle.run_replies.specs.declared.status.Status.{Status}
use Rattle.run_replies.specs.declared.status.Status.TheVariants.{Done, Syntax, Limit, NoMemory, ReadFault, WriteFault, Usage, Differs}

-- the exit status of the program
abbrev pub code_of : Status → ℕ
code_of Done = 0
code_of Syntax = 1
code_of Limit = 2
code_of NoMemory = 3
code_of ReadFault = 4
code_of WriteFault = 5
code_of Usage = 6
code_of Differs = 7

abbrev pub is_done : Status → Bool
is_done Done = true
is_done Syntax = false
is_done Limit = false
is_done NoMemory = false
is_done ReadFault = false
is_done WriteFault = false
is_done Usage = false
is_done Differs = false

-- whether all was written
abbrev pub is_whole : Status → Bool
is_whole Done = true
is_whole Syntax = true
is_whole Limit = true
is_whole NoMemory = false
is_whole ReadFault = false
is_whole WriteFault = false
is_whole Usage = false
is_whole Differs = true

abbrev pub status_at : Ending → Status
status_at Ended = Done
status_at Faulty = Syntax
status_at LimitMet = Limit

abbrev pub status_of : RunFault → Status
status_of (fault.Limit kind line number) = Limit
status_of fault.Memory = NoMemory
status_of fault.WriteFault = WriteFault

-- this status if all was written, else that of the fault
abbrev pub status_after : {A : Type 0} → Result A RunFault → Status → Status
status_after (Ok done) status = status
status_after (Err fault) status = status_of fault
