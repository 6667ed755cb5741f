use Rattle.std.proofs.Common.{inl, inr, refl}
use Rattle.run_replies.specs.declared.status.Status.TheVariants.{WriteFault}
use Rattle.page_state.specs.Views.{PageView}
use Rattle.run_replies.proofs.Telling.{not_read_fault, not_usage, unfailed, write_fault_rose}
use Rattle.run_replies.proofs.Taking.{failed_taken}
use Rattle.script_replay.proofs.Ready.{ready_some}
use Rattle.replay_run.proofs.Unread.{reads_refused, reads_taken, reads_to_end, reads_world}
use Rattle.replay_run.proofs.call.perform_on_source.Goals as goal

pub returns-in-Ok-clause-usage : goal.returns-in-Ok-clause-usage
returns-in-Ok-clause-usage g c = not_usage c.perform_on_text.result.status _ _ _ _ _ c.perform_on_text.ensures.tells

pub returns-in-Ok-clause-ends : goal.returns-in-Ok-clause-ends
returns-in-Ok-clause-ends g c = reads_to_end c.perform_on_text.result.status c.args.job _ _ _ _ _ _ _ c.in-Ok.ensures.read c.perform_on_text.ensures.tells

pub returns-in-Ok-clause-read : goal.returns-in-Ok-clause-read
returns-in-Ok-clause-read g c = reads_taken c.perform_on_text.result.status _ _ _ c.in-Ok.ensures.read

pub returns-in-Ok-clause-read_fault : goal.returns-in-Ok-clause-read_fault
returns-in-Ok-clause-read_fault g c = λ is. absurd (not_read_fault c.perform_on_text.result.status _ _ _ _ _ c.perform_on_text.ensures.tells is)

pub returns-in-Ok-clause-write_fault : goal.returns-in-Ok-clause-write_fault
returns-in-Ok-clause-write_fault g c = write_fault_rose c.perform_on_text.result.status _ _ _ _ _ c.perform_on_text.ensures.tells

pub returns-in-Ok-clause-unfailed_write : goal.returns-in-Ok-clause-unfailed_write
returns-in-Ok-clause-unfailed_write g c = unfailed c.perform_on_text.result.status _ _ _ _ _ c.perform_on_text.ensures.tells

pub returns-in-Err-ReadFault-clause-read : goal.returns-in-Err-ReadFault-clause-read
returns-in-Err-ReadFault-clause-read g c = rw c.without_page.ensures (failed_taken 16777217 _ _ c.in-Err-ReadFault.ensures.at_most)

pub returns-in-Err-Memory-clause-read : goal.returns-in-Err-Memory-clause-read
returns-in-Err-Memory-clause-read g c = rw c.without_page-in-Err-Memory.ensures (failed_taken 16777217 _ _ c.in-Err-Memory.ensures.at_most)

pub returns-in-Ok-clause-world : goal.returns-in-Ok-clause-world
returns-in-Ok-clause-world g c = reads_world (λ (page : PageView). page.world) c.perform_on_text.result.page _ _ _ c.in-Ok.ensures.read c.perform_on_text.ensures.world

pub returns-in-Ok-clause-ready : goal.returns-in-Ok-clause-ready
returns-in-Ok-clause-ready g c = ready_some _ c.perform_on_text.result.page c.perform_on_text.ensures.ready

pub returns-in-Ok-clause-refused_steps : goal.returns-in-Ok-clause-refused_steps
returns-in-Ok-clause-refused_steps g c = reads_refused _ _ _ _ _ c.in-Ok.ensures.read c.perform_on_text.ensures.refused_steps

pub returns-in-Ok-clause-out_of_memory : goal.returns-in-Ok-clause-out_of_memory
returns-in-Ok-clause-out_of_memory g c = λ is. inr (reads_taken WriteFault _ _ _ c.in-Ok.ensures.read)

pub returns-in-Err-Memory-clause-out_of_memory : goal.returns-in-Err-Memory-clause-out_of_memory
returns-in-Err-Memory-clause-out_of_memory g c = λ is. inl refl
