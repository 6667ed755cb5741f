-- By the definitions.
use Rattle.replay_run.proofs.Wordless.{nothing_asked, trace_written, ending_same}
use Rattle.replay_run.proofs.laws.no_words_give_the_trace.Goals as goal

pub returns-clause-asked : goal.returns-clause-asked
returns-clause-asked c = nothing_asked

pub returns-clause-written : goal.returns-clause-written
returns-clause-written c = trace_written

pub returns-clause-status : goal.returns-clause-status
returns-clause-status c = ending_same
