-- By the laws of judgements and of lines.
use Rattle.replay_run.proofs.Reader.{judge_asked, done_where_same, equal_written, as_many_lines}
use Rattle.replay_run.proofs.reader_laws.a_judgement_is_done_where_the_traces_are_the_same.Goals as goal

pub returns-clause-asked : goal.returns-clause-asked
returns-clause-asked c = judge_asked

pub returns-clause-done : goal.returns-clause-done
returns-clause-done c = done_where_same c.equal_exactly_where_the_same.ensures

pub returns-clause-written : goal.returns-clause-written
returns-clause-written c = equal_written c.equal_exactly_where_the_same.ensures

pub returns-clause-lines : goal.returns-clause-lines
returns-clause-lines c = as_many_lines c.line_ends_once.ensures
