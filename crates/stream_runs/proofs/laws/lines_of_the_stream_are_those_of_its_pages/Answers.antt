use Rattle.stream_runs.proofs.Isolation.{lines_said}
use Rattle.stream_runs.proofs.laws.lines_of_the_stream_are_those_of_its_pages.Goals as goal

pub returns : goal.returns
returns c = λ source fit. lines_said c.what_is_read_is_well_formed.ensures c.printed_lines_are_no_longer.ensures.lines source fit
