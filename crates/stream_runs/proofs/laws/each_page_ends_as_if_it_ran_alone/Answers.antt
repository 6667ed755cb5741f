use Rattle.stream_runs.proofs.Isolation.{ends_alone}
use Rattle.stream_runs.proofs.laws.each_page_ends_as_if_it_ran_alone.Goals as goal

pub returns : goal.returns
returns c = λ source place name at. ends_alone c.what_is_read_is_well_formed.ensures c.printed_lines_are_no_longer.ensures.lines source place name at
