use Rattle.script_text.proofs.ReadWell.{read_well}
use Rattle.script_text.proofs.laws.what_is_read_is_well_formed.Goals as goal

pub returns : goal.returns
returns c = read_well (record {
  lines = record {
    line_feed = c.line_feed_ends_a_line.ensures;
    last_line = c.last_line_needs_no_line_feed.ensures;
    returned = c.carriage_return_before_a_line_feed.ensures;
    bad_byte = c.bad_byte_ends_the_text.ensures;
    long_line = c.long_line_ends_the_text.ensures;
  };
  within = c.script_limit_comes_first.ensures.within;
  above = c.script_limit_comes_first.ensures.above;
})
