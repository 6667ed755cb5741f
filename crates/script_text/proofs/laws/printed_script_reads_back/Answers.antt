use Rattle.script_text.proofs.WholeText.{printed_again}
use Rattle.script_text.proofs.laws.printed_script_reads_back.Goals as goal

pub returns : goal.returns
returns c = printed_again c.line_feed_ends_a_line.ensures c.last_line_needs_no_line_feed.ensures c.script_limit_comes_first.ensures.within
