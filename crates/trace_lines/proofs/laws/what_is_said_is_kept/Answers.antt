use Rattle.trace_lines.proofs.Kept.{said_is_kept}
use Rattle.trace_lines.proofs.laws.what_is_said_is_kept.Goals as goal

pub returns : goal.returns
returns c old new said before after none says = said_is_kept c.line_ends_once.ensures c.text_has_one_line.ensures old new said before after none says
