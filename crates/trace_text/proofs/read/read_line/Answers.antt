use Rattle.std.proofs.Common.{sym, ap}
use Rattle.trace_text.specs.Seen.{seen_line}
use Rattle.trace_text.specs.Reading.{line_of}
use Rattle.trace_text.proofs.Whole.{read_sound, read_complete}
use Rattle.trace_text.proofs.read.read_line.Goals as goal

pub returns-in-Some-clause-ok : goal.returns-in-Some-clause-ok
returns-in-Some-clause-ok c = (read_sound c.args.text.now (seen_line c.in-Some.line) (sym c.in-Some.ensures)).0

pub returns-in-Some-clause-range : goal.returns-in-Some-clause-range
returns-in-Some-clause-range c = (read_sound c.args.text.now (seen_line c.in-Some.line) (sym c.in-Some.ensures)).1

pub returns-in-None-clause-err : goal.returns-in-None-clause-err
returns-in-None-clause-err c = λ line fits same. cc (c.in-None.ensures, ap line_of (sym same), read_complete line fits)
