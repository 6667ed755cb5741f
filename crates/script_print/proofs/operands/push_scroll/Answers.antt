use Rattle.script_print.proofs.LineWords.{no_scroll}
use Rattle.script_print.proofs.operands.push_scroll.Goals as goal

pub returns-in-None : goal.returns-in-None
returns-in-None c = no_scroll c.args.making.now.scroll c.args.into.now.items c.in-None.is
