-- The target of the present entry.
use Rattle.page_names.proofs.Finding.{target_given, target_missing}
use Rattle.page_names.proofs.names.Names.thing.Goals as goal

pub returns-in-Some-clause-answer : goal.returns-in-Some-clause-answer
returns-in-Some-clause-answer c = target_given c.args.self.now.list c.args.subject c.args.operand c.in-Some.node c.in-Target.is c.in-Some.is

pub returns-in-None-clause-answer : goal.returns-in-None-clause-answer
returns-in-None-clause-answer c = target_missing c.args.self.now.list c.args.subject c.args.operand c.in-Target.is c.in-None.is
