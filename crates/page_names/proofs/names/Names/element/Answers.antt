-- What an operand stands for, as an element.
use Rattle.page_model.specs.Operands.{operand_thing, as_element}
use Rattle.page_names.specs.Things.{present_of}
use Rattle.page_names.proofs.Finding.{finds_then, finds_none}
use Rattle.element_tree.specs.Links.{number}
use Rattle.script_syntax.specs.Seen.{operand_of}
use Rattle.page_names.proofs.names.Names.element.Goals as goal

pub returns-in-Ok-clause-answer : goal.returns-in-Ok-clause-answer
returns-in-Ok-clause-answer c = finds_then number as_element (operand_thing c.args.self.now.list (present_of c.args.subject) (operand_of c.args.operand)) _ _ c.in-Ok.ensures.answer c.as_element.ensures.answer

pub returns-in-Ok-clause-held : goal.returns-in-Ok-clause-held
returns-in-Ok-clause-held c = λ counts all is. c.as_element.ensures.held counts (c.in-Ok.ensures.held counts all is)

pub returns-in-Err-clause-answer : goal.returns-in-Err-clause-answer
returns-in-Err-clause-answer c = finds_none number as_element (operand_thing c.args.self.now.list (present_of c.args.subject) (operand_of c.args.operand)) _ c.in-Err.ensures.answer
