-- A handler's number is its place among the names.
use Rattle.page_names.proofs.HandlerNames.{handler_found, handler_missing}
use Rattle.page_names.proofs.handlers.handler_named.Goals as goal

pub returns-in-Some : goal.returns-in-Some
returns-in-Some c = handler_found c.args.script.now.items c.args.name c.handler_named.result c.in-Some.number c.handler_named.ensures c.in-Some.is

pub returns-in-None : goal.returns-in-None
returns-in-None c = handler_missing c.args.script.now.items c.args.name c.handler_named.result c.handler_named.ensures c.in-None.is
