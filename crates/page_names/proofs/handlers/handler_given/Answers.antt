-- A handler that is named.
use Rattle.page_names.proofs.HandlerNames.{given_found, given_missing}
use Rattle.page_names.proofs.handlers.handler_given.Goals as goal

pub returns-in-Ok : goal.returns-in-Ok
returns-in-Ok c = given_found _ c.args.name _ c.in-Some.is _ c.in-Ok.ensures

pub returns-in-Err : goal.returns-in-Err
returns-in-Err c = given_missing _ c.args.name _ c.in-Some.is _ c.in-Err.ensures
