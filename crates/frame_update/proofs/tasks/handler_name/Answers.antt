use Rattle.frame_update.proofs.Named.{handler_named, handler_there}
use Rattle.frame_update.proofs.tasks.handler_name.Goals as goal

pub unwrap-requires : goal.unwrap-requires
unwrap-requires c = handler_there _ c.args.handler.0 c.handler.result c.handler.ensures.value c.requires

pub returns : goal.returns
returns c = handler_named _ c.args.handler.0 c.handler.result c.unwrap.result c.handler.ensures.value c.unwrap.ensures
