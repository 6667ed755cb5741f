use Rattle.std.proofs.Common.{refl}
use Rattle.handlers.proofs.Telling.{untold}
use Rattle.handlers.proofs.steps.tell.Goals as goal

pub returns-in-Nothing : goal.returns-in-Nothing
returns-in-Nothing g c = (untold c.args.page.now.world c.args.effect.now _ c.in-Nothing.is, refl)
