use Rattle.std.proofs.Common.{refl, subst, sym}
use Rattle.intersection_update.specs.Watching.{AreWritten}
use Rattle.handlers.proofs.Places.{nothing_told}
use Rattle.handlers.proofs.Telling.{handed_written}
use Rattle.handlers.proofs.entries.write_entries.Goals as goal

pub returns-in-Nothing : goal.returns-in-Nothing
returns-in-Nothing g c = (nothing_told c.args.page.now.world.version c.args.page.now.world.names c.args.entries.now _ c.in-Nothing.is, refl)

pub write_cuts-requires-clause-written : goal.write_cuts-requires-clause-written
write_cuts-requires-clause-written g c =
    subst (AreWritten _) (sym c.as_slice-in-Intersection.ensures) (handed_written c.args.page.now.world c.args.entries.now c.in-Intersection.observer _ c.in-Intersection.is c.requires)
