use Rattle.handlers.proofs.Telling.{taken_told, taken_untold}
use Rattle.handlers.proofs.entries.write_taken.Goals as goal

pub returns-in-Ok : goal.returns-in-Ok
returns-in-Ok g c =
    taken_told _ _ _ _ c.args.page.now.world.names c.args.observer.0 _ _ c.as_slice-entries.result.now _ c.label-name.ensures c.as_slice-entries.ensures c.write_cuts.result _ _
    c.in-Ok.ensures.told c.write_cuts.ensures

pub returns-in-Err : goal.returns-in-Err
returns-in-Err g c =
    taken_untold _ _ _ _ c.args.page.now.world.names c.args.observer.0 _ _ c.as_slice-entries.result.now _ c.label-name.ensures c.as_slice-entries.ensures c.in-Err.fault
    c.in-Err.ensures.told
