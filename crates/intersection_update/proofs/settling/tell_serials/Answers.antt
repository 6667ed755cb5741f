use Rattle.std.proofs.Common.{arith, tests}
use Rattle.std.proofs.lemmas.List.{nil_from_length}
use Rattle.intersection_update.proofs.Registrations.{none_have_serials}
use Rattle.intersection_update.proofs.settling.tell_serials.Goals as goal

pub returns-else-count-gt0 : goal.returns-else-count-gt0
returns-else-count-gt0 c =
    let it = c.args.watchers.now.part in
    none_have_serials it (nil_from_length it.made (grind (arith, tests, c.count.ensures, c.if-count-gt0.false)))
