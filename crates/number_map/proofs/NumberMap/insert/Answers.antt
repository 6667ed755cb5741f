use Rattle.std.proofs.Common.{◌∙◌, ap}
use Rattle.std.specs.FinMap.{insert, contains_key}
use Rattle.number_map.proofs.Entries.{inserted, absent}
use Rattle.number_map.proofs.NumberMap.insert.Goals as goal

pub returns-in_err-insert-clause-there : goal.returns-in_err-insert-clause-there
returns-in_err-insert-clause-there g c = λ there.
    absurd (absent c.self.inside.entries.entries c.args.number c.in_err-insert.ensures.absent (ap (λ m. contains_key m c.args.number) c.self.view_is ∙ there))

pub returns-clause-inserted : goal.returns-clause-inserted
returns-clause-inserted g c =
    inserted c.self.inside.entries.entries c.insert.new.self.entries c.args.number c.args.value c.in_ok-insert.ensures.updates.0
    ∙ ap (λ m. insert m c.args.number c.args.value) c.self.view_is
