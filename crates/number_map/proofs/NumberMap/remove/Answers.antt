use Rattle.std.proofs.Common.{◌∙◌, ap}
use Rattle.std.specs.FinMap.{remove}
use Rattle.number_map.proofs.Entries.{removed}
use Rattle.number_map.proofs.NumberMap.remove.Goals as goal

pub returns : goal.returns
returns g c =
    removed c.self.inside.entries.entries c.swap_remove.new.self.entries c.args.number c.swap_remove.ensures.updates.0
    ∙ ap (λ m. remove m c.args.number) c.self.view_is
