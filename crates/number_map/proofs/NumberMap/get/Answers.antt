use Rattle.std.proofs.Common.{◌∙◌, ap, sym}
use Rattle.std.specs.FinMap.{get}
use Rattle.number_map.proofs.Entries.{got}
use Rattle.number_map.proofs.NumberMap.get.Goals as goal

pub returns : goal.returns
returns g c =
    c.copied.ensures ∙ c.get.ensures.value ∙ sym (got c.self.inside.entries.entries c.args.number)
    ∙ ap (λ m. get m c.args.number) c.self.view_is
