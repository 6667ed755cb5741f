use Rattle.std.proofs.Common.{◌∙◌}
use Rattle.thresholds.proofs.Moves.{moved}
use Rattle.thresholds.proofs.Sums.{margin_fits, width_fits}
use Rattle.thresholds.proofs.margins.Margins.dilate.Goals as goal

pub returns-clause-moved : goal.returns-clause-moved
returns-clause-moved c =
    moved _ _ _ _ _ _ _ _ _ _ _ _ c.outward.ensures.moved
    (margin_fits _ c.units-left.ensures.bound ∙ c.units-left.ensures.value)
    (margin_fits _ c.units-top.ensures.bound ∙ c.units-top.ensures.value)
    (margin_fits _ c.units-right.ensures.bound ∙ c.units-right.ensures.value)
    (margin_fits _ c.units-bottom.ensures.bound ∙ c.units-bottom.ensures.value)
    c.self.view_is
    (width_fits _ _ c.requires.right c.requires.left)
