use Rattle.std.proofs.Common.{sym, subst}
use Rattle.page_geometry.specs.Ranges.{IsRectReached}
use Rattle.page_geometry.proofs.Moves.{shifted_as, negated, reach_back}
use Rattle.page_geometry.proofs.rects.moved_back.Goals as goal

pub returns-clause-value : goal.returns-clause-value
returns-clause-value c =
    shifted_as _ _ _ _ _ _ c.shift.ensures
    (negated c.args.from.left c.requires.from.left_low c.requires.from.left_high)
    (negated c.args.from.top c.requires.from.top_low c.requires.from.top_high)

pub returns-clause-range : goal.returns-clause-range
returns-clause-range c =
    subst IsRectReached (sym (returns-clause-value c)) (reach_back c.args.from c.args.rect c.requires.from c.requires.rect)
