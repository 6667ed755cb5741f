use Rattle.std.proofs.Common.{sym, subst}
use Rattle.clip_chain.specs.Ranges.{IsBounds}
use Rattle.page_geometry.proofs.Moves.{shifted_as, fits, bounds_moved}
use Rattle.page_geometry.proofs.rects.moved_by.Goals as goal

pub returns-clause-value : goal.returns-clause-value
returns-clause-value c =
    shifted_as _ _ _ _ c.args.by.left c.args.by.top c.shift.ensures
    (fits c.args.by.left c.requires.by.left_low c.requires.by.left_high) (fits c.args.by.top c.requires.by.top_low c.requires.by.top_high)

pub returns-clause-range : goal.returns-clause-range
returns-clause-range c =
    subst IsBounds (sym (returns-clause-value c)) (bounds_moved c.args.by c.args.rect c.requires.by c.requires.edges c.requires.width c.requires.height)
