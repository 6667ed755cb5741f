-- The ranges of the boxes of targets, and of the rectangles of findings.
use Rattle.px_units.specs.declared.Rect.{Rect}
use Rattle.page_model.specs.World.{Finding}
use Rattle.clip_chain.specs.Ranges.{IsBounds}
use Rattle.thresholds.specs.Roots.{IsNear}
use Rattle.candidate_index.specs.declared.basis.Sight.{Sight}
use Rattle.candidate_index.specs.declared.basis.Sight.TheVariants.{Apart, NoBox, Chained}
use Rattle.candidate_index.specs.declared.basis.Basis.{Basis}

abbrev pub HasBoundsIn : Sight → Type 0
HasBoundsIn Apart = Unit {0}
HasBoundsIn NoBox = Unit {0}
HasBoundsIn (Chained bounds clip) = IsBounds bounds

-- the target's box, if the basis has one, is in the range of boxes
abbrev pub HasBounds : Basis → Type 0
HasBounds basis = HasBoundsIn basis.sight

-- the rectangles of a finding: each edge of the root rectangle is no farther than a margin can move it from where it was before,
-- and the target's box and the visible part of it are in the range of boxes
pub record IsPlaced (before : Rect) (it : Finding) : Type 0 where
  pub root : IsNear before it.root
  pub bounds : IsBounds it.bounds
  pub cut : IsBounds it.cut
