use Rattle.thresholds.proofs.Sums.{less, more, lessened, increased}
use Rattle.thresholds.proofs.margins.outward.Goals as goal

pub returns-clause-near : goal.returns-clause-near
returns-clause-near c = record {
  left = lessened _ _ _ (less _ _ c.requires.root.left c.requires.left) c.requires.left;
  top = lessened _ _ _ (less _ _ c.requires.root.top c.requires.top) c.requires.top;
  right = increased _ _ _ (more _ _ c.requires.root.right c.requires.right) c.requires.right;
  bottom = increased _ _ _ (more _ _ c.requires.root.bottom c.requires.bottom) c.requires.bottom;
}
