-- How deep a page is: trees of elements, and nested frames, that are within the limits.
use Rattle.std.specs.Prelude.{ℕ, ◌≤◌, length}
use Rattle.text_io.specs.Limits.{common_limit}
use Rattle.text_io.specs.declared.kinds.LimitKind.TheVariants as limits
use Rattle.page_model.specs.World.{Tree}
use Rattle.page_model.specs.Documents.{element_depth}
use Rattle.page_documents.specs.Frames.{MakeTrees, AreFramed}

-- the elements form trees in which none is deeper than the limit on depth
pub record MakeLowTrees (tree : Tree) : Type 0 where
  pub trees : MakeTrees tree
  pub low : (n : ℕ) → element_depth tree n ≤ common_limit limits.Depth

-- documents and frames match, no element is deeper than the limit on depth, and there are no more documents than their limit allows
pub record IsWithinLevels (tree : Tree) : Type 0 where
  pub framed : AreFramed tree
  pub low : (n : ℕ) → element_depth tree n ≤ common_limit limits.Depth
  pub few : length tree.documents ≤ common_limit limits.Documents
