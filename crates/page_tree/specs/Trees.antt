-- What laws over trees require of the elements of a page.
use Rattle.std.specs.Prelude.{ℕ}
use Rattle.layout_model.specs.Nodes.{Node, IsLinked, IsShallow, IsDistinct}

-- lists of children and parents agree, no path is longer than the definitions look at, and no child is listed twice
pub record AreTrees (at : ℕ → Node) : Type 0 where
  pub linked : IsLinked at
  pub shallow : IsShallow at
  pub distinct : IsDistinct at
