-- The margin, border and padding around the content of a box, as the code has them.
use Rattle.std.specs.Prelude.{ℕ}
use Rattle.layout_model.specs.Styles.{Sides}
use Rattle.layout_model.specs.Boxes.{Inputs}
use Rattle.block_layout.specs.declared.sizes.Edges.{Edges}
use Rattle.block_layout.specs.declared.sizes.Extent.{Extent}
use Rattle.block_layout.specs.declared.sizes.Around.{Around}
use Rattle.block_layout.specs.declared.boxes.Given.{Given}
use Rattle.block_layout.specs.Ranges.{IsSides}

abbrev pub seen_edges : Edges → Sides ℕ
seen_edges edges = record { top = edges.top; right = edges.right; bottom = edges.bottom; left = edges.left }

abbrev pub as_edges : Sides ℕ → Edges
as_edges sides = record { top = sides.top; right = sides.right; bottom = sides.bottom; left = sides.left }

pub record IsAround (around : Around) : Type 0 where
  pub margin : IsSides (seen_edges around.margin)
  pub border : IsSides (seen_edges around.border)
  pub padding : IsSides (seen_edges around.padding)

abbrev pub seen_given : Given → Inputs
seen_given given = record { width = given.width; height = given.height; flow = given.flow }

abbrev pub seen_extent : Extent → ℕ × ℕ
seen_extent extent = (extent.across, extent.down)
