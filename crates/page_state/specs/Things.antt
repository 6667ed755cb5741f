-- The entry for which a condition is evaluated, and the items that can be made.
use Rattle.std.specs.Prelude.{Bool, Option, Some, None}
use Rattle.element_tree.specs.declared.node.NodeId.{NodeId}
use Rattle.page_model.specs.Operands.{Present, NoEntry, ResizeEntry, IntersectionEntry}
use Rattle.block_layout.specs.declared.ItemKind.{ItemKind}
use Rattle.block_layout.specs.declared.ItemKind.TheVariants.{Block, Image, Frame}
use Rattle.page_tree.specs.Items.{IsNatural}

-- the entry for which a command runs; one of an intersection observer comes with whether it is intersecting
abbrev pub present_with : Option NodeId → Option Bool → Present
present_with None meets = NoEntry
present_with (Some node) None = ResizeEntry node.0
present_with (Some node) (Some meets) = IntersectionEntry node.0 meets

-- a block, or an image with a natural size in range; frames are made by a call of their own
abbrev pub IsMade : ItemKind → Type 0
IsMade Block = Unit {0}
IsMade (Image size) = IsNatural size
IsMade Frame = ⊥
