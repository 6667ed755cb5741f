-- Which boxes clip their content, and which of those are scroll containers (CSS Overflow 3, 3.1 and 3.3).
use Rattle.std.specs.Prelude.{Bool, true, false, not, ◌&&◌, is_some}
use Rattle.layout_model.specs.Styles.{Overflow, OverflowVisible, OverflowHidden, OverflowClip, OverflowScroll, OverflowAuto}
use Rattle.layout_model.specs.Items.{Kind, BlockKind, ImageKind, FrameKind}
use Rattle.layout_model.specs.Nodes.{Node}

abbrev pub is_visible : Overflow → Bool
is_visible OverflowVisible = true
is_visible OverflowHidden = false
is_visible OverflowClip = false
is_visible OverflowScroll = false
is_visible OverflowAuto = false

abbrev pub is_clip : Overflow → Bool
is_clip OverflowVisible = false
is_clip OverflowHidden = false
is_clip OverflowClip = true
is_clip OverflowScroll = false
is_clip OverflowAuto = false

abbrev pub is_block : Kind → Bool
is_block BlockKind = true
is_block (ImageKind width height) = false
is_block FrameKind = false

-- whether a box clips its content to its padding box. The `overflow` of a root element, which is one that has a box and no parent, is
-- propagated to the viewport
abbrev pub clips : Node → Bool
clips node = is_block (node.item.kind) && not (is_visible (node.item.style.overflow)) && is_some (node.parent)

abbrev pub is_scroll_container : Node → Bool
is_scroll_container node = clips node && not (is_clip (node.item.style.overflow))
