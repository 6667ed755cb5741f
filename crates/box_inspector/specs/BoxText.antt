-- How a box is written: in CSS pixels, as fields separated by spaces, on a line of its own. This form is this project's own
-- choice.
use Rattle.std.specs.Prelude.{ℕ, List, [], ◌∷◌, ◌++◌, flat_map, Option, Some, None, codes}
use Rattle.std.specs.List.{join_with_byte}
use Rattle.word_model.specs.Numbers.{decimal}
use Rattle.px_units.specs.declared.Rect.{Rect}
use Rattle.script_model.specs.TraceText.{rect_fields}
use Rattle.box_inspector.specs.declared.lines.BoxLine.{BoxLine}

-- left, top, width and height of the visible part, or `hidden` if there is none
abbrev pub seen_fields : Option Rect → List (List ℕ)
seen_fields None = codes "hidden" ∷ []
seen_fields (Some part) = codes "seen" ∷ rect_fields part

abbrev pub box_fields : BoxLine → List (List ℕ)
box_fields line = (line.name ∷ decimal (line.depth) ∷ rect_fields (line.place)) ++ seen_fields (line.seen)

unfoldable pub box_text : BoxLine → List ℕ
unfolding decimal rect_fields
box_text line = join_with_byte 32 (codes "box" ∷ box_fields line) ++ (10 ∷ [])

unfoldable pub boxes_text : List BoxLine → List ℕ
unfolding box_text
boxes_text lines = flat_map box_text lines
