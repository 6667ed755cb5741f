-- The texts of single words. The words are this project's own choice.
use Rattle.std.specs.Prelude.{ℕ, List, ◌∷◌, Option, Some, None, codes}
use Rattle.px_units.specs.declared.BoxKind.{BoxKind}
use Rattle.px_units.specs.declared.BoxKind.TheVariants.{Content, Border, Device}
use Rattle.script_model.specs.Syntax.{Operand, Named, Target, Aim, PlainAim, WindowAim, Dimension, WidthDimension, HeightDimension}

abbrev pub operand_text : Operand → List ℕ
operand_text (Named name) = name
operand_text Target = codes "$target"

-- a window is written as `@` and the name of its document
abbrev pub aim_text : Aim → List ℕ
aim_text (PlainAim operand) = operand_text operand
aim_text (WindowAim document) = 64 ∷ document

-- `-` stands for None
abbrev pub dash_or : {A : Type 0} → (A → List ℕ) → Option A → List ℕ
dash_or text None = codes "-"
dash_or text (Some value) = text value

abbrev pub box_text : BoxKind → List ℕ
box_text Content = codes "content"
box_text Border = codes "border"
box_text Device = codes "device"

abbrev pub dimension_text : Dimension → List ℕ
dimension_text WidthDimension = codes "width"
dimension_text HeightDimension = codes "height"
