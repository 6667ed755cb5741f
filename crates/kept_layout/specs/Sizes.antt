-- The size of a held box. Device pixels are counted from the content box, so its size is taken for them.
use Rattle.std.specs.Prelude.{ℕ, Option, Some, None}
use Rattle.px_units.specs.declared.BoxKind.{BoxKind}
use Rattle.px_units.specs.declared.BoxKind.TheVariants.{Content, Border, Device}
use Rattle.layout_model.specs.Boxes.{Box, content_size, border_size}

abbrev pub size_by : BoxKind → Box → ℕ × ℕ
size_by Content own = content_size own
size_by Border own = border_size own
size_by Device own = content_size own

abbrev pub size_held : BoxKind → Option Box → ℕ × ℕ
size_held kind None = (0, 0)
size_held kind (Some own) = size_by kind own
