-- The first version of the script language that has the property of a declaration. That only version 2 has positioning is this project's
-- own.
use Rattle.std.specs.Prelude.{Bool, true, false, Option, Some, None}
use Rattle.layout_model.specs.Styles.{Declaration, SetDisplay, SetWidth, SetHeight, SetMinWidth, SetMinHeight, SetMaxWidth, SetMaxHeight, SetMargin, SetPadding, SetBorder, SetBoxSizing, SetOverflow, SetPosition, SetTop, SetRight, SetBottom, SetLeft}
use Rattle.text_io.specs.declared.kinds.Version.{Version}
use Rattle.text_io.specs.declared.kinds.Version.TheVariants.{First, Second}

abbrev pub version_of : Declaration → Version
version_of (SetDisplay hidden) = First
version_of (SetWidth value) = First
version_of (SetHeight value) = First
version_of (SetMinWidth value) = First
version_of (SetMinHeight value) = First
version_of (SetMaxWidth value) = First
version_of (SetMaxHeight value) = First
version_of (SetMargin side value) = First
version_of (SetPadding side value) = First
version_of (SetBorder side units) = First
version_of (SetBoxSizing value) = First
version_of (SetOverflow value) = First
version_of (SetPosition value) = Second
version_of (SetTop value) = Second
version_of (SetRight value) = Second
version_of (SetBottom value) = Second
version_of (SetLeft value) = Second

-- whether a version has something, given the first version that has it; with None, no version has it
abbrev pub reads : Version → Option Version → Bool
reads version None = false
reads First (Some First) = true
reads First (Some Second) = false
reads Second (Some _) = true
