-- A declaration that is read from the words of a property and of its value (CSS Syntax 3, 5.4.6).
use Rattle.std.specs.Prelude.{ℕ, List, Option, Some, None, Result, Ok, Err}
use Rattle.layout_model.specs.Styles.{Declaration, Style, declared}
use Rattle.text_io.specs.declared.kinds.Version.TheVariants.{Second}
use Rattle.script_model.specs.Properties.{ValueReader, property_of}
use Rattle.style_values.specs.declared.StyleFault.{StyleFault}
use Rattle.style_values.specs.declared.StyleFault.TheVariants.{UnknownProperty, BadValue}

-- the declaration that was read from a value, or the fault of a bad value
abbrev pub or_bad_value : Option Declaration → Result Declaration StyleFault
or_bad_value None = Err BadValue
or_bad_value (Some declaration) = Ok declaration

-- what a property's reader gives for a value, or the fault of an unknown property
abbrev pub read_by : Option ValueReader → List ℕ → Result Declaration StyleFault
read_by None value = Err UnknownProperty
read_by (Some read) value = or_bad_value (read value)

-- the declaration that the words of a property and of a value make, or their fault; the properties are those of version 2, which has all
abbrev pub declaration_of : List ℕ → List ℕ → Result Declaration StyleFault
declaration_of property value = read_by (property_of Second property) value

-- the style with the declaration that was read applied; unchanged if none was
abbrev pub set_if_read : Result Declaration StyleFault → Style → Style
set_if_read (Err fault) style = style
set_if_read (Ok declaration) style = declared declaration style

-- whether a declaration was read
abbrev pub IsRead : Result Declaration StyleFault → Type 0
IsRead (Err fault) = ⊥
IsRead (Ok declaration) = Unit {0}
