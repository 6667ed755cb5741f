-- What each property of the code's table reads.
use Rattle.layout_model.specs.Styles.{SetDisplay, SetWidth, SetHeight, SetMinWidth, SetMinHeight, SetMaxWidth, SetMaxHeight, SetMargin, SetPadding, SetBorder, SetBoxSizing, SetOverflow, SetPosition, SetTop, SetRight, SetBottom, SetLeft}
use Rattle.word_model.specs.Numbers.{length_of}
use Rattle.script_model.specs.Keywords.{lookup}
use Rattle.script_model.specs.Properties.{ValueReader, sets, displays, box_sizings, overflows, positions, size_of, auto_or_size_of, none_or_size_of, inset_of}
use Rattle.style_values.specs.declared.properties.Property.{Property}
use Rattle.style_values.specs.declared.properties.Property.TheVariants as property
use Rattle.style_values.specs.Seen.{seen_sides}

abbrev pub reader_of : Property → ValueReader
reader_of property.Display = sets SetDisplay (lookup displays)
reader_of property.Width = sets SetWidth auto_or_size_of
reader_of property.Height = sets SetHeight auto_or_size_of
reader_of property.MinWidth = sets SetMinWidth size_of
reader_of property.MinHeight = sets SetMinHeight size_of
reader_of property.MaxWidth = sets SetMaxWidth none_or_size_of
reader_of property.MaxHeight = sets SetMaxHeight none_or_size_of
reader_of (property.Margin sides) = sets (SetMargin (seen_sides sides)) size_of
reader_of (property.Padding sides) = sets (SetPadding (seen_sides sides)) size_of
reader_of (property.Border sides) = sets (SetBorder (seen_sides sides)) length_of
reader_of property.BoxSizing = sets SetBoxSizing (lookup box_sizings)
reader_of property.Overflow = sets SetOverflow (lookup overflows)
reader_of property.Position = sets SetPosition (lookup positions)
reader_of property.Top = sets SetTop inset_of
reader_of property.Right = sets SetRight inset_of
reader_of property.Bottom = sets SetBottom inset_of
reader_of property.Left = sets SetLeft inset_of
