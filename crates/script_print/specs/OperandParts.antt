-- What the operands of a line stand for: the parts of lines in the definition.
use Rattle.std.specs.Prelude.{option_map, unsigned_abs}
use Rattle.text_io.specs.declared.kinds.Version.TheVariants.{Second}
use Rattle.style_values.specs.Seen.{seen_axis, seen_declaration}
use Rattle.script_model.specs.Forms.{NameForm, NodeForm, AimForm, HandlerForm, RootForm, LengthForm, SignedForm, PercentForm, WholeForm, EventForm, BoxForm, DimensionForm, DeclarationForm}
use Rattle.script_syntax.specs.Seen.{operand_of, aim_of}
use Rattle.script_text.specs.Parts.{Part, PartOf}
use Rattle.script_print.specs.declared.operands.Entry.{Entry}
use Rattle.script_print.specs.declared.operands.Entry.TheVariants as entry

-- lengths and percentages without a sign by their absolute values; a box and a declaration with the words of the second version,
-- which has them all
abbrev pub part_of : Entry → Part
part_of (entry.Word name) = PartOf NameForm name
part_of (entry.Node operand) = PartOf NodeForm (operand_of operand)
part_of (entry.Aimed aim) = PartOf AimForm (aim_of aim)
part_of (entry.Handler name) = PartOf HandlerForm name
part_of (entry.Root operand) = PartOf RootForm (option_map operand_of operand)
part_of (entry.Length units) = PartOf LengthForm (unsigned_abs units)
part_of (entry.Signed units) = PartOf SignedForm units
part_of (entry.Percentage percent) = PartOf PercentForm (unsigned_abs percent.0)
part_of (entry.Whole number) = PartOf WholeForm number
part_of (entry.Event event) = PartOf EventForm event
part_of (entry.Observed box) = PartOf (BoxForm Second) box
part_of (entry.Dimension axis) = PartOf DimensionForm (seen_axis axis)
part_of (entry.Declared declaration) = PartOf (DeclarationForm Second) (seen_declaration declaration)
