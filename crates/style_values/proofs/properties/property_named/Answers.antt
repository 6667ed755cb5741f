use Rattle.std.proofs.Common.{◌∙◌, sym}
use Rattle.script_model.specs.Keywords.{lookup}
use Rattle.script_model.specs.Properties.{properties, positioned_properties}
use Rattle.script_model.proofs.Named.{of_second}
use Rattle.style_values.specs.Properties.{reader_of}
use Rattle.style_values.proofs.Named.{either_some, either_none}
use Rattle.style_values.proofs.properties.property_named.Goals as goal

pub returns-in-Some : goal.returns-in-Some
returns-in-Some c =
    either_some reader_of c.in-Some.property (lookup positioned_properties c.args.name.now) (lookup properties c.args.name.now) c.in-Some.ensures
    ∙ sym (of_second c.args.name.now)

pub returns-in-None : goal.returns-in-None
returns-in-None c =
    either_none reader_of c.unpositioned.result (lookup positioned_properties c.args.name.now) (lookup properties c.args.name.now) c.in-None.ensures c.unpositioned.ensures
    ∙ sym (of_second c.args.name.now)
