use Rattle.std.proofs.Common.{ap, ◌∙◌}
use Rattle.std.specs.Prelude.{option_map}
use Rattle.style_values.specs.Properties.{reader_of}
use Rattle.style_values.proofs.Tables.{mapped}
use Rattle.style_values.proofs.properties.positioned.Goals as goal

pub returns : goal.returns
returns c = ap (option_map reader_of) c.lookup.ensures ∙ mapped reader_of _ c.args.name.now
