use Rattle.std.proofs.Common.{ap, ◌∙◌}
use Rattle.std.specs.Prelude.{option_map}
use Rattle.script_syntax.specs.Heads.{shape_of}
use Rattle.style_values.proofs.Tables.{mapped}
use Rattle.script_syntax.proofs.tables.test.Goals as goal

pub returns : goal.returns
returns c = ap (option_map shape_of) c.lookup.ensures ∙ mapped shape_of _ c.args.word.now
