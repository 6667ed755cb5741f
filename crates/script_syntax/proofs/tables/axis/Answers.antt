use Rattle.std.proofs.Common.{ap, ◌∙◌}
use Rattle.std.specs.Prelude.{option_map}
use Rattle.style_values.specs.Seen.{seen_axis}
use Rattle.style_values.proofs.Tables.{mapped}
use Rattle.script_syntax.proofs.tables.axis.Goals as goal

pub returns : goal.returns
returns c = ap (option_map seen_axis) c.lookup.ensures ∙ mapped seen_axis _ c.args.word.now
