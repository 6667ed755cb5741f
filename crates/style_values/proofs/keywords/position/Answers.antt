use Rattle.std.proofs.Common.{ap, ◌∙◌}
use Rattle.std.specs.Prelude.{option_map}
use Rattle.style_values.specs.Seen.{seen_position}
use Rattle.style_values.proofs.Tables.{mapped}
use Rattle.style_values.proofs.keywords.position.Goals as goal

pub returns : goal.returns
returns c = ap (option_map seen_position) c.lookup.ensures ∙ mapped seen_position _ c.args.word.now
