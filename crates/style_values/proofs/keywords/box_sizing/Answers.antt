use Rattle.std.proofs.Common.{ap, ◌∙◌}
use Rattle.std.specs.Prelude.{option_map}
use Rattle.style_values.specs.Seen.{seen_box_sizing}
use Rattle.style_values.proofs.Tables.{mapped}
use Rattle.style_values.proofs.keywords.box_sizing.Goals as goal

pub returns : goal.returns
returns c = ap (option_map seen_box_sizing) c.lookup.ensures ∙ mapped seen_box_sizing _ c.args.word.now
