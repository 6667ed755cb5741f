use Rattle.std.proofs.Common.{ap, ◌∙◌}
use Rattle.std.specs.Prelude.{option_map}
use Rattle.style_values.specs.Seen.{seen_overflow}
use Rattle.style_values.proofs.Tables.{mapped}
use Rattle.style_values.proofs.keywords.overflow.Goals as goal

pub returns : goal.returns
returns c = ap (option_map seen_overflow) c.lookup.ensures ∙ mapped seen_overflow _ c.args.word.now
