use Rattle.std.proofs.Common.{ap, ◌∙◌}
use Rattle.std.specs.Prelude.{option_map}
use Rattle.script_syntax.specs.Heads.{head_of}
use Rattle.style_values.proofs.Tables.{mapped}
use Rattle.script_syntax.proofs.tables.head_of_both.Goals as goal

pub returns : goal.returns
returns c = λ version. ap (option_map (head_of version)) c.lookup.ensures ∙ mapped (head_of version) _ c.args.word.now
