-- A command that both versions read alike, in one of them.
use Rattle.std.proofs.Common.{Result}
use Rattle.text_io.specs.declared.kinds.Version.{Version}
use Rattle.script_model.specs.Lexing.{Row}
use Rattle.script_syntax.specs.Acts.{Acts, ActsAlike}
use Rattle.script_syntax.specs.declared.commands.Action.{Action}
use Rattle.script_syntax.specs.declared.faults.LineFault.{LineFault}
use Rattle.script_syntax.specs.declared.heads.Verb.{Verb}

pub in_version : (result : Result Action LineFault) (version : Version) (verb : Verb) (row : Row) → ActsAlike result verb row → Acts result version verb row
unfolding ActsAlike
in_version result version verb row alike = alike version
