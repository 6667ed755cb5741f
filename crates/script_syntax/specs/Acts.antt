-- A command read from the words after its first one.
use Rattle.std.specs.Prelude.{Result}
use Rattle.text_io.specs.declared.kinds.Version.{Version}
use Rattle.script_model.specs.Lexing.{Row}
use Rattle.script_model.specs.Forms.{made}
use Rattle.script_syntax.specs.declared.commands.Action.{Action}
use Rattle.script_syntax.specs.declared.faults.LineFault.{LineFault}
use Rattle.script_syntax.specs.declared.heads.Verb.{Verb}
use Rattle.script_syntax.specs.Heads.{forms_of, makes_of}
use Rattle.script_syntax.specs.Lines.{Gives}
use Rattle.script_syntax.specs.Seen.{action_of}

-- the result is what the definition makes of these words after this first one, in a script of this version
unfoldable pub Acts : Result Action LineFault → Version → Verb → Row → Type 0
Acts result version verb row = Gives action_of result (made (forms_of version verb) (makes_of version verb) row)

-- the same in both versions, for a command that both read alike
unfoldable pub ActsAlike : Result Action LineFault → Verb → Row → Type 0
ActsAlike result verb row = (version : Version) → Acts result version verb row
