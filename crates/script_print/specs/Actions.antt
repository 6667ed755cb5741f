-- The line of a command without a block, printed.
use Rattle.std.specs.Prelude.{◌≡◌, ℕ, List, ◌++◌, Result, OnOk}
use Rattle.script_syntax.specs.Seen.{action_of}
use Rattle.script_syntax.specs.declared.commands.Action.{Action}
use Rattle.script_text.specs.Phrases.{action_words}
use Rattle.script_text.specs.ScriptText.{line_text}

-- if there was memory, the command's line was appended to what was there before
unfoldable pub Prints : {A E : Type 0} → Result A E → List ℕ → List ℕ → Action → Type 0
Prints result old new action = OnOk result (new ≡ old ++ line_text (action_words (action_of action)))
