-- What a script is: the reading of some text. `script_text` says which scripts these are, in terms of their version and items only.
use Rattle.std.specs.Prelude.{◌≡◌, ℕ, List, Ok}
use Rattle.script_model.specs.Syntax.{Script}
use Rattle.script_model.specs.Reading.{reading}

pub record IsRead (script : Script) : Type 0 where
  pub text : List ℕ
  pub reads : reading text ≡ Ok script
