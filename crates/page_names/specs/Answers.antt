-- The result of a lookup, as a step of the definitions.
use Rattle.std.specs.Prelude.{◌≡◌, Result, Ok, Err}
use Rattle.text_io.specs.declared.kinds.ThrowKind.{ThrowKind}
use Rattle.page_model.specs.Steps.{Step, Did, Threw}

-- a value that is found, or the exception
abbrev pub Finds : {A B : Type 0} → (A → B) → Result A ThrowKind → Step B → Type 0
Finds seen (Ok value) step = step ≡ Did (seen value)
Finds seen (Err kind) step = step ≡ Threw kind
