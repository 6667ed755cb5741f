-- What the results of the code's readers stand for.
use Rattle.std.specs.Prelude.{ℕ, List, Option, Some, None}
use Rattle.std.specs.Borrow.{Bor}
use Rattle.trace_text.specs.Reading.{Read}

-- a value and the bytes after it
abbrev pub read_of : {A B : Type 0} → (A → B) → Option (A × Bor (List ℕ)) → Read B
read_of seen None = None
read_of seen (Some read) = Some (seen read.0, read.1.now)

abbrev pub same : {A : Type 0} → A → A
same value = value

abbrev pub behind_of : Option (Bor (List ℕ)) → Option (List ℕ)
behind_of None = None
behind_of (Some rest) = Some rest.now
