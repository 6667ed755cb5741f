-- The number of the last of some lines.
use Rattle.std.specs.Prelude.{ℕ, List, [], ◌∷◌}
use Rattle.script_text.specs.NumberedLines.{NumberedLine}

-- the given number if there are no lines
unfoldable pub last_number : ℕ → List NumberedLine → ℕ
last_number number [] = number
last_number number (l ∷ ls) = last_number l.number ls
