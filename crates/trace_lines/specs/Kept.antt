-- A sink that keeps the lines of a trace as values. This project's own choice.
use Rattle.std.specs.Prelude.{◌≡◌, ◌==◌, false, ℕ, List, ◌++◌}
use Rattle.std.specs.List.{All, list_any}
use Rattle.script_model.specs.TraceLines.{TraceLine}
use Rattle.page_model.specs.Outcome.{bytes_of}
use Rattle.trace_text.specs.Ranges.{IsLine}

-- the lines so far, the bytes behind the last of them, and how many writes failed
pub record Kept : Type 0 where
  pub lines : List TraceLine
  pub rest : List ℕ
  pub faults : ℕ

-- the bytes that the sink holds
abbrev pub text_of : Kept → List ℕ
text_of kept = bytes_of kept.lines ++ kept.rest

-- no line feed is among these bytes
abbrev pub IsUnfed : List ℕ → Type 0
IsUnfed bytes = list_any (λ byte. byte == 10) bytes ≡ false

-- each line can be read back, and behind the last one there is no further line
pub record IsKept (kept : Kept) : Type 0 where
  pub fit : All IsLine kept.lines
  pub unfed : IsUnfed kept.rest
