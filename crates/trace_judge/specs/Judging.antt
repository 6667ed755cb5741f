-- The judgement of a recorded trace against the expected one. Equal traces are reported with the number of their lines. Others differ at
-- the first line, counted from 1, at which their lines differ or one of them has ended. There the recorded trace has an extra line, or
-- none, or one that isn't a trace line, or one with other bytes. This form is this project's own choice.
use Rattle.std.specs.Prelude.{ℕ, ◌+◌, cond, nat_eq, List, [], ◌∷◌, drop, bytes_eq}
use Rattle.std.specs.List.{common_prefix_len}
use Rattle.trace_judge.specs.declared.judgement.How.{How}
use Rattle.trace_judge.specs.declared.judgement.How.TheVariants.{Extra, Missing, NotALine, Text}
use Rattle.trace_judge.specs.declared.judgement.Judgement.{Judgement}
use Rattle.trace_judge.specs.declared.judgement.Judgement.TheVariants.{Equal, Differs}
use Rattle.trace_judge.specs.Lines.{lines_of, is_trace_line}

-- the column, from 1, of the first byte at which two lines differ
abbrev pub column_of : List ℕ → List ℕ → ℕ
column_of expected recorded = 1 + common_prefix_len nat_eq expected recorded

-- how two lines differ
unfoldable pub how_lines_differ : List ℕ → List ℕ → How
unfolding is_trace_line
how_lines_differ expected recorded = cond (is_trace_line recorded) (Text (column_of expected recorded)) NotALine

-- the judgement after a number of equal lines, from the lines that are left of both traces
abbrev pub from_there : ℕ → List (List ℕ) → List (List ℕ) → Judgement
from_there equal [] [] = Equal equal
from_there equal [] (recorded ∷ others) = Differs (equal + 1) Extra
from_there equal (expected ∷ others) [] = Differs (equal + 1) Missing
from_there equal (expected ∷ others) (recorded ∷ more) = Differs (equal + 1) (how_lines_differ expected recorded)

-- how many lines are equal before the first place where they differ or one trace has ended
abbrev pub equal_lines : List (List ℕ) → List (List ℕ) → ℕ
equal_lines expected recorded = common_prefix_len bytes_eq expected recorded

unfoldable pub judged_lines : List (List ℕ) → List (List ℕ) → Judgement
unfolding how_lines_differ
judged_lines expected recorded =
    from_there (equal_lines expected recorded) (drop (equal_lines expected recorded) expected) (drop (equal_lines expected recorded) recorded)

unfoldable pub judgement : List ℕ → List ℕ → Judgement
unfolding judged_lines lines_of
judgement expected recorded = judged_lines (lines_of expected) (lines_of recorded)
