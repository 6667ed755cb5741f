-- A script followed by a recorded trace. The line between them is the word `trace`; it may have a carriage return before its line feed,
-- and it may end the source without a line feed. This form is this project's own choice.
use Rattle.std.specs.Prelude.{ℕ, ◌+◌, Bool, not, List, [], ◌∷◌, ◌++◌, take, drop, codes, bytes_eq}
use Rattle.std.specs.List.{concat, list_any, prefix_len}
use Rattle.trace_judge.specs.Lines.{lines_of}

abbrev pub dividers : List (List ℕ)
dividers = codes "trace" ∷ (codes "trace" ++ (10 ∷ [])) ∷ (codes "trace" ++ (13 ∷ 10 ∷ [])) ∷ []

abbrev pub is_divider : List ℕ → Bool
is_divider line = list_any (bytes_eq line) dividers

-- how many lines the script has: those before the first line `trace`, or all if there is none
abbrev pub script_lines : List (List ℕ) → ℕ
script_lines lines = prefix_len (λ line. not (is_divider line)) lines

unfoldable pub script_of : List ℕ → List ℕ
unfolding lines_of
script_of source = concat (take (script_lines (lines_of source)) (lines_of source))

-- the recorded trace: the lines after that one
unfoldable pub trace_of : List ℕ → List ℕ
unfolding lines_of
trace_of source = concat (drop (script_lines (lines_of source) + 1) (lines_of source))
