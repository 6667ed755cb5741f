-- A text with a page's name before each of its lines. This project's own choice.
use Rattle.std.specs.Prelude.{ℕ, List, ◌∷◌, ◌++◌, flat_map}
use Rattle.trace_judge.specs.Lines.{lines_of}

-- the name and a space before each line
abbrev pub named_lines : List ℕ → List ℕ → List ℕ
named_lines name text = flat_map (λ line. name ++ (32 ∷ line)) (lines_of text)
