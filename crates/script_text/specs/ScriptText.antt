-- The printed text of a script: each line at its own line number, with empty lines in between, and the words of a line separated by
-- single spaces. The form is this project's own choice.
use Rattle.std.specs.Prelude.{ℕ, ◌-◌, nat_lt, cond, List, [], ◌∷◌, ◌++◌, length, replicate, codes}
use Rattle.std.specs.List.{join_with_byte}
use Rattle.text_io.specs.declared.kinds.LimitKind.TheVariants as limits
use Rattle.text_io.specs.Limits.{common_limit}
use Rattle.text_io.specs.Kinds.{version_word}
use Rattle.script_model.specs.Syntax.{Script}
use Rattle.script_text.specs.NumberedLines.{NumberedLine, items_lines}

unfoldable pub line_text : List (List ℕ) → List ℕ
line_text words = join_with_byte 32 words

-- the lines after the end of the line with this number: before each line there are as many line feeds as lead to its number
unfoldable pub lines_text : ℕ → List NumberedLine → List ℕ
unfolding line_text
lines_text number [] = []
lines_text number (l ∷ ls) = replicate (l.number - number) 10 ++ (line_text l.words ++ lines_text l.number ls)

-- the whole text, without a line feed after the last line
unfoldable pub script_text : Script → List ℕ
unfolding lines_text items_lines
script_text script = codes "script " ++ version_word script.version ++ lines_text 1 (items_lines script.items)

-- the last line ends with a line feed too, unless the text would then be longer than a script may be
unfoldable pub printed : Script → List ℕ
unfolding script_text
printed script =
    cond (nat_lt (length (script_text script)) (common_limit limits.Script)) (script_text script ++ (10 ∷ [])) (script_text script)
