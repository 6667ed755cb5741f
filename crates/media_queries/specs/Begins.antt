-- Which texts can be continued to a media query list, and the first byte of a text with which it no longer can.
use Rattle.std.specs.Prelude.{◌≡◌, ℕ, ◌+◌, ◌-◌, ◌≤◌, List, ◌++◌, length, take, Ok}
use Rattle.script_model.specs.Queries.{MediaQuery}
use Rattle.script_model.specs.Media.{query_list}

abbrev pub IsList : List ℕ → Type 0
IsList text = (queries : List MediaQuery) × (query_list text ≡ Ok queries)

-- with some bytes after it, or none, this text is a list
abbrev pub BeginsList : List ℕ → Type 0
BeginsList text = (more : List ℕ) × IsList (text ++ more)

-- The text before the column can be continued to a list, and together with the byte at the column it can't. If the column is one past the
-- end of the text, there is no such byte, and the whole text can be continued to a list.
pub record IsFirstBad (text : List ℕ) (column : ℕ) : Type 0 where
  pub counted : 1 ≤ column
  pub within : column ≤ length text + 1
  pub before : BeginsList (take (column - 1) text)
  pub here : column ≤ length text → BeginsList (take column text) → ⊥
