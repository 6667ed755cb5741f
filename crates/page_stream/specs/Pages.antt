-- The pages of a stream, in the order of their first page line. This form is this project's own choice.
use Rattle.std.specs.Prelude.{ℕ, ◌+◌, Bool, false, cond, List, [], ◌∷◌, ◌++◌, map, slice_get, Option, Some, None, option_map, is_some, bytes_eq}
use Rattle.std.specs.List.{list_any}
use Rattle.trace_judge.specs.Lines.{lines_of}
use Rattle.page_stream.specs.PageLines.{page_named}

-- a page line: the page that it names, and its number among the lines of the stream
pub record PageLine : Type 0 where
  pub name : List ℕ
  pub line : ℕ

abbrev pub page_line_before : Option (List ℕ) → ℕ → List PageLine → List PageLine
page_line_before None line others = others
page_line_before (Some name) line others = record { name = name; line = line } ∷ others

-- the page lines among these lines, the first of which has this number
unfoldable pub page_lines : ℕ → List (List ℕ) → List PageLine
unfolding page_named
page_lines number [] = []
page_lines number (line ∷ lines) = page_line_before (page_named line) number (page_lines (number + 1) lines)

-- the page lines that name a page for the first time, given that these pages were named before
unfoldable pub first_named : List (List ℕ) → List PageLine → List PageLine
first_named before [] = []
first_named before (it ∷ others) =
    cond (list_any (bytes_eq it.name) before) (first_named before others) (it ∷ first_named (before ++ (it.name ∷ [])) others)

-- the first page line of each page
unfoldable pub page_starts : List ℕ → List PageLine
unfolding page_lines first_named lines_of
page_starts source = first_named [] (page_lines 1 (lines_of source))

unfoldable pub pages_of : List ℕ → List (List ℕ)
unfolding page_starts
pages_of source = map (λ start. start.name) (page_starts source)

abbrev pub begins_with_page : List (List ℕ) → Bool
begins_with_page [] = false
begins_with_page (line ∷ lines) = is_some (page_named line)

-- whether a source is a stream: its first line is a page line
unfoldable pub is_stream : List ℕ → Bool
unfolding page_named lines_of
is_stream source = begins_with_page (lines_of source)

-- the line number of the first page line of the page that follows the first `most` pages, if there is one
unfoldable pub page_line_past : ℕ → List ℕ → Option ℕ
unfolding page_starts
page_line_past most source = option_map (λ start. start.line) (slice_get (page_starts source) most)
