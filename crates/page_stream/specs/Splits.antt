-- What holds for a stream while it is split: its lines so far, and the page that is current after them.
use Rattle.std.specs.Prelude.{◌≡◌, ℕ, ◌+◌, ◌<◌, ◌≤◌, ◌==◌, List, [], ◌++◌, length, map, slice_index, bytes_eq, count_by}
use Rattle.std.specs.List.{AllByRecursion, position_or_len}
use Rattle.trace_judge.specs.Lines.{lines_of}
use Rattle.page_stream.specs.declared.stream.Part.{Part}
use Rattle.page_stream.specs.declared.splitting.Splitting.{Splitting}
use Rattle.page_stream.specs.Pages.{PageLine, page_lines, first_named, page_starts}
use Rattle.page_stream.specs.Parts.{OwnedLine, owned_lines, place_of, parts_behind}

-- the pages, how many lines each has, the index of the current one, and the parts, which are these lines
pub record AreHeld (pages : List (List ℕ)) (lines : List ℕ) (current : ℕ) (parts : List Part) (owned : List OwnedLine) (page : List ℕ) : Type 0 where
  pub parts_are : parts ≡ parts_behind pages [] owned
  pub as_many : length lines ≡ length pages
  pub counted : (k : ℕ) → k < length pages → slice_index lines k ≡ count_by (λ part. part.page == k) parts
  pub here : current ≡ position_or_len (bytes_eq page) pages
  pub known : AllByRecursion (λ it. place_of pages it < length pages) owned

abbrev pub IsSplit : Splitting → List OwnedLine → List ℕ → Type 0
IsSplit split owned page = AreHeld split.pages.items split.lines.items split.current split.parts.items owned page

-- `number` lines of a source were taken, which end at `from`, and the rest is left
pub record SplitTo (source : List ℕ) (split : Splitting) (most number from : ℕ) (rest : List ℕ) : Type 0 where
  pub starts : List PageLine
  pub owned : List OwnedLine
  pub page : List ℕ
  pub held : IsSplit split owned page
  pub names : split.pages.items ≡ map (λ start. start.name) starts
  pub starts_left : page_starts source ≡ starts ++ first_named split.pages.items (page_lines (number + 1) (lines_of rest))
  pub owned_left : owned_lines [] 0 (lines_of source) ≡ owned ++ owned_lines page from (lines_of rest)
  pub place : from + length rest ≡ length source
  pub short : number ≤ from
  pub few_owned : length owned ≤ from
  pub few_pages : length starts ≤ most
