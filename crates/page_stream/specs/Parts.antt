-- Which page each line of a stream belongs to: a page line makes its page the current one, and every other line, with its line feed,
-- belongs to the script of the current page. This form is this project's own choice.
use Rattle.std.specs.Prelude.{ℕ, ◌+◌, ◌==◌, List, [], ◌∷◌, ◌++◌, length, map, filter, slice_range, Option, Some, None, unwrap_or, bytes_eq, count_by}
use Rattle.std.specs.List.{concat, position_or_len}
use Rattle.trace_judge.specs.Lines.{lines_of}
use Rattle.page_stream.specs.declared.stream.Part.{Part}
use Rattle.page_stream.specs.PageLines.{page_named}
use Rattle.page_stream.specs.Pages.{pages_of}

-- a line that isn't a page line: the page that is current at it, and where in the source it begins and ends
pub record OwnedLine : Type 0 where
  pub page : List ℕ
  pub from : ℕ
  pub to : ℕ

abbrev pub owned_before : Option (List ℕ) → OwnedLine → List OwnedLine → List OwnedLine
owned_before None it others = it ∷ others
owned_before (Some name) it others = others

-- the lines among these that aren't page lines; `current` is the current page at the first of the lines, which begins at `from`
unfoldable pub owned_lines : List ℕ → ℕ → List (List ℕ) → List OwnedLine
unfolding page_named
owned_lines current from [] = []
owned_lines current from (line ∷ lines) =
    owned_before (page_named line) (record { page = current; from = from; to = from + length line })
    (owned_lines (unwrap_or (page_named line) current) (from + length line) lines)

-- a line of the page with this index, with its number in that page's script: one more than the number of the page's lines before it
abbrev pub part_at : ℕ → List Part → OwnedLine → Part
part_at place before it = record {
  line = count_by (λ part. part.page == place) before + 1;
  page = place;
  from = it.from;
  to = it.to;
}

abbrev pub place_of : List (List ℕ) → OwnedLine → ℕ
place_of pages it = position_or_len (bytes_eq it.page) pages

unfoldable pub parts_behind : List (List ℕ) → List Part → List OwnedLine → List Part
parts_behind pages before [] = []
parts_behind pages before (it ∷ others) =
    part_at (place_of pages it) before it ∷ parts_behind pages (before ++ (part_at (place_of pages it) before it ∷ [])) others

-- the lines that aren't page lines, each with its page and its number there; no page is current before the first page line
unfoldable pub parts_of : List ℕ → List Part
unfolding pages_of owned_lines parts_behind lines_of
parts_of source = parts_behind (pages_of source) [] (owned_lines [] 0 (lines_of source))

-- the script of a page: its lines one after another
unfoldable pub script_of : ℕ → List ℕ → List ℕ
unfolding parts_of
script_of page source =
    concat (map (λ part. slice_range source part.from part.to) (filter (λ part. part.page == page) (parts_of source)))
