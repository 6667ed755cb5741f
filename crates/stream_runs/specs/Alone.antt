-- What holds for a page among others: which page has an index in a stream, and that the lines of the pages can be told apart.
use Rattle.std.specs.Prelude.{◌≡◌, ◌≢◌, ℕ, List, [], ◌∷◌, ◌++◌, Option, Some, None, flat_map, slice_get}
use Rattle.std.specs.List.{All}
use Rattle.script_model.specs.TraceLines.{TraceLine}
use Rattle.script_model.specs.TraceText.{line_text}
use Rattle.page_model.specs.Outcome.{outcome, trace}
use Rattle.page_stream.specs.declared.stream.Part.{Part}
use Rattle.page_stream.specs.Pages.{pages_of}
use Rattle.page_stream.specs.Parts.{parts_of, script_of}
use Rattle.stream_runs.specs.PageRuns.{PageScript, PageRun, refused_lines, turn_at}
use Rattle.stream_runs.specs.StreamRuns.{parts_run, scripts_of, stream_opened, text_of_page}

-- the page with this name has this index among the pages of a stream
abbrev pub IsPage : List ℕ → ℕ → List ℕ → Type 0
IsPage source place name = slice_get (pages_of source) place ≡ Some name

-- a text has exactly one line feed, at its end
abbrev pub EndsOnce : List ℕ → Type 0
EndsOnce text = (front : List ℕ) × (text ≡ front ++ (10 ∷ [])) × All (λ byte. byte ≢ 10) front

-- a trace line whose text is like that, as is each line that `trace_text` writes and reads (`line_ends_once`)
abbrev pub IsOneLine : TraceLine → Type 0
IsOneLine line = EndsOnce (line_text line)

-- the outcome of each page's script has only such lines
abbrev pub SayLines : List ℕ → Type 0
SayLines source = (place : ℕ) (name : List ℕ) → IsPage source place name → All IsOneLine (outcome (script_of place source)).lines

-- what is written before the first line of a stream: the line of each script that is refused, in the order of the pages
abbrev pub opening_lines : List PageScript → List TraceLine
opening_lines scripts = flat_map (λ script. refused_lines script.read) scripts

-- what is written at a line of the stream, by the page that the line belongs to
abbrev pub turn_lines : Option PageRun → Part → List TraceLine
turn_lines None part = []
turn_lines (Some page) part = (turn_at part.line page.standing).lines

-- what the pages write at these lines, in the order of the stream
unfoldable pub lines_from : List PageRun → List Part → List TraceLine
unfolding parts_run turn_at
lines_from pages [] = []
lines_from pages (part ∷ parts) = turn_lines (slice_get pages part.page) part ++ lines_from (parts_run pages (part ∷ [])).pages parts

-- everything that is written for a stream
unfoldable pub stream_lines : List ℕ → List TraceLine
unfolding lines_from parts_of scripts_of stream_opened
stream_lines source = opening_lines (scripts_of source) ++ lines_from (stream_opened (scripts_of source)).pages (parts_of source)

-- in a text the lines of each page, without its name and the space, are the trace of the page's script run alone
abbrev pub TellsAlone : List ℕ → List ℕ → Type 0
TellsAlone source text = (place : ℕ) (name : List ℕ) → IsPage source place name → text_of_page name text ≡ trace (script_of place source)
