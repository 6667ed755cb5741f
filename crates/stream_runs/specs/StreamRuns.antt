-- Several pages of one stream side by side. First the one line of each page whose script is refused is written. Then the commands outside
-- handlers and blocks are run in the order of their first lines in the stream, each in the world of its own page. Each line that is
-- written has the page's name and a space before it. This form is this project's own choice.
use Rattle.std.specs.Prelude.{ℕ, ◌+◌, nat_eq, List, [], ◌∷◌, ◌++◌, length, map, filter, flat_map, fold, drop, slice_get, slice_set, Option, Some, None}
use Rattle.std.specs.List.{concat, starts_with}
use Rattle.script_model.specs.Reading.{reading}
use Rattle.script_model.specs.TraceLines.{TraceLine}
use Rattle.script_model.specs.TraceText.{line_text}
use Rattle.trace_judge.specs.Lines.{lines_of}
use Rattle.page_stream.specs.declared.stream.Part.{Part}
use Rattle.page_stream.specs.Pages.{pages_of}
use Rattle.page_stream.specs.Parts.{parts_of, script_of}
use Rattle.stream_runs.specs.PageRuns.{PageScript, PageRun, opened, refused_lines, Turn, turn_at}

-- these pages with their scripts; the first of them has this index
unfoldable pub scripts_from : ℕ → List (List ℕ) → List ℕ → List PageScript
unfolding reading script_of
scripts_from place [] source = []
scripts_from place (name ∷ names) source =
    record { name = name; read = reading (script_of place source) } ∷ scripts_from (place + 1) names source

unfoldable pub scripts_of : List ℕ → List PageScript
unfolding scripts_from pages_of
scripts_of source = scripts_from 0 (pages_of source) source

-- lines of a page, each with its name and a space before it
unfoldable pub named_text : List ℕ → List TraceLine → List ℕ
unfolding line_text
named_text name lines = flat_map (λ line. name ++ (32 ∷ line_text line)) lines

-- what has been written for a stream, and its pages afterwards
pub record StreamRun : Type 0 where
  pub text : List ℕ
  pub pages : List PageRun

unfoldable pub refused_text : PageScript → List ℕ
unfolding named_text
refused_text script = named_text script.name (refused_lines script.read)

unfoldable pub stream_opened : List PageScript → StreamRun
unfolding refused_text
stream_opened scripts = record { text = flat_map refused_text scripts; pages = map opened scripts }

abbrev pub with_turn : ℕ → List ℕ → StreamRun → Turn → StreamRun
with_turn place name run turn = record {
  text = run.text ++ named_text name turn.lines;
  pages = slice_set run.pages place (record { name = name; standing = turn.standing });
}

abbrev pub turned : Option PageRun → Part → StreamRun → StreamRun
turned None part run = run
turned (Some page) part run = with_turn part.page page.name run (turn_at part.line page.standing)

-- a line of the stream: the page that it belongs to takes its turn, and the others stay as they are
unfoldable pub stream_step : StreamRun → Part → StreamRun
unfolding turn_at named_text
stream_step run part = turned (slice_get run.pages part.page) part run

-- runs these lines, from the states that the pages have before them
unfoldable pub parts_run : List PageRun → List Part → StreamRun
unfolding stream_step
parts_run pages parts = fold stream_step (record { text = []; pages = pages }) parts

unfoldable pub stream_run : List ℕ → StreamRun
unfolding stream_step stream_opened scripts_of parts_of
stream_run source = fold stream_step (stream_opened (scripts_of source)) (parts_of source)

-- the lines of a stream's text that begin with this page's name, without the name and the space
unfoldable pub text_of_page : List ℕ → List ℕ → List ℕ
unfolding lines_of
text_of_page name text =
    concat (map (λ line. drop (length name + 1) line) (filter (λ line. starts_with nat_eq line (name ++ (32 ∷ []))) (lines_of text)))
