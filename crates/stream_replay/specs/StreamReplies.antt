-- The reply to a stream of pages: the text that is written, and the status after that. All of this is this project's own choice.
use Rattle.std.specs.Prelude.{◌≡◌, ℕ, ◌≤◌, true, cond, nat_lt, List, length, Option, Some, None}
use Rattle.text_io.specs.declared.kinds.LimitKind.TheVariants as limits
use Rattle.text_io.specs.Limits.{common_limit}
use Rattle.script_model.specs.Reading.{SyntaxAt, LimitAt, last_line}
use Rattle.script_model.specs.TraceText.{line_text}
use Rattle.page_stream.specs.Pages.{is_stream, page_line_past}
use Rattle.stream_runs.specs.Alone.{TellsAlone}
use Rattle.stream_runs.specs.StreamRuns.{StreamRun, stream_run}
use Rattle.run_replies.specs.Replies.{Reply, refused_with}
use Rattle.run_replies.specs.Statuses.{is_whole}
use Rattle.run_replies.specs.declared.status.Status.{Status}
use Rattle.stream_replay.specs.StreamStatuses.{stream_status}

abbrev pub run_reply : StreamRun → Reply
run_reply run = record { text = run.text; status = stream_status run.pages }

-- the reply to a stream, given the page line of the first page above the limit, if there is one
abbrev pub few_pages_reply : Option ℕ → List ℕ → Reply
few_pages_reply None source = run_reply (stream_run source)
few_pages_reply (Some line) source = refused_with (LimitAt limits.Pages line)

-- what several pages in one stream write, and how they end; or the one line that refuses the stream, without a name
unfoldable pub pages_reply : List ℕ → Reply
unfolding is_stream page_line_past stream_run line_text last_line
pages_reply source =
    cond (nat_lt (common_limit limits.Script) (length source))
    (refused_with (LimitAt limits.Script (last_line (common_limit limits.Script) source)))
    (cond (is_stream source) (few_pages_reply (page_line_past (common_limit limits.Pages) source) source) (refused_with (SyntaxAt 1 1)))

-- a stream that isn't refused: its length is within the limit, its first line is a page line, and the number of its pages is
-- within the limit
abbrev pub IsAccepted : List ℕ → Type 0
IsAccepted source =
    (length source ≤ common_limit limits.Script) × (is_stream source ≡ true) × (page_line_past (common_limit limits.Pages) source ≡ None)

-- if the reply to a stream was written whole, the lines of each page in it are the trace of that page's script by itself
abbrev pub IsolatesPages : Status → List ℕ → Type 0
IsolatesPages status source = is_whole status ≡ true → IsAccepted source → TellsAlone source (pages_reply source).text
