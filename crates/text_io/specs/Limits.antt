-- The limits of a run, by the version of its script. They are this project's own choice.
use Rattle.std.specs.Prelude.{◌≡◌, ℕ}
use Rattle.text_io.specs.declared.kinds.Version.{Version}
use Rattle.text_io.specs.declared.kinds.Version.TheVariants.{First, Second}
use Rattle.text_io.specs.declared.kinds.LimitKind.{LimitKind}
use Rattle.text_io.specs.declared.kinds.LimitKind.TheVariants as limits

-- the first number for version 1, the second for version 2
abbrev pub by_version : Version → ℕ → ℕ → ℕ
by_version First first second = first
by_version Second first second = second

-- bytes of a script; bytes of a line; handlers; nested blocks; commands begun; nodes, documents, observers and query lists ever created;
-- the depth of an element; observations, listeners, timers, frame callbacks and posted tasks that exist at one time; bytes of a source
-- with a recorded trace; and pages of a stream
abbrev pub limit_number : Version → LimitKind → ℕ
limit_number version limits.Script = 16777216
limit_number version limits.Line = 4096
limit_number version limits.Handlers = 4096
limit_number version limits.Nesting = 16
limit_number version limits.Commands = by_version version 1000000 2000000
limit_number version limits.Nodes = by_version version 20000 40000
limit_number version limits.Depth = 256
limit_number version limits.Documents = 64
limit_number version limits.ResizeObservers = 4096
limit_number version limits.IntersectionObservers = 4096
limit_number version limits.ResizeObservations = by_version version 50000 100000
limit_number version limits.IntersectionObservations = by_version version 50000 100000
limit_number version limits.Listeners = 4096
limit_number version limits.Timers = 4096
limit_number version limits.FrameCallbacks = 4096
limit_number version limits.Tasks = 4096
limit_number version limits.Queries = 4096
limit_number version limits.Recorded = 67108864
limit_number version limits.Pages = 8

-- a kind of limit that has the same number in both versions
abbrev pub IsCommon : LimitKind → Type 0
IsCommon kind = limit_number First kind ≡ limit_number Second kind

-- the number of a limit that is the same in both versions: those that are met while a text is read, before its version is known, and those
-- on the depth of a tree and on documents
abbrev pub common_limit : LimitKind → ℕ
common_limit kind = limit_number First kind
