-- The kinds of lines by their words.
use Rattle.std.specs.Prelude.{ℕ, List, [], ◌∷◌, Option, codes}
use Rattle.text_io.specs.Kinds.{named}
use Rattle.trace_text.specs.declared.kinds.LineKind.{LineKind}
use Rattle.trace_text.specs.declared.kinds.LineKind.TheVariants as line

abbrev pub kind_word : LineKind → List ℕ
kind_word line.Tick = codes "tick"
kind_word line.Timer = codes "timer"
kind_word line.Frame = codes "frame"
kind_word line.Task = codes "task"
kind_word line.Event = codes "event"
kind_word line.Resize = codes "resize"
kind_word line.Round = codes "round"
kind_word line.Intersect = codes "intersect"
kind_word line.Take = codes "take"
kind_word line.Say = codes "say"
kind_word line.Read = codes "read"
kind_word line.Throw = codes "throw"
kind_word line.Limit = codes "limit"
kind_word line.Syntax = codes "syntax"

abbrev pub line_kinds : List LineKind
line_kinds =
    line.Tick ∷ line.Timer ∷ line.Frame ∷ line.Task ∷ line.Event ∷ line.Resize ∷ line.Round ∷ line.Intersect ∷ line.Take ∷ line.Say
    ∷ line.Read ∷ line.Throw ∷ line.Limit ∷ line.Syntax ∷ []

abbrev pub kind_of : List ℕ → Option LineKind
kind_of word = named kind_word line_kinds word
