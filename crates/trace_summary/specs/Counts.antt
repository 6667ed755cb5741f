-- How many lines of each kind a trace has, and the text that reports it: a line for each kind. This form is this project's own choice.
use Rattle.std.specs.Prelude.{◌≡◌, ℕ, List, [], ◌∷◌, ◌++◌, codes, flat_map}
use Rattle.std.specs.List.{All}
use Rattle.word_model.specs.Numbers.{decimal}
use Rattle.script_model.specs.Summary.{count_of}
use Rattle.script_model.specs.TraceLines.{TraceLine}
use Rattle.page_model.specs.Outcome.{bytes_of}
use Rattle.trace_text.specs.Ranges.{IsLine}
use Rattle.trace_summary.specs.declared.summary.Summary.{Summary}

-- a text is that of these trace lines
pub record IsTrace (text : List ℕ) (lines : List TraceLine) : Type 0 where
  pub fit : All IsLine lines
  pub makes : bytes_of lines ≡ text

unfoldable pub summary_of : List TraceLine → Summary
unfolding count_of
summary_of lines = record {
  tick = count_of (codes "tick") lines;
  timer = count_of (codes "timer") lines;
  frame = count_of (codes "frame") lines;
  task = count_of (codes "task") lines;
  event = count_of (codes "event") lines;
  resize = count_of (codes "resize") lines;
  round = count_of (codes "round") lines;
  intersect = count_of (codes "intersect") lines;
  take = count_of (codes "take") lines;
  say = count_of (codes "say") lines;
  read = count_of (codes "read") lines;
  throw = count_of (codes "throw") lines;
  limit = count_of (codes "limit") lines;
  syntax = count_of (codes "syntax") lines;
}

unfoldable pub row_text : List ℕ → ℕ → List ℕ
unfolding decimal
row_text kind count = kind ++ (32 ∷ decimal count) ++ (10 ∷ [])

-- the kinds in their order, each with its count
abbrev pub rows_of : Summary → List (List ℕ × ℕ)
rows_of s =
    (codes "tick", s.tick)
    ∷ (codes "timer", s.timer)
    ∷ (codes "frame", s.frame)
    ∷ (codes "task", s.task)
    ∷ (codes "event", s.event)
    ∷ (codes "resize", s.resize)
    ∷ (codes "round", s.round)
    ∷ (codes "intersect", s.intersect)
    ∷ (codes "take", s.take)
    ∷ (codes "say", s.say)
    ∷ (codes "read", s.read)
    ∷ (codes "throw", s.throw)
    ∷ (codes "limit", s.limit)
    ∷ (codes "syntax", s.syntax)
    ∷ []

-- a line for each
abbrev pub text_of : List (List ℕ × ℕ) → List ℕ
text_of rows = flat_map (λ row. row_text row.0 row.1) rows

unfoldable pub rows_text : Summary → List ℕ
unfolding row_text
rows_text s = text_of (rows_of s)
