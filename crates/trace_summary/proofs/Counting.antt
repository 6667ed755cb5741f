-- What the counting of lines comes to.
use Rattle.std.proofs.Common.{◌≡◌, refl, ℕ, ◌-◌, ◌^◌, ◌<◌, ◌≤◌, List, [], ◌∷◌, ◌++◌, length, arith, add-zero}
use Rattle.std.specs.Prelude.{bytes_eq, codes}
use Rattle.std.proofs.lemmas.List.Sums.{sum_by-append, count_by-le-length}
use Rattle.script_model.specs.Summary.{count_of, summary_text}
use Rattle.script_model.specs.TraceLines.{TraceLine, TickLine, TimerLine, FrameLine, TaskLine, EventLine, ResizeLine, RoundLine, IntersectLine, TakeLine, SayLine, ReadLine, ThrowLine, LimitLine, SyntaxLine}
use Rattle.script_model.specs.TraceText.{kind_text}
use Rattle.trace_summary.specs.Counts.{summary_of, row_text, rows_text}
use Rattle.trace_summary.specs.Counting.{with_line, HasRoom}

-- no line
pub none_counted : (record { tick = 0; timer = 0; frame = 0; task = 0; event = 0; resize = 0; round = 0; intersect = 0; take = 0; say = 0; read = 0; throw = 0; limit = 0; syntax = 0 }) ≡ summary_of []
unfolding summary_of count_of
none_counted = refl

-- a line behind others
pub one_counted : (done : List TraceLine) (line : TraceLine) → with_line line (summary_of done) ≡ summary_of (done ++ (line ∷ []))
unfolding summary_of count_of
one_counted done (TickLine time) = simp (sum_by-append, add-zero)
one_counted done (TimerLine document key) = simp (sum_by-append, add-zero)
one_counted done (FrameLine document key) = simp (sum_by-append, add-zero)
one_counted done (TaskLine document handler) = simp (sum_by-append, add-zero)
one_counted done (EventLine event) = simp (sum_by-append, add-zero)
one_counted done (ResizeLine observer target rect border device) = simp (sum_by-append, add-zero)
one_counted done (RoundLine document depth) = simp (sum_by-append, add-zero)
one_counted done (IntersectLine found) = simp (sum_by-append, add-zero)
one_counted done (TakeLine observer count) = simp (sum_by-append, add-zero)
one_counted done (SayLine word) = simp (sum_by-append, add-zero)
one_counted done (ReadLine target rect scroll) = simp (sum_by-append, add-zero)
one_counted done (ThrowLine line exception) = simp (sum_by-append, add-zero)
one_counted done (LimitLine limit line number) = simp (sum_by-append, add-zero)
one_counted done (SyntaxLine line column) = simp (sum_by-append, add-zero)

at_most : (kind : List ℕ) (done : List TraceLine) → count_of kind done ≤ length done
unfolding count_of
at_most kind done = count_by-le-length (λ line. bytes_eq (kind_text line) kind) done

-- fewer lines than the type counts
pub room_for_one : (done : List TraceLine) → length done < 2 ^ 64 - 1 → HasRoom (summary_of done)
unfolding summary_of
room_for_one done few = record {
  tick = omega (arith, at_most (codes "tick") done);
  timer = omega (arith, at_most (codes "timer") done);
  frame = omega (arith, at_most (codes "frame") done);
  task = omega (arith, at_most (codes "task") done);
  event = omega (arith, at_most (codes "event") done);
  resize = omega (arith, at_most (codes "resize") done);
  round = omega (arith, at_most (codes "round") done);
  intersect = omega (arith, at_most (codes "intersect") done);
  take = omega (arith, at_most (codes "take") done);
  say = omega (arith, at_most (codes "say") done);
  read = omega (arith, at_most (codes "read") done);
  throw = omega (arith, at_most (codes "throw") done);
  limit = omega (arith, at_most (codes "limit") done);
  syntax = omega (arith, at_most (codes "syntax") done);
}

-- the rows of the counts of lines are the summary of the lines
pub rows_are : (lines : List TraceLine) → rows_text (summary_of lines) ≡ summary_text lines
unfolding rows_text row_text summary_of summary_text
rows_are lines = refl
