use Rattle.stream_replay.proofs.SideBySide.{Opening}
use Rattle.stream_replay.proofs.side_by_side.open_pages.Given as goal

-- so many pages were opened
abbrev pub invariant-loop-place : goal.invariant-loop-place
invariant-loop-place g l = Opening l.stream l.place l.pages.items (g.K.Sink.taken l.fn.sink) (g.K.Sink.taken l.sink) (g.K.Sink.faults l.fn.sink) (g.K.Sink.faults l.sink)
