use Rattle.std.proofs.Common.{map}
use Rattle.stream_replay.specs.StreamPages.{seen_page}
use Rattle.stream_replay.proofs.SideBySide.{Turning}
use Rattle.stream_replay.proofs.side_by_side.run_parts.Given as goal

-- so many lines were taken
abbrev pub invariant-loop-part : goal.invariant-loop-part
invariant-loop-part g l =
    Turning (map seen_page l.fn.pages) l.parts l.part-index l.pages (g.K.Sink.taken l.fn.sink) (g.K.Sink.taken l.sink) (g.K.Sink.faults l.fn.sink) (g.K.Sink.faults l.sink)
