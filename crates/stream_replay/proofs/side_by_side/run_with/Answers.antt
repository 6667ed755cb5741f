use Rattle.std.specs.List.{All}
use Rattle.stream_runs.specs.Alone.{IsOneLine, stream_lines}
use Rattle.stream_replay.proofs.SideBySide.{cut_tells, cut_whole}
use Rattle.stream_replay.proofs.side_by_side.run_with.Goals as goal

pub returns-in-Ok-clause-tells : goal.returns-in-Ok-clause-tells
returns-in-Ok-clause-tells g c = c.run_opened.ensures.tells _ _ c.in-Ok.ensures.wrote.0 c.in-Ok.ensures.wrote.1

pub returns-in-Err-clause-tells : goal.returns-in-Err-clause-tells
returns-in-Err-clause-tells g c = rw c.status_of.ensures.status (cut_tells (Unit {0}) c.in-Err.fault c.args.stream.now _ _ _ _ c.in-Err.ensures.wrote)

pub returns-in-Err-clause-lines : goal.returns-in-Err-clause-lines
returns-in-Err-clause-lines g c =
    rw c.status_of.ensures.status (cut_whole (Unit {0}) (All IsOneLine (stream_lines c.args.stream.now)) c.in-Err.fault _ _ _ _ _ c.in-Err.ensures.wrote)
