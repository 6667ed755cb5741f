use Rattle.stream_replay.proofs.SideBySide.{stream_tells, stream_fit}
use Rattle.stream_replay.proofs.side_by_side.run_opened.Goals as goal

pub returns-clause-tells : goal.returns-clause-tells
returns-clause-tells g c = λ before faults begun unfailed.
    rw c.status_of.ensures.status
    (stream_tells c.run_parts-wrote.result c.args.stream.now c.status_by.result _ _ _ before _ _ faults _ _ c.requires.opened c.parts.ensures begun unfailed c.run_parts-wrote.ensures.wrote c.run_parts-wrote.ensures.pages c.status_by.ensures)

pub returns-clause-lines : goal.returns-clause-lines
returns-clause-lines g c =
    rw c.status_of.ensures.status
    (stream_fit c.run_parts-wrote.result c.args.stream.now c.status_by.result _ _ _ _ _ _ c.requires.opened c.parts.ensures c.requires.lines c.run_parts-wrote.ensures.wrote c.run_parts-wrote.ensures.lines)
