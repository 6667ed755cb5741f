use Rattle.std.proofs.Common.{◌≡◌}
use Rattle.std.proofs.lemmas.List.Elements.{All-weaker}
use Rattle.trace_runs.specs.declared.faults.RunFault.TheVariants.{Memory}
use Rattle.trace_text.specs.Ranges.{IsLine}
use Rattle.stream_runs.specs.Alone.{IsOneLine}
use Rattle.stream_replay.proofs.NamedLines.{stopped}
use Rattle.stream_replay.proofs.SideBySide.{memory_cut, on_ok}
use Rattle.stream_replay.proofs.stream_page.take_turn.Goals as goal

pub returns-in_err-turn-clause-wrote : goal.returns-in_err-turn-clause-wrote
returns-in_err-turn-clause-wrote g c =
    stopped c.from_residual.result c.in_err-turn.field-0.0 _ _ _ _ _ c.from_residual.ensures
    (memory_cut c.in_err-turn.field-0.0 _ _ _ (let memory = c.in_err-turn.ensures.memory in let is : c.in_err-turn.field-0.0 ≡ Memory = cc in is))

pub returns-clause-lines : goal.returns-clause-lines
returns-clause-lines g c = on_ok c.write_named.result (All-weaker IsLine IsOneLine c.line_ends_once.ensures _ c.in_ok-turn.ensures.lines.fit)
