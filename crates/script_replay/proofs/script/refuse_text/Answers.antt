use Rattle.std.proofs.Common.{refl}
use Rattle.trace_runs.proofs.Writes.{no_line}
use Rattle.script_replay.proofs.Asking.{refusal_tells}
use Rattle.script_replay.proofs.script.refuse_text.Goals as goal

pub returns-in-Syntax-clause-tells : goal.returns-in-Syntax-clause-tells
returns-in-Syntax-clause-tells g c =
    λ job read is. refusal_tells c.refuse_at.result job _ read _ _ _ _ (rw c.in-Syntax.is at is) c.refuse_at.ensures.tells

pub returns-in-ScriptLimit-clause-tells : goal.returns-in-ScriptLimit-clause-tells
returns-in-ScriptLimit-clause-tells g c =
    λ job read is. refusal_tells c.meet_limit.result job _ read _ _ _ _ (rw c.in-ScriptLimit.is at is) c.meet_limit.ensures.tells

pub returns-in-Memory-clause-tells : goal.returns-in-Memory-clause-tells
returns-in-Memory-clause-tells g c = λ job read is. (no_line _ _, refl)
