use Rattle.trace_judge.proofs.Divided.{source_parts}
use Rattle.trace_judge.proofs.laws.a_source_is_its_parts.Goals as goal

pub returns : goal.returns
returns c = source_parts
