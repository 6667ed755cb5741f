use Rattle.script_generator.proofs.Generated.{generated_reads}
use Rattle.script_generator.proofs.laws.generated_text_is_a_script.Goals as goal

pub returns : goal.returns
returns c = generated_reads c.printed_script_reads_back.ensures
