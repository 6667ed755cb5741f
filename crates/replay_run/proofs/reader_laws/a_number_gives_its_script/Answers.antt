-- By the definitions, and by the law that a generated text is a script.
use Rattle.replay_run.proofs.Reader.{generate_asked, generated_reply}
use Rattle.replay_run.proofs.reader_laws.a_number_gives_its_script.Goals as goal

pub returns-clause-asked : goal.returns-clause-asked
returns-clause-asked c = generate_asked

pub returns-clause-written : goal.returns-clause-written
returns-clause-written c = λ number source. generated_reply number (c.generated_text_is_a_script.ensures number)

pub returns-clause-script : goal.returns-clause-script
returns-clause-script c = λ number. (let it = c.generated_text_is_a_script.ensures number in (it.0, it.1))
