use Rattle.replay_run.proofs.Reader.{number_tells}
use Rattle.replay_run.proofs.call.perform_on_number.Goals as goal

pub returns-in-Print-clause-tells : goal.returns-in-Print-clause-tells
returns-in-Print-clause-tells g c =
    number_tells c.write_generated.result c.args.job c.args.number _ _ _ _ c.in-Print.is (c.generated_text_is_a_script.ensures c.args.number) c.write_generated.ensures.tells
