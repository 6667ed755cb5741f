use Rattle.script_model.specs.Reading.{LimitAt}
use Rattle.run_replies.proofs.Summaries.{refused_tells}
use Rattle.run_replies.proofs.refusing.meet_limit.Goals as goal

pub returns-clause-tells : goal.returns-clause-tells
returns-clause-tells g c =
    rw c.status_of.ensures.status
    (refused_tells c.write_limit-wrote.result (LimitAt c.args.kind c.args.line) _ _ _ _ (rw c.number-number.ensures at c.write_limit-wrote.ensures.told))
