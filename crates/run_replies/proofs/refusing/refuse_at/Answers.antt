use Rattle.script_model.specs.Reading.{SyntaxAt}
use Rattle.run_replies.proofs.Summaries.{refused_tells}
use Rattle.run_replies.proofs.refusing.refuse_at.Goals as goal

pub returns-clause-tells : goal.returns-clause-tells
returns-clause-tells g c =
    rw c.status_of.ensures.status (refused_tells c.write_one-wrote.result (SyntaxAt c.args.line c.args.column) _ _ _ _ c.write_one-wrote.ensures.told)
