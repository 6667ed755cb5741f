-- By the definitions, and by what the laws of `loop_lint` promise.
use Rattle.loop_lint.specs.Verdicts.{moves, disturbs}
use Rattle.replay_run.proofs.Reader.{lint_asked, lint_written, steady_where, quiet_where, steady_too, quiet_too}
use Rattle.replay_run.proofs.reader_laws.certificates_hold_for_each_run.Goals as goal

pub returns-clause-asked : goal.returns-clause-asked
returns-clause-asked c = lint_asked

pub returns-clause-written : goal.returns-clause-written
returns-clause-written c = lint_written

pub returns-clause-steady : goal.returns-clause-steady
returns-clause-steady c = steady_where

pub returns-clause-quiet : goal.returns-clause-quiet
returns-clause-quiet c = quiet_where

pub returns-clause-runs_steadily : goal.returns-clause-runs_steadily
returns-clause-runs_steadily c = λ items is version other has.
    c.steady_scripts_have_steady_loops.ensures version other (steady_too items other (c.verdicts_rest_on_handlers.ensures moves items other has) is)

pub returns-clause-runs_quietly : goal.returns-clause-runs_quietly
returns-clause-runs_quietly c = λ items is text other read has.
    c.quiet_scripts_report_no_errors.ensures text other read (quiet_too items (other.items) (c.verdicts_rest_on_handlers.ensures disturbs items (other.items) has) is)
