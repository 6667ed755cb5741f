use Rattle.script_replay.proofs.Asking.{job_tells}
use Rattle.script_replay.proofs.Jobs.{replay_tells, check_tells, lint_tells, print_tells}
use Rattle.script_replay.proofs.Ready.{ready_page}
use Rattle.script_replay.proofs.Stopped.{sight_tells}
use Rattle.script_replay.proofs.script.perform.Goals as goal

pub returns-in-Replay-clause-tells : goal.returns-in-Replay-clause-tells
returns-in-Replay-clause-tells g c =
    job_tells c.run_script.result.status _ _ _ _ _ _ _ c.in-Replay.is (replay_tells c.run_script.result.status _ _ _ _ _ c.run_script.ensures.answers)

pub returns-in-Check-clause-tells : goal.returns-in-Check-clause-tells
returns-in-Check-clause-tells g c = job_tells c.write_check.result _ _ _ _ _ _ _ c.in-Check.is (check_tells c.write_check.result _ _ _ _ _ c.write_check.ensures.tells)

pub returns-in-Lint-clause-tells : goal.returns-in-Lint-clause-tells
returns-in-Lint-clause-tells g c =
    job_tells c.write_certificates.result _ _ _ _ _ _ _ c.in-Lint.is (lint_tells c.write_certificates.result _ _ _ _ _ c.write_certificates.ensures.tells)

pub returns-in-Summary-clause-tells : goal.returns-in-Summary-clause-tells
returns-in-Summary-clause-tells g c = job_tells c.summarize.result.status _ _ _ _ _ _ _ c.in-Summary.is c.summarize.ensures.tells

pub returns-in-Print-clause-tells : goal.returns-in-Print-clause-tells
returns-in-Print-clause-tells g c = job_tells c.write_script.result _ _ _ _ _ _ _ c.in-Print.is (print_tells c.write_script.result _ _ _ _ _ c.write_script.ensures.tells)

pub returns-in-AtTick-clause-tells : goal.returns-in-AtTick-clause-tells
returns-in-AtTick-clause-tells g c =
    job_tells c.write_sight.result _ _ _ _ _ _ _ c.in-AtTick.is (sight_tells c.write_sight.result c.in-AtTick.sight c.in-AtTick.number _ _ _ _ _ c.write_sight.ensures)

pub returns-in-Replay-clause-ready : goal.returns-in-Replay-clause-ready
returns-in-Replay-clause-ready g c = ready_page c.args.script.now c.run_script.result.page c.run_script.ensures.world

pub returns-in-Summary-clause-ready : goal.returns-in-Summary-clause-ready
returns-in-Summary-clause-ready g c = ready_page c.args.script.now c.summarize.result.page c.summarize.ensures.world
