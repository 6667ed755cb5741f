use Rattle.std.proofs.Common.{sym}
use Rattle.run_replies.proofs.Summaries.{not_done}
use Rattle.script_replay.proofs.report.Report.with_page.Goals as goal

pub returns-in_default-clause-page : goal.returns-in_default-clause-page
returns-in_default-clause-page c = sym (not_done c.args.status c.in_default.not-Done)
