use Rattle.std.proofs.Common.{◌∙◌}
use Rattle.kept_findings.proofs.Viewing.{margins_got}
use Rattle.kept_findings.proofs.findings.margins_at.Goals as goal

pub returns : goal.returns
returns c = c.index-scroll_margins-watcher.is ∙ margins_got c.args.scroll_margins.now c.args.watcher.0 c.index-scroll_margins-watcher.result c.requires
