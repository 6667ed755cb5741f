use Rattle.std.proofs.Common.{sym, ◌∙◌}
use Rattle.media_queries.proofs.Comparisons.{all_seen}
use Rattle.media_queries.proofs.matching.all_match.Goals as goal

pub returns : goal.returns
returns c = c.each_matches.ensures ∙ sym (all_seen c.args.width c.args.height c.args.features.now)
