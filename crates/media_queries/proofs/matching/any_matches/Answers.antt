use Rattle.std.proofs.Common.{sym, ◌∙◌}
use Rattle.media_queries.proofs.Comparisons.{any_seen}
use Rattle.media_queries.proofs.matching.any_matches.Goals as goal

pub returns : goal.returns
returns c = c.one_matches.ensures ∙ sym (any_seen c.args.width c.args.height c.args.features.now)
