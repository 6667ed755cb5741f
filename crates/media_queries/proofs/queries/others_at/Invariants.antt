use Rattle.std.proofs.Common.{◌≡◌, length, map}
use Rattle.script_model.specs.Media.{others_at}
use Rattle.media_queries.specs.Seen.{feature_of}
use Rattle.media_queries.proofs.Joined.{behind}
use Rattle.media_queries.proofs.queries.others_at.Given as goal

abbrev pub invariant-loop-rest : goal.invariant-loop-rest
invariant-loop-rest l = behind (map feature_of l.features.items) (others_at l.joint l.rest) ≡ others_at l.joint l.fn.text

abbrev pub decreases-loop-rest : goal.decreases-loop-rest
decreases-loop-rest l = length l.rest
