use Rattle.std.proofs.Common.{◌≡◌, drop}
use Rattle.script_model.specs.Media.{skip}
use Rattle.media_queries.proofs.bytes.skip.Given as goal

abbrev pub invariant-loop-place : goal.invariant-loop-place
invariant-loop-place l = skip (drop l.place l.text) ≡ skip l.text
