use Rattle.std.proofs.Common.{◌≡◌, drop}
use Rattle.script_model.specs.Media.{word_at}
use Rattle.media_queries.proofs.bytes.word_at.Given as goal

abbrev pub invariant-loop-byte : goal.invariant-loop-byte
invariant-loop-byte l = word_at (drop l.byte-index l.word) l.rest ≡ word_at l.word l.fn.text
