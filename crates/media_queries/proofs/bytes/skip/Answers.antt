use Rattle.std.proofs.Common.{◌≡◌, false, get_or, arith, rules}
use Rattle.script_model.specs.Media.{is_blank}
use Rattle.media_queries.proofs.Words.{skip_stops, skip_ends}
use Rattle.media_queries.proofs.bytes.skip.Goals as goal

pub returns-then-not-is_blank : goal.returns-then-not-is_blank
returns-then-not-is_blank c =
    let more : is_blank (get_or c.args.text.now c.loop-place.place 0) ≡ false = search rules in
    skip_stops c.args.text.now c.loop-place.place _ (omega arith) c.loop-place.invariant more

pub returns : goal.returns
returns c = skip_ends c.args.text.now c.loop-place.place _ (omega arith) c.loop-place.invariant
