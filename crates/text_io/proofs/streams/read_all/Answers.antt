use Rattle.std.proofs.Common.{◌++◌, ◌+◌, ◌≤◌, length, take, arith, length-append}
use Rattle.std.proofs.lemmas.Grind.{common_steps}
use Rattle.std.proofs.KnownBytes.{Consumes-trans}
use Rattle.text_io.proofs.streams.read_all.Goals as goal

pub returns-in_err-map_err-in-Ok-clause-at_most : goal.returns-in_err-map_err-in-Ok-clause-at_most
returns-in_err-map_err-in-Ok-clause-at_most g c =
    let piece = take c.in-Ok.given c.read.new.into in
    let fits : length c.loop-buffer.bytes.items + length piece ≤ c.args.limit + 1 = grind (arith, common_steps) in
    (c.loop-buffer.bytes.items ++ piece, Consumes-trans _ _ _ _ _ c.loop-buffer.invariant.consumed c.in-Ok.ensures.bytes.0, omega (arith, length-append c.loop-buffer.bytes.items piece))
