use Rattle.std.proofs.Common.{◌≡◌, ◌<◌, ◌≤◌, ◌-◌, ◌∙◌, ◌++◌, ap, arith, drop, length, take}
use Rattle.std.proofs.KnownBytes.{Consumes-nil}
use Rattle.std.proofs.lemmas.Grind.{common_steps}
use Rattle.std.proofs.lemmas.List.{take-append-le}
use Rattle.recorded_source.specs.Recorded.{Divided, has_feed}
use Rattle.recorded_source.proofs.Feeding.{divided_all, end_all, passed, takes_at_most, taking_more, taking_none}
use Rattle.script_source.proofs.Reading.{given_on}
use Rattle.recorded_source.proofs.recorded.read_pieces.Goals as goal

pub pieces-init : goal.pieces-init
pieces-init g c = taking_none _ _ _ c.new-it.ensures (Consumes-nil _)

pub returns-in-Ok-eq0-clause-divided : goal.returns-in-Ok-eq0-clause-divided
returns-in-Ok-eq0-clause-divided g c =
    let room : 0 < length c.read.new.into = grind (arith, common_steps) in
    divided_all _ _ _ _ _ c.pieces.invariant _ (take c.in-Ok-eq0.field-0 c.read.new.into) _ c.into_recorded.ensures c.in-Ok-eq0.ensures.bytes.0
    (ap (λ n. take n c.read.new.into) c.in-Ok-eq0.field-0-test) (c.in-Ok-eq0.ensures.bytes.1 c.in-Ok-eq0.field-0-test room)

pub returns-in-Ok-eq0-clause-held : goal.returns-in-Ok-eq0-clause-held
returns-in-Ok-eq0-clause-held g c = ap (λ (it : Divided). has_feed it.begun) c.into_recorded.ensures ∙ c.pieces.invariant.held

pub returns-in-Ok-eq0-clause-end : goal.returns-in-Ok-eq0-clause-end
returns-in-Ok-eq0-clause-end g c =
    let room : 0 < length c.read.new.into = grind (arith, common_steps) in
    let more : c.pieces.it.bytes < 67108865 = omega (arith, c.pieces-test.true, c.room.ensures) in
    end_all _ _ _ _ _ c.pieces.invariant _ (take c.in-Ok-eq0.field-0 c.read.new.into) more c.in-Ok-eq0.ensures.bytes.0
    (ap (λ n. take n c.read.new.into) c.in-Ok-eq0.field-0-test) (c.in-Ok-eq0.ensures.bytes.1 c.in-Ok-eq0.field-0-test room)

pub pieces-preserved : goal.pieces-preserved
pieces-preserved g c =
    let here = c.pieces.invariant in
    let piece = take c.in-Ok.given (c.read.new.into ++ drop c.min-room.result c.pieces.buffer) in
    let given : piece ≡ take c.in-Ok.given c.read.new.into = take-append-le _ _ _ c.in-Ok.ensures.within.0 in
    taking_more _ _ _ _ _ here _ _ piece _ (given_on _ _ _ _ _ _ here.consumed c.in-Ok.ensures.bytes.0 (ap (λ bytes. here.fed ++ bytes) given))
    c.in-Ok.ensures.only_by_failing c.in-Ok-take.ensures.within c.in-Ok-take.ensures.held (λ fed. c.in-Ok-take.ensures.fed _ fed)

pub returns-in_default-clause-at_most : goal.returns-in_default-clause-at_most
returns-in_default-clause-at_most g c =
    let piece = take c.in-Ok.given c.read.new.into in
    let short : length piece ≤ 67108865 - c.pieces.it.bytes = grind (arith, common_steps) in
    takes_at_most _ _ _ _ _ c.pieces.invariant _ piece short c.in-Ok.ensures.bytes.0

pub returns-clause-fault : goal.returns-clause-fault
returns-clause-fault g c =
    let full : 67108865 ≤ c.pieces.it.bytes = omega (arith, c.pieces-test.false, c.room.ensures) in
    passed _ _ _ _ _ c.feeds.result c.feeds.ensures c.pieces.invariant full
