use Rattle.std.proofs.Common.{◌≡◌, ◌<◌, ◌≤◌, ◌-◌, ◌∙◌, ◌++◌, ap, arith, drop, length, length-append, take}
use Rattle.std.proofs.KnownBytes.{Consumes-trans}
use Rattle.std.proofs.lemmas.Grind.{common_steps}
use Rattle.std.proofs.lemmas.List.{take-append-le, take_all}
use Rattle.script_source.proofs.Reading.{given_on, read_to_end, read_to_limit}
use Rattle.script_source.proofs.input.read_script.Goals as goal

pub returns-in-Ok-eq0-clause-read : goal.returns-in-Ok-eq0-clause-read
returns-in-Ok-eq0-clause-read g c =
    let room : 0 < length c.read.new.into = grind (arith, common_steps) in
    read_to_end 16777217 _ _ _ _ (take c.in-Ok-eq0.field-0 c.read.new.into) c.pieces.invariant.within c.pieces.invariant.consumed c.in-Ok-eq0.ensures.bytes.0
    (ap (λ n. take n c.read.new.into) c.in-Ok-eq0.field-0-test) (c.in-Ok-eq0.ensures.bytes.1 c.in-Ok-eq0.field-0-test room)

pub pieces-preserved : goal.pieces-preserved
pieces-preserved g c =
    let text = c.pieces.script in
    let piece = take c.in-Ok.given (c.read.new.into ++ drop c.min-room.result c.pieces.buffer) in
    let given : piece ≡ take c.in-Ok.given c.read.new.into = take-append-le _ _ _ c.in-Ok.ensures.within.0 in
    let short : length piece ≤ 16777217 - length text = grind (arith, common_steps) in
    let all : length (text ++ piece) ≤ 16777217 = omega (arith, length-append text piece, short, c.pieces.invariant.within) in
    let fed : c.feed.new.self ≡ text ++ piece = c.in-Ok-feed.ensures.ok ∙ take_all 16777217 (text ++ piece) all in
    record {
      consumed = given_on _ _ _ _ _ _ c.pieces.invariant.consumed c.in-Ok.ensures.bytes.0 (fed ∙ ap (λ bytes. text ++ bytes) given);
      unfailed = c.in-Ok.ensures.only_by_failing ∙ c.pieces.invariant.unfailed;
      within = omega (arith, ap length fed, all);
    }

pub returns-in_default-clause-at_most : goal.returns-in_default-clause-at_most
returns-in_default-clause-at_most g c =
    let text = c.pieces.script in
    let piece = take c.in-Ok.given c.read.new.into in
    let short : length piece ≤ 16777217 - length text = grind (arith, common_steps) in
    (text ++ piece, Consumes-trans _ _ _ _ _ c.pieces.invariant.consumed c.in-Ok.ensures.bytes.0, omega (arith, length-append text piece, short, c.pieces.invariant.within))

pub pieces-smaller : goal.pieces-smaller
pieces-smaller g c =
    let text = c.pieces.script in
    let piece = take c.in-Ok.given (c.read.new.into ++ drop c.min-room.result c.pieces.buffer) in
    let short : length piece ≤ 16777217 - length text = grind (arith, common_steps) in
    let some : 0 < length piece = grind (arith, common_steps) in
    let all : length (text ++ piece) ≤ 16777217 = omega (arith, length-append text piece, short, c.pieces.invariant.within) in
    let fed : c.feed.new.self ≡ text ++ piece = c.in-Ok-feed.ensures.ok ∙ take_all 16777217 (text ++ piece) all in
    omega (arith, ap length fed, length-append text piece, all, some)

pub returns-clause-read : goal.returns-clause-read
returns-clause-read g c =
    let full : length c.pieces.script ≡ 16777217 = omega (arith, c.pieces.invariant.within, c.pieces-test.false, c.room.ensures) in
    read_to_limit 16777217 _ _ _ full c.pieces.invariant.consumed
