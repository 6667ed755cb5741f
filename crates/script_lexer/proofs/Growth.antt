-- What stays while lines and words are added.
use Rattle.std.proofs.Common.{◌≡◌, ◌≤◌, List, length, take, ap, sym, ◌∙◌, arith}
use Rattle.std.proofs.lemmas.List.{take-take, length-take}
use Rattle.script_lexer.specs.Places.{Places, Grown}

stays : {X : Type 0} (xs ys zs : List X) → take (length xs) ys ≡ xs → take (length ys) zs ≡ ys → take (length xs) zs ≡ xs
stays xs ys zs first second =
    let short : length xs ≤ length ys = omega (arith, sym (length-take (length xs) ys) ∙ ap length first) in
    sym (take-take (length xs) (length ys) zs short) ∙ ap (take (length xs)) second ∙ first

pub grown_on : (p q r : Places) → Grown p q → Grown q r → Grown p r
grown_on p q r first second = (stays p.lines q.lines r.lines first.0 second.0, stays p.words q.words r.words first.1 second.1)
