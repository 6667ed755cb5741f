-- What was read of a source, piece by piece, up to a limit.
use Rattle.std.proofs.Common.{◌≡◌, ◌≤◌, ◌∙◌, ◌++◌, ◌-◌, ap, sym, subst, arith, ℕ, List, [], length, take, drop}
use Rattle.std.proofs.lemmas.List.{append-nil, take_all, take_min, drop_all, take_at, drop_at}
use Rattle.std.proofs.Math.Nat.{min_comm}
use Rattle.std.proofs.Math.Seq.{take-append-add}
use Rattle.std.proofs.KnownBytes.{Consumes-trans}
use Rattle.std.specs.Io.KnownBytes.{Consumes, IsAtEnd}
use Rattle.std.specs.Prelude.{Option, None, Some, min}
use Rattle.script_source.specs.Sources.{ReadTo}

-- a further piece of what a source gives
pub given_on : (before now after : Option (List ℕ)) (fed piece all : List ℕ) → Consumes before now fed → Consumes now after piece → all ≡ fed ++ piece → Consumes before after all
given_on before now after fed piece all first then is = subst (λ bytes. Consumes before after bytes) (sym is) (Consumes-trans before now after fed piece first then)

-- where nothing further comes
pub read_to_end : (limit : ℕ) (before now after : Option (List ℕ)) (fed last : List ℕ) → length fed ≤ limit → Consumes before now fed → Consumes now after last → last ≡ [] → IsAtEnd after
    → ReadTo limit before after fed
read_to_end limit None now after fed last fits first then none end = tt
read_to_end limit (Some text) None after fed last fits first then none end = absurd first
read_to_end limit (Some text) (Some rest) None fed last fits first then none end = absurd then
read_to_end limit (Some text) (Some rest) (Some nothing) fed last fits first then none end =
    let same : text ≡ fed = first ∙ ap (λ bytes. fed ++ bytes) (then ∙ ap (λ bytes. bytes ++ nothing) none ∙ end) ∙ append-nil fed in
    let short : length text ≤ limit = omega (arith, fits, ap length same) in
    (sym same ∙ sym (take_all limit text short), ap Some (end ∙ sym (drop_all limit text short)))

-- where so many bytes were read
pub read_to_limit : (limit : ℕ) (before after : Option (List ℕ)) (fed : List ℕ) → length fed ≡ limit → Consumes before after fed → ReadTo limit before after fed
read_to_limit limit None after fed count first = tt
read_to_limit limit (Some text) None fed count first = absurd first
read_to_limit limit (Some text) (Some rest) fed count first =
    (sym (ap (take limit) first ∙ take_at fed rest limit count), ap Some (sym (ap (drop limit) first ∙ drop_at fed rest limit count)))

-- of a further piece so much is fed as there is room for
pub fed_within : (limit : ℕ) (text piece : List ℕ) → length text ≤ limit → text ++ take (min (length piece) (limit - length text)) piece ≡ take limit (text ++ piece)
fed_within limit text piece fits =
    ap (λ bytes. text ++ bytes) (ap (λ n. take n piece) (min_comm (length piece) (limit - length text)) ∙ take_min (limit - length text) piece)
    ∙ sym (take-append-add text piece (limit - length text))
    ∙ ap (λ n. take n (text ++ piece)) (omega (arith, fits))
