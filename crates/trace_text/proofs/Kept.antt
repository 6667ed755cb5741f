-- What stood before is kept where something is appended.
use Rattle.std.proofs.Common.{◌≡◌, ℕ, ◌≤◌, List, [], ◌++◌, length, take, drop, ap, sym, ◌∙◌, append-nil, arith}
use Rattle.std.proofs.Math.Seq.{take-append_seam}
use Rattle.std.proofs.lemmas.List.{length-take, take-append-drop, take-append-le}
use Rattle.std.specs.Io.{StartsWith}

pub keeps_more : (old more new : List ℕ) → new ≡ old ++ more → StartsWith new old
keeps_more old more new e = ap (λ l. take (length old) l) e ∙ take-append_seam old more

pub keeps_same : (old new : List ℕ) → new ≡ old → StartsWith new old
keeps_same old new e = keeps_more old [] new (e ∙ sym (append-nil old))

pub keeps_on : (old middle new : List ℕ) → StartsWith middle old → StartsWith new middle → StartsWith new old
keeps_on old middle new e f =
    let short : length old ≤ length middle = omega (arith, length-take (length old) middle, ap length e) in
    let within : length old ≤ length (take (length middle) new) = omega (arith, short, ap length f) in
    ap (λ l. take (length old) l) (sym (take-append-drop (length middle) new))
    ∙ take-append-le (length old) (take (length middle) new) (drop (length middle) new) within
    ∙ ap (λ l. take (length old) l) f ∙ e
